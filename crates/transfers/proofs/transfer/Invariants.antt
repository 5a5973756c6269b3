-- `transfer` meets its contract: range after range, until none is left or one is refused. Assumes nothing.
use Prim.Native.Nat.{◌-◌}
use lib.ListN.{length}
use Rattle.transfers.proofs.Transferring.{Along}
use Rattle.transfers.proofs.transfer.Given as goal

abbrev pub invariant-loop-arena : goal.invariant-loop-arena
invariant-loop-arena l = Along l.arena l.words l.initial.cur.at.0 l.initial.nodes l.count l.nodes l.cur

abbrev pub decreases-loop-arena : goal.decreases-loop-arena
decreases-loop-arena l = length l.words - l.cur.moved
