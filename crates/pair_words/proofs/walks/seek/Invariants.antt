-- `seek` meets its contract: nothing before the cursor fits. Assumes nothing.
use Prim.Native.Nat.{◌+◌, ◌-◌}
use Rattle.pair_words.proofs.Seeking.{Pursuing}
use Rattle.pair_words.proofs.walks.seek.Given as goal

abbrev pub invariant-loop-arena : goal.invariant-loop-arena
invariant-loop-arena l = Pursuing l.arena l.words l.initial.cur.at.0 l.nodes l.n l.goal l.prev l.cur l.i

abbrev pub decreases-loop-arena : goal.decreases-loop-arena
decreases-loop-arena l = l.arena.limit.0 + 1 - l.cur.low.0
