-- `lines_from` meets its contract: the lines up to an address stand in the buffer. Assumes nothing.
use Prim.Native.Nat.{◌-◌}
use lib.ListN.{length}
use Rattle.script.proofs.Telling.{Telling}
use Rattle.script.proofs.turns.lines_from.Given as goal

abbrev pub invariant-loop-out : goal.invariant-loop-out
invariant-loop-out l = Telling l.land l.words l.initial.out l.initial.from l.out l.from l.at

abbrev pub decreases-loop-out : goal.decreases-loop-out
decreases-loop-out l = length l.initial.out - l.at
