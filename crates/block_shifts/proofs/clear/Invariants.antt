-- `clear` meets its contract: the pairs are set to 0 from the last down. Assumes nothing.
use Rattle.block_shifts.proofs.Clearing.{Clearing}
use Rattle.block_shifts.proofs.clear.Given as goal

abbrev pub invariant-loop-i : goal.invariant-loop-i
invariant-loop-i l = Clearing l.initial.nodes l.nodes l.i
