-- `put` meets its contract: each turn of the loop writes one digit. Assumes nothing.
use Rattle.texts.proofs.Putting.{Putting}
use Rattle.texts.proofs.put.Given as goal

abbrev pub invariant-loop-rest : goal.invariant-loop-rest
invariant-loop-rest l = Putting l.initial.out l.at l.n l.next l.out l.i l.rest

abbrev pub decreases-loop-rest : goal.decreases-loop-rest
decreases-loop-rest l = l.rest
