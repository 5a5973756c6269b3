-- The buffer keeps its length, what was printed is told, and each turn leaves less to print.
use Rattle.std.proofs.Common.{◌≡◌, [], length}
use Rattle.script.proofs.RunsExist.{to-print}
use Rattle.play.specs.inner.Steps.{Prints}
use Rattle.play.proofs.describe.Given as goal

abbrev pub invariant-loop-out : goal.invariant-loop-out
invariant-loop-out g l =
    (length l.out ≡ length l.initial.out) × Prints (g.W.Write.contents l.initial.to) (g.W.Write.contents l.to) l.initial.script l.words [] l.script l.words []

abbrev pub decreases-loop-out : goal.decreases-loop-out
decreases-loop-out g l = to-print l.script l.words
