-- Each turn uses a byte, the memories keep their lengths, no description is under way, and what was printed is that of the bytes used.
use Rattle.std.proofs.Common.{◌≡◌, length}
use Rattle.play.specs.inner.Steps.{Still, Prints}
use Rattle.play.proofs.feed.Given as goal

abbrev pub invariant-loop-left : goal.invariant-loop-left
invariant-loop-left g l =
    (length l.words ≡ length l.initial.words) × (length l.out ≡ length l.initial.out) × Still l.script
    × Prints (g.W.Write.contents l.initial.to) (g.W.Write.contents l.to) l.initial.script l.initial.words l.bytes l.script l.words l.left

abbrev pub decreases-loop-left : goal.decreases-loop-left
decreases-loop-left g l = length l.left
