-- The memories keep their lengths, no description is under way, and what was printed is that of the bytes that were read.
use Rattle.std.proofs.Common.{◌≡◌, ◌<◌, IfSome, length}
use Rattle.script.specs.Calls.{script_start}
use Rattle.play.specs.inner.Steps.{Still, PrintsOf}
use Rattle.play.proofs.run.Given as goal

abbrev pub invariant-loop : goal.invariant-loop
invariant-loop g l =
    (length l.words ≡ length l.initial.words) × (length l.out ≡ length l.initial.out) × (length l.space ≡ length l.initial.space) × Still l.script
    × (0 < length l.space → IfSome (g.R.Read.remaining l.initial.from) (λ input. PrintsOf input (g.R.Read.remaining l.from)
    (g.W.Write.contents l.initial.to) (g.W.Write.contents l.to) script_start l.initial.words l.script l.words))
