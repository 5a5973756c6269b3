-- `feed` meets its contract: line after line. Assumes nothing.
use Prim.Native.Nat.{◌-◌}
use mathlib.Core.Bool.{false}
use mathlib.Core.Path.{◌≡◌}
use lib.ListN.{length}
use Rattle.script.specs.inner.Feeding.{Goes}
use Rattle.script.proofs.Script.feed.Given as goal

abbrev pub invariant-loop-fed : goal.invariant-loop-fed
invariant-loop-fed l =
    (length l.words ≡ length l.initial.words) × Goes l.initial.fed.script l.initial.words l.bytes 0 l.initial.out 0 l.fed l.words l.out × (l.fed.full ≡ false)

abbrev pub decreases-loop-fed : goal.decreases-loop-fed
decreases-loop-fed l = length l.bytes - l.fed.used
