-- What the checks of a request say in a sound list, and the steps that follow. Assumes nothing.
use Prim.Native.Nat.{ℕ, ◌<◌}
use mathlib.Core.Bool.{true}
use mathlib.Core.List.{List}
use mathlib.Core.Path.{◌≡◌, ap, ◌∙◌}
use Rattle.units.specs.Rules.{good_align}
use Rattle.units.specs.declared.rules.Arena.{Arena}
use Rattle.units.specs.declared.aims.Aim.{Aim}
use Rattle.model.specs.Marks.{Range}
use Rattle.list_edits.specs.inner.Chains.{Held, chain_of}
use Rattle.list_words.specs.declared.Chain.{Chain}
use Rattle.list_land.specs.Layout.{closed, closed_with}
use Rattle.list_land.specs.inner.Parts.{arena_in, chain_in, Looked}
use Rattle.list_land.specs.declared.ListLand.{ListLand}
use Rattle.list_land.proofs.Sound.{Fine, fine, placed, sound-walk}
use Rattle.list_words.specs.declared.Spot.{Spot}

pub looked-fine : (h : ListLand) (ws : List ℕ) (aim : Aim) (s : Spot) → Looked h ws aim s → Fine h ws
looked-fine h ws aim s k = fine h ws k.good k.whole

pub looked-positive : (h : ListLand) (ws : List ℕ) (aim : Aim) (s : Spot) (a : Arena) → Looked h ws aim s → a ≡ arena_in h → 0 < a.align.0
looked-positive h ws aim s a k e = rw e (placed h ws k.good).positive

pub looked-align : (h : ListLand) (ws : List ℕ) (aim : Aim) (s : Spot) → Looked h ws aim s → good_align h.align.0 ≡ true
looked-align h ws aim s k = (placed h ws k.good).arena.align

-- the spot of the arena and the chain that the code passes on
pub looked-held : (h : ListLand) (ws : List ℕ) (aim : Aim) (s : Spot) → Looked h ws aim s → (a : Arena) → a ≡ arena_in h → (c : Chain) → c ≡ chain_in h → Held a ws c aim s
looked-held h ws aim s k a ea c ec = rw (ea, ec) (record { ready = (placed h ws k.good).ready; whole = sound-walk h ws k.whole; kept = k.kept })

-- the next handle, from the chain of its ranges
pub closes : (h : ListLand) (rs : List Range) (n : Chain) → n ≡ chain_of rs → (z : ListLand) → z ≡ closed_with h n.head n.ranges n.bytes → z ≡ closed h rs
closes h rs n e z ez = ez ∙ ap (λ (v : Chain). closed_with h v.head v.ranges v.bytes) e
