-- `Align::check` meets its contract: each of its numbers is an alignment, and each alignment is one of them. Assumes nothing.
use Prim.Native.Nat.{ℕ}
use mathlib.Core.List.{List, [], ◌∷◌}
use mathlib.Core.Path.{refl}
use Rattle.units.specs.Rules.{good_align}
use Rattle.units.proofs.Alignments.{align-good, align-bad}
use Rattle.units.proofs.Align.check.Goals as goal

abbrev least : ℕ
least = 8

abbrev rest : List ℕ
rest = 16 ∷ 32 ∷ 64 ∷ 128 ∷ 256 ∷ 512 ∷ 1024 ∷ 2048 ∷ 4096 ∷ []

pub returns-in-8 : goal.returns-in-8
unfolding good_align
returns-in-8 c = align-good c.args.self.0 least rest c.in-8.is refl

pub returns-in_default : goal.returns-in_default
unfolding good_align
returns-in_default c = align-bad c.args.self.0 least rest c.in_default.in_default-own.rest.1 refl
