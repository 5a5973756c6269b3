-- What is claimed of the alignment test, request K3. Assumes nothing.
use Rattle.std.specs.Prelude.{ℕ, ◌^◌, ◌≤◌, ◌↔◌, ◌≡◌, Result, Ok, Err}
use Rattle.units.specs.Rules.{bad_align, align_check}
use Rattle.units.specs.declared.Align.{Align}
use Rattle.units.specs.declared.rules.BadAlign.{BadAlign}

-- n is one of the powers of two from 8 to 4,096: 2^k for some k from 3 to 12
abbrev pub PowerFrom8 : ℕ → Type 0
PowerFrom8 n = (k : ℕ) × (3 ≤ k) × (k ≤ 12) × (n ≡ 2 ^ k)

-- Of every alignment a, that is of every 64-bit number, and of every answer r that the contract of `Align::check` allows: it
-- passes exactly the powers of two from 8 to 4,096, and refuses exactly the others.
abbrev pub AlignTest : Type 0
AlignTest =
    (a : Align) (r : Result (Unit {0}) BadAlign) → r ≡ align_check a.0 →
    ((r ≡ Ok tt) ↔ PowerFrom8 a.0) × ((r ≡ Err bad_align) ↔ (PowerFrom8 a.0 → ⊥))
