-- The range that a look kept: the one that the walk or a find chooses, if there is one. Assumes nothing.
use Prim.Native.Nat.{◌<◌}
use mathlib.Core.Bool.{true, false}
use mathlib.Core.Option.{Option, none, some}
use mathlib.Core.Path.{◌≡◌, refl}
use native.Mathlib.Omega.{arith}
use lib.Dec.{eqb}
use borrow.Author.Tests.{ne_eqb}
use Rattle.units.specs.declared.Range as units
use Rattle.units.proofs.Tests.{clash}
use Rattle.model.specs.Marks.{Range, struct}
use Rattle.model.specs.inner.Picks.{here_of}

pub record Choice (o : Option Range) (r : units.Range) : Type 0 where
  pub range : Range
  pub is : o ≡ some range
  pub here : r ≡ struct range

module _ (r : units.Range) where
  pub none-chosen : (o : Option Range) → r ≡ here_of o → ((q : Range) → o ≡ some q → 0 < q.base) → eqb r.base.0 0 ≡ true → o ≡ none
  none-chosen none e z t = refl
  none-chosen (some q) e z t = clash t (rw e (ne_eqb q.base 0 (λ d. omega (arith, z q refl))))

  pub some-chosen : (o : Option Range) → r ≡ here_of o → eqb r.base.0 0 ≡ false → Choice o r
  some-chosen none e t = clash {t = eqb r.base.0 0} (rw e) t
  some-chosen (some q) e t = record { range = q; is = refl; here = e }
