-- The first range that reaches a request's limit holds the request exactly if it begins at or below it. Assumes nothing.
use Prim.Native.Nat.{ℕ, suc, ◌<◌}
use mathlib.Core.Bool.{Bool, true, false, and-false}
use mathlib.Core.List.{List, [], ◌∷◌}
use mathlib.Core.Option.{some}
use mathlib.Core.Path.{◌≡◌, refl, sym, ◌∙◌}
use native.Mathlib.Omega.{arith}
use lib.Dec.{eqb, leb}
use borrow.Author.Tests.{ne_eqb, lt-leb}
use Rattle.units.specs.declared.Range as units
use Rattle.units.proofs.Tests.{by, clash, tests, and_right, or-second}
use Rattle.model.specs.Marks.{Range}
use Rattle.model.specs.inner.Lists.{Apart, covers, holds, holder}
use Rattle.model.specs.inner.Picks.{here_of}
use Rattle.model.proofs.Bytes.{mem-from}
use Rattle.model.proofs.Places.{holds-above}
use Rattle.model.proofs.Reaching.{reach}
use Rattle.model.proofs.Surrounding.{held}
use Rattle.pair.specs.inner.Deletes.{begins}

pub begins-holds : (y : units.Range) (lo hi : ℕ) (rs : List Range) → 0 < lo → y.base.0 < y.limit.0 → Apart lo hi rs →
    begins y (here_of (reach y.limit.0 rs)) ≡ holds y.base.0 y.limit.0 rs
begins-holds y lo hi [] z o a = refl
begins-holds y lo hi (r ∷ rs) z o a =
    let n = ne_eqb r.base 0 (λ q. omega arith) in
    by (leb y.limit.0 r.limit)
    (λ e. by (leb r.base y.base.0)
    (λ d. rw (e, d, n))
    (λ d. rw (e, d, n) (sym (holds-above y.base.0 y.limit.0 (suc r.limit) hi rs (omega tests) a.3))))
    (λ e. rw (e, and-false (leb r.base y.base.0)) (begins-holds y (suc r.limit) hi rs (omega arith) o a.3))

pub reach-holder : (b l lo hi : ℕ) (rs : List Range) → b < l → Apart lo hi rs → holds b l rs ≡ true → reach l rs ≡ some (holder b l rs)
reach-holder b l lo hi [] o a e = clash e refl
reach-holder b l lo hi (r ∷ rs) o a e =
    by (covers b l r)
    (λ f. rw (f, and_right (leb r.base b) (leb l r.limit) f))
    (λ f. let h = or-second (covers b l r) (holds b l rs) e f in
    let w = held b l rs h in
    let low = w.low in
    let m = mem-from (suc r.limit) hi rs (holder b l rs) a.3 w.mem in
    rw (f, lt-leb l r.limit (omega arith)) (reach-holder b l (suc r.limit) hi rs o a.3 h))

-- the ways out of `begins_below`
module _ (y here : units.Range) (t : Bool) (et : t ≡ eqb here.base.0 0) where
  pub begins-none : t ≡ true → false ≡ begins y here
  begins-none f = rw (sym et ∙ f)

  pub begins-some : t ≡ false → (u : Bool) → u ≡ leb here.base.0 y.base.0 → u ≡ begins y here
  begins-some f u eu = rw (sym et ∙ f) eu
