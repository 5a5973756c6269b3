-- What a derived comparison of two addresses or sizes tells: an order of their numbers. Assumes nothing.
use Rattle.std.proofs.Common.{◌≡◌, ℕ, ◌<◌, ◌≤◌, Bool, true, false, eqb, ltb, leb, sym, refl, ◌∙◌, ltb-true, ltb-false, arith}
use Rattle.std.proofs.lemmas.Bool.{eqb-false}
use Rattle.std.specs.Ordering.{nat_cmp, is_lt, is_le}
use Rattle.std.proofs.lemmas.Map.Keys.{ge_from_not_lt, le_from_is_le}
use borrow.Author.Tests.{le-leb, lt-leb}
use Rattle.units.proofs.Tests.{by, clash}

less : (x y : ℕ) → is_lt (nat_cmp x y) ≡ true → x < y
less x y h =
    by (ltb x y)
    (λ t. ltb-true x y t)
    (λ t. by (eqb x y) (λ k. let e : false ≡ true = rw (t, k) at h in clash e refl) (λ k. let e : false ≡ true = rw (t, k) at h in clash e refl))

more : (x y : ℕ) → is_le (nat_cmp x y) ≡ false → y < x
more x y h =
    by (ltb x y)
    (λ t. let e : true ≡ false = rw t at h in clash (sym e) refl)
    (λ t. by (eqb x y)
    (λ k. let e : true ≡ false = rw (t, k) at h in clash (sym e) refl)
    (λ k. omega (arith, eqb-false x y k, ltb-false x y t)))

lt-is : (x y : ℕ) → is_lt (nat_cmp x y) ≡ ltb x y
lt-is x y = by (ltb x y) (λ t. rw t) (λ t. by (eqb x y) (λ k. rw (t, k)) (λ k. rw (t, k)))

le-is : (x y : ℕ) → is_le (nat_cmp x y) ≡ leb x y
le-is x y =
    by (is_le (nat_cmp x y))
    (λ t. rw (t, le-leb x y (le_from_is_le x y t)))
    (λ t. rw (t, lt-leb x y (more x y t)))

module _ (x y : ℕ) (r : Bool) where
  pub told-lt : r ≡ is_lt (nat_cmp x y) → r ≡ true → x < y
  told-lt e t = less x y (sym e ∙ t)

  pub told-ge : r ≡ is_lt (nat_cmp x y) → r ≡ false → y ≤ x
  told-ge e t = ge_from_not_lt x y (sym e ∙ t)

  pub told-le : r ≡ is_le (nat_cmp x y) → r ≡ true → x ≤ y
  told-le e t = le_from_is_le x y (sym e ∙ t)

  pub told-gt : r ≡ is_le (nat_cmp x y) → r ≡ false → y < x
  told-gt e t = more x y (sym e ∙ t)

  -- as the tests of definitions
  pub told-ltb : r ≡ is_lt (nat_cmp x y) → r ≡ ltb x y
  told-ltb e = e ∙ lt-is x y

  pub told-leb : r ≡ is_le (nat_cmp x y) → r ≡ leb x y
  told-leb e = e ∙ le-is x y

pub ruleset orders = (told-lt, told-ge, told-le, told-gt)
