-- Which land's range a find takes: the ways out of the comparison, and the step that it tells. Assumes nothing.
use Prim.Native.Nat.{ℕ, ◌-◌, ◌<◌}
use mathlib.Core.Bool.{Bool, true, false, not}
use mathlib.Core.Option.{Option, none, some}
use mathlib.Core.Path.{◌≡◌, refl, sym, ◌∙◌}
use native.Mathlib.Omega.{arith}
use lib.Dec.{ltb, eqb}
use borrow.Author.Tests.{ne_eqb, not-true, not-false}
use Rattle.std.specs.Prelude.{Option as Maybe, Some, None}
use Rattle.units.specs.declared.Range as units
use Rattle.units.specs.declared.Size.{Size}
use Rattle.units.specs.declared.Which.{Which}
use Rattle.units.proofs.Tests.{by}
use Rattle.model.specs.Calls as land
use Rattle.model.specs.Calls.{Arena, Step}
use Rattle.model.specs.Marks.{Range}
use Rattle.model.specs.inner.Lists.{plain}
use Rattle.model.specs.inner.Picks.{here_of}
use Rattle.pair_model.specs.Pairs.{Sets, keep, in_list, in_block, list_step, block_step, list_first, find_in}
use Rattle.pair.specs.inner.Finding.{side_of}
use Rattle.pair.specs.declared.find.Side.{Side}

-- the comparison of two ranges
module _ (w : Which) (r q : units.Range) where
  pub first-lower : w ≡ Which.First → (t : Bool) → t ≡ ltb r.base.0 q.base.0 → t ≡ list_first w (plain r) (plain q)
  first-lower e t f = rw e f

  pub first-higher : w ≡ Which.Last → (t : Bool) → t ≡ ltb q.base.0 r.base.0 → t ≡ list_first w (plain r) (plain q)
  first-higher e t f = rw e f

  module _ (e : w ≡ Which.Largest) (m : Size) (em : m.0 ≡ r.limit.0 - r.base.0) (n : Size) (en : n.0 ≡ q.limit.0 - q.base.0)
      (t : Bool) (et : t ≡ ltb n.0 m.0) where
    compared : t ≡ ltb (q.limit.0 - q.base.0) (r.limit.0 - r.base.0)
    compared = rw (em, en) at et

    pub first-longer : t ≡ true → true ≡ list_first w (plain r) (plain q)
    first-longer f = rw (e, sym compared ∙ f)

    module _ (f : t ≡ false) (u : Bool) (eu : u ≡ eqb n.0 m.0) where
      same : u ≡ eqb (q.limit.0 - q.base.0) (r.limit.0 - r.base.0)
      same = rw (em, en) at eu

      pub first-shorter : not u ≡ true → false ≡ list_first w (plain r) (plain q)
      first-shorter h = rw (e, sym compared ∙ f, sym same ∙ not-true u h)

      pub first-equal : not u ≡ false → (v : Bool) → v ≡ ltb r.base.0 q.base.0 → v ≡ list_first w (plain r) (plain q)
      first-equal h v ev = rw (e, sym compared ∙ f, sym same ∙ not-false u h) ev

pub ruleset firsts = (first-lower, first-higher, first-longer, first-shorter, first-equal)

-- the side, of ranges that may be none
module _ (w : Which) (r q : units.Range) (t : Bool) (et : t ≡ eqb r.base.0 0) (u : Bool) (eu : u ≡ eqb q.base.0 0) where
  pub side-neither : t ≡ true → u ≡ true → None ≡ side_of w r q
  unfolding side_of
  side-neither f g = rw (sym et ∙ f, sym eu ∙ g)

  pub side-only-block : t ≡ true → u ≡ false → Some Side.Block ≡ side_of w r q
  unfolding side_of
  side-only-block f g = rw (sym et ∙ f, sym eu ∙ g)

  pub side-only-list : t ≡ false → u ≡ true → Some Side.List ≡ side_of w r q
  unfolding side_of
  side-only-list f g = rw (sym et ∙ f, sym eu ∙ g)

  module _ (f : t ≡ false) (g : u ≡ false) (v : Bool) (ev : v ≡ list_first w (plain r) (plain q)) where
    pub side-list : v ≡ true → Some Side.List ≡ side_of w r q
    unfolding side_of
    side-list h = rw (sym et ∙ f, sym eu ∙ g, sym ev ∙ h)

    pub side-block : v ≡ false → Some Side.Block ≡ side_of w r q
    unfolding side_of
    side-block h = rw (sym et ∙ f, sym eu ∙ g, sym ev ∙ h)

pub ruleset sides = (side-neither, side-only-block, side-only-list, side-list, side-block)

-- the land whose range is taken has one
module _ (w : Which) (r q : units.Range) where
  pub list-there : side_of w r q ≡ Some Side.List → eqb r.base.0 0 ≡ false
  unfolding side_of
  list-there h =
      by (eqb r.base.0 0)
      (λ e. by (eqb q.base.0 0)
      (λ f. let z : None ≡ Some Side.List = rw (e, f) at h in let y : ◌≡◌ {A = ℕ} 0 1 = cc in absurd (omega arith))
      (λ f. let z : Some Side.Block ≡ Some Side.List = rw (e, f) at h in let y : ◌≡◌ {A = ℕ} 0 1 = cc in absurd (omega arith)))
      (λ e. e)

  pub block-there : side_of w r q ≡ Some Side.Block → eqb q.base.0 0 ≡ false
  unfolding side_of
  block-there h =
      by (eqb q.base.0 0)
      (λ f. by (eqb r.base.0 0)
      (λ e. let z : None ≡ Some Side.Block = rw (e, f) at h in let y : ◌≡◌ {A = ℕ} 0 1 = cc in absurd (omega arith))
      (λ e. let z : Some Side.List ≡ Some Side.Block = rw (e, f) at h in let y : ◌≡◌ {A = ℕ} 0 1 = cc in absurd (omega arith)))
      (λ f. f)

-- the step of each side
module _ (a : Arena) (c : land.Call) (w : Which) (s : Sets) where
  abbrev pub by_side : Maybe Side → Step Sets
  by_side None = keep 2 s
  by_side (Some Side.List) = in_list (list_step a c s.list) s.block
  by_side (Some Side.Block) = in_block s.list (block_step a c s.block)

  pub side-step : (o p : Option Range) → ((r : Range) → o ≡ some r → 0 < r.base) → ((q : Range) → p ≡ some q → 0 < q.base) →
      find_in a c w s o p ≡ by_side (side_of w (here_of o) (here_of p))
  unfolding side_of
  side-step none none x y = refl
  side-step none (some q) x y = rw (ne_eqb q.base 0 (λ d. omega (arith, y q refl)))
  side-step (some r) none x y = rw (ne_eqb r.base 0 (λ d. omega (arith, x r refl)))
  side-step (some r) (some q) x y =
      let i = ne_eqb r.base 0 (λ d. omega (arith, x r refl)) in
      let j = ne_eqb q.base 0 (λ d. omega (arith, y q refl)) in
      by (list_first w r q) (λ e. rw (i, j, e)) (λ e. rw (i, j, e))
