-- The ways out of the functions that find the place of a range. Assumes nothing.
use Prim.Native.Nat.{ℕ}
use mathlib.Core.Bool.{Bool, true, false}
use mathlib.Core.List.{List}
use mathlib.Core.Path.{◌≡◌, sym, ap, ap₂, ◌∙◌}
use lib.Dec.{eqb}
use borrow.Author.Tests.{eqb-true}
use Rattle.units.specs.Words.{range_of}
use Rattle.units.specs.declared.Range.{Range}
use Rattle.units.specs.declared.rules.Arena.{Arena}
use Rattle.units.specs.inner.Aims.{none_range}
use Rattle.list_words.specs.inner.Descriptors.{Standing, descriptor_at}
use Rattle.list_words.specs.inner.Surveys.{spot}
use Rattle.list_words.specs.declared.Descriptor.{Descriptor}
use Rattle.list_words.specs.declared.Spot.{Spot}
use Rattle.list_edits.specs.inner.Places.{Following, following_of, join_of, Placing, place_of}
use Rattle.std.specs.Prelude.{Option}
use Rattle.list_edits.specs.declared.Join.{Join}

-- THE SPOT AFTER A SPOT
module _ (a : Arena) (ws : List ℕ) (s : Spot) (r : Bool) (e : r ≡ eqb s.next.0 0) where
  pub after_none : r ≡ true → (z : Range) → z ≡ none_range → record { prev = s.here; here = z; next = s.next } ≡ following_of a ws s
  unfolding following_of
  after_none t z ez = rw (sym e ∙ t) (ap (λ (x : Range). spot s.here x s.next) ez)

  module _ (t : r ≡ false) where
    pub after-standing : Following a ws s → Standing a ws s.next.0
    after-standing f = f.standing (sym e ∙ t)

    pub after-some : (d : Descriptor) → d ≡ descriptor_at a ws s.next.0 → (w : Range) → w ≡ range_of s.next.0 d.limit.0 →
        record { prev = s.here; here = w; next = d.next } ≡ following_of a ws s
    unfolding following_of
    after-some d ed w ew =
        rw (sym e ∙ t)
        (ap (λ (x : Range). spot s.here x d.next) ew ∙ ap (λ (x : Descriptor). spot s.here (range_of s.next.0 x.limit.0) x.next) ed)

pub ruleset after_ways = (after_none, after-standing, after-some)

-- THE PLACE
module _ (a : Arena) (ws : List ℕ) (y : Range) (s : Spot) (r : Bool) (e : r ≡ eqb s.here.limit.0 y.base.0) where
  pub place-following : r ≡ true → Placing a ws y s → Following a ws s
  place-following t p = p.following (eqb-true s.here.limit.0 y.base.0 (sym e ∙ t))

  pub place-touching : r ≡ true → (above : Spot) → above ≡ following_of a ws s → (w : Range) → w ≡ range_of s.here.base.0 y.limit.0 →
      (m : Option Join) → m ≡ join_of s.prev w 1 above → m ≡ place_of a ws y s
  unfolding place_of
  place-touching t above ea w ew m em = rw (sym e ∙ t) (em ∙ ap₂ (λ (x : Range) (v : Spot). join_of s.prev x 1 v) ew ea)

  pub place_other : r ≡ false → (m : Option Join) → m ≡ join_of s.prev y 0 s → m ≡ place_of a ws y s
  unfolding place_of
  place_other t m em = rw (sym e ∙ t) em

pub ruleset place_ways = (place-following, place-touching, place_other)
