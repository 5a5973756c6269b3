-- The place of a range in a list: contracts of inner functions. Assumes nothing.
use Rattle.std.specs.Prelude.{ℕ, ◌+◌, false, cond, List, ◌≡◌, eqb, ltb, Option, Some, None}
use Rattle.units.specs.Words.{range_of}
use Rattle.units.specs.declared.Addr.{Addr}
use Rattle.units.specs.declared.Range.{Range}
use Rattle.units.specs.declared.rules.Arena.{Arena}
use Rattle.units.specs.inner.Aims.{is_none, none_range}
use Rattle.list_words.specs.declared.Spot.{Spot}
use Rattle.list_words.specs.inner.Descriptors.{Standing, descriptor_at}
use Rattle.list_words.specs.inner.Surveys.{spot}
use Rattle.list_edits.specs.declared.Join.{Join}

-- The range behind a spot, if there is one, has its descriptor in the arena.
pub record Following (a : Arena) (ws : List ℕ) (s : Spot) : Type 0 where
  pub standing : eqb s.next.0 0 ≡ false → Standing a ws s.next.0

-- The spot after a spot.
unfoldable pub following_of : Arena → List ℕ → Spot → Spot
following_of a ws s =
    cond (eqb s.next.0 0) (spot s.here none_range s.next)
    (spot s.here (range_of s.next.0 (descriptor_at a ws s.next.0).limit.0) (descriptor_at a ws s.next.0).next)

abbrev pub placed : Range → Range → Addr → ℕ → Join
placed p f n joins = record { prev = p; fresh = f; next = n; joins = joins }

-- The place of a fresh range before the range above it: none where it overlaps it.
abbrev pub join_of : Range → Range → ℕ → Spot → Option Join
join_of p f joins s =
    cond (is_none s.here) (Some (placed p f s.next joins))
    (cond (ltb s.here.base.0 f.limit.0) None
    (cond (eqb s.here.base.0 f.limit.0) (Some (placed p (range_of f.base.0 s.here.limit.0) s.next (joins + 1)))
    (Some (placed p f s.here.base joins))))

pub record Placing (a : Arena) (ws : List ℕ) (y : Range) (s : Spot) : Type 0 where
  pub following : s.here.limit.0 ≡ y.base.0 → Following a ws s

unfoldable pub place_of : Arena → List ℕ → Range → Spot → Option Join
place_of a ws y s =
    cond (eqb s.here.limit.0 y.base.0)
    (join_of s.prev (range_of s.here.base.0 y.limit.0) 1 (following_of a ws s))
    (join_of s.prev y 0 s)
