-- The walk up to the first range that fits: contracts of inner functions. Assumes nothing.
use Rattle.std.specs.Prelude.{ℕ, cond, List, [], ◌∷◌, ◌≡◌, Result, Ok, Err}
use Rattle.units.specs.declared.Range.{Range}
use Rattle.units.specs.declared.aims.Goal.{Goal}
use Rattle.units.specs.declared.rules.Arena.{Arena}
use Rattle.units.specs.Words.{addr, range_of}
use Rattle.units.specs.inner.Aims.{none_range, fits}
use Rattle.model.specs.Marks as marks
use Rattle.list_words.specs.declared.Spot.{Spot}
use Rattle.list_words.specs.declared.cursor.Cursor.{Cursor}
use Rattle.list_words.specs.declared.Fault.{Fault}
use Rattle.list_words.specs.Words.{clean}
use Rattle.list_words.specs.Laying.{head_of}
use Rattle.list_words.specs.inner.Surveys.{walk_of, spot, Along}

-- The first of the ranges behind p that fits, or none, behind the last.
abbrev pub sought : Goal → Range → List marks.Range → Spot
sought g p [] = spot p none_range (addr 0)
sought g p (r ∷ rs) =
    cond (fits g (range_of r.base r.limit)) (spot p (range_of r.base r.limit) (addr (head_of rs)))
    (sought g (range_of r.base r.limit) rs)

-- A spot that a walk came to, and the cursor behind it: the spot is what f says of the whole list, if that is whole.
pub record Come (a : Arena) (ws : List ℕ) (head : ℕ) (f : List marks.Range → Spot) (s : Spot) (c : Cursor) : Type 0 where
  pub along : Along a ws head c
  pub is : (walk_of a ws head).end ≡ clean → s ≡ f (walk_of a ws head).met

-- What a walk sought: a fault, or the spot that f says of the whole list.
abbrev pub SoughtBy : Arena → List ℕ → ℕ → (List marks.Range → Spot) → Result (Spot × Cursor) Fault → Type 0
SoughtBy a ws head f (Err e) = (walk_of a ws head).end ≡ clean → ⊥
SoughtBy a ws head f (Ok (s, c)) = Come a ws head f s c
