-- Sorted lists of ranges: the form in which a land stores a set of bytes. Assumes nothing.
use Rattle.std.specs.Prelude.{◌≡◌, Bool, true, false, cond, ◌&&◌, ◌||◌, List, [], ◌∷◌, ◌⊎◌, ℕ, suc, ◌≤◌, ◌<◌, ◌%◌, leb, ltb, eqb}
use Rattle.units.specs.declared.Range as units
use Rattle.model.specs.Marks.{Range, rng}

-- A struct of the code as a range.
abbrev pub plain : units.Range → Range
plain r = rng r.base.0 r.limit.0

-- From lo up to hi, ascending, non-empty, and no two touch.
abbrev pub Apart : ℕ → ℕ → List Range → Type 0
Apart lo hi [] = Unit {0}
Apart lo hi (r ∷ rs) = (lo ≤ r.base) × (r.base < r.limit) × (r.limit ≤ hi) × Apart (suc r.limit) hi rs

-- Every base and limit is a multiple of al.
abbrev pub Aligned : ℕ → List Range → Type 0
Aligned al [] = Unit {0}
Aligned al (r ∷ rs) = (r.base % al ≡ 0) × (r.limit % al ≡ 0) × Aligned al rs

-- r is one of the ranges.
abbrev pub Mem : Range → List Range → Type 0
Mem r [] = ⊥
Mem r (q ∷ qs) = (r ≡ q) ⊎ Mem r qs

-- r overlaps [b, l); and some range does.
abbrev pub meets : ℕ → ℕ → Range → Bool
meets b l r = ltb r.base l && ltb b r.limit

abbrev pub overlaps : ℕ → ℕ → List Range → Bool
overlaps b l [] = false
overlaps b l (r ∷ rs) = meets b l r || overlaps b l rs

-- r holds all of [b, l); some range does; and the first that does.
abbrev pub covers : ℕ → ℕ → Range → Bool
covers b l r = leb r.base b && leb l r.limit

abbrev pub holds : ℕ → ℕ → List Range → Bool
holds b l [] = false
holds b l (r ∷ rs) = covers b l r || holds b l rs

abbrev pub holder : ℕ → ℕ → List Range → Range
holder b l [] = rng 0 0
holder b l (r ∷ rs) = cond (covers b l r) r (holder b l rs)

-- [b, l) put in, joined with the ranges that it touches.
abbrev pub unless : Bool → Range → List Range → List Range
unless true r rs = rs
unless false r rs = r ∷ rs

abbrev pub insert_in : ℕ → ℕ → List Range → List Range
insert_in b l [] = rng b l ∷ []
insert_in b l (r ∷ rs) =
    cond (ltb l r.base) (rng b l ∷ r ∷ rs)
    (cond (eqb l r.base) (rng b r.limit ∷ rs)
    (unless (eqb r.limit b) r (insert_in (cond (eqb r.limit b) r.base b) l rs)))

-- [b, l), if it is not empty, before the ranges.
abbrev pub piece : ℕ → ℕ → List Range → List Range
piece b l rs = cond (ltb b l) (rng b l ∷ rs) rs

-- [b, l) taken out of the range that holds it.
abbrev pub delete_from : ℕ → ℕ → List Range → List Range
delete_from b l [] = []
delete_from b l (r ∷ rs) =
    cond (leb r.limit b) (r ∷ delete_from b l rs)
    (piece r.base b (piece l r.limit rs))
