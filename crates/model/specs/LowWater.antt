-- Low water in the request's words: from the free bytes after the accepted calls alone, however a handle keeps it. Assumes nothing.
use Rattle.std.specs.Prelude.{◌≡◌, cond, List, [], ◌∷◌, ◌++◌, ℕ, ◌≤◌, ltb, eqb}
use Rattle.units.specs.declared.low_water.LowWater.{LowWater}
use Rattle.model.specs.Marks.{Range, total}
use Rattle.model.specs.Calls.{Outcome}
use Rattle.model.specs.Histories.{Seen}
use Rattle.model.specs.Lands.{Shown, LandLayout}

-- From the first that is not 0 on.
abbrev pub from_first : List ℕ → List ℕ
from_first [] = []
from_first (n ∷ ns) = cond (eqb n 0) (from_first ns) (n ∷ ns)

-- The least of some numbers; 0 of none.
abbrev pub lesser : ℕ → ℕ → ℕ
lesser m n = cond (ltb n m) n m

abbrev pub least_from : ℕ → List ℕ → ℕ
least_from m [] = m
least_from m (n ∷ ns) = least_from (lesser m n) ns

abbrev pub least : List ℕ → ℕ
least [] = 0
least (n ∷ ns) = least_from n ns

-- 1 if there are any.
abbrev pub some_of : List ℕ → ℕ
some_of [] = 0
some_of (n ∷ ns) = 1

-- Of the free bytes after the accepted calls, those that count. Where the mark was not set before these calls: from the first on
-- that left the land non-empty. Where it was: low water as it was is the first of them.
abbrev pub counted : LowWater → List ℕ → List ℕ
counted q ns = cond (eqb q.filled 0) (from_first ns) (q.low.0 ∷ ns)

-- What is shown after accepted calls that left these free bytes, in order, from the mark and low water q: low water is the least
-- of those that count, the mark says whether there are any, and low water does not exceed the free bytes.
pub record LowNow (q : LowWater) (ns : List ℕ) (v : Shown) : Type 0 where
  pub low_least : v.low ≡ least (counted q ns)
  pub mark_set : v.mark ≡ some_of (counted q ns)
  pub low_below : v.low ≤ v.bytes

-- The free bytes after the accepted calls, with those after one call more.
abbrev pub with_call : List ℕ → Outcome → ℕ → List ℕ
with_call past o n = cond (eqb o.answer 0) (past ++ (n ∷ [])) past

-- After every call of a list, by what is seen of one land.
abbrev pub LowsTrue : {X : Type 0} → (X → Shown) → LowWater → List ℕ → List (Seen Outcome X) → Type 0
LowsTrue land q past [] = Unit {0}
LowsTrue land q past (o ∷ os) =
    LowNow q (with_call past o.out (land o.shown).bytes) (land o.shown)
    × LowsTrue land q (with_call past o.out (land o.shown).bytes) os

-- Accepted calls of any kind on one land, a land's own call, a flush, a pair's call: each closes the handle once, with the ranges that it
-- leaves. From a handle, by the free bytes that they left in order, to a handle.
pub data Closings {H : Type 0} (R : LandLayout H) : H → List ℕ → H → Type 0 where
  begins : {h : H} → Closings R h [] h
  closes : {h g : H} {ns : List ℕ} → Closings R h ns g → (rs : List Range) → Closings R h (ns ++ (total rs ∷ [])) (R.close g rs)

-- Over them low water is the least of the free bytes that count, from a handle whose mark is 0 or 1, and low water 0 where it is 0.
abbrev pub LowOverClosings : {H : Type 0} → LandLayout H → Type 0
LowOverClosings {H} R =
    (h g : H) (ns : List ℕ) → (R.noted h).filled ≤ 1 → ((R.noted h).filled ≡ 0 → (R.noted h).low.0 ≡ 0) → Closings R h ns g →
    ((R.noted g).low.0 ≡ least (counted (R.noted h) ns)) × ((R.noted g).filled ≡ some_of (counted (R.noted h) ns))
