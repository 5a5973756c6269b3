-- The place of a range in a sorted table: contracts of inner functions. Assumes nothing.
use Rattle.std.specs.Prelude.{ℕ, ◌+◌, ◌-◌, ◌*◌, ◌≤◌, ◌<◌, cond, List, [], ◌∷◌, ◌⊎◌, ◌≡◌, leb, ltb, eqb, get_or, Option, None, Some, Result, Ok, Err}
use Rattle.units.specs.Words.{range_of}
use Rattle.units.specs.inner.Parts.{one}
use Rattle.units.specs.declared.Range as units
use Rattle.units.specs.declared.refusals.Refusal.{Refusal}
use Rattle.model.specs.Marks.{Range}
use Rattle.model.specs.inner.Lists.{piece, plain}
use Rattle.block_words.specs.Words.{capacity, pairs, fill}
use Rattle.block_shifts.specs.inner.Shifts.{spliced}
use Rattle.block_edits.specs.inner.Edits.{Sorted, done_by}
use Rattle.block_edits.specs.declared.cut.Left.{Left}
use Rattle.block_edits.specs.declared.TableEdited.{TableEdited}
use Rattle.block_edits.specs.declared.join.Fit.{Fit}

abbrev pub fit : ℕ → ℕ → ℕ → Fit
fit b l k = record { joined = range_of b l; joins = k }

-- [b, l), which joins k ranges below it, before the ranges above it: none where it overlaps one.
abbrev pub fit_above : ℕ → ℕ → ℕ → List Range → Option Fit
fit_above b l k [] = Some (fit b l k)
fit_above b l k (r ∷ rs) = cond (eqb r.base l) (Some (fit b r.limit (k + 1))) (cond (ltb r.base l) None (Some (fit b l k)))

-- [b, l) at the ranges from the first on that reaches b.
abbrev pub fit_at : ℕ → ℕ → List Range → Option Fit
fit_at b l [] = Some (fit b l 0)
fit_at b l (r ∷ rs) = cond (eqb r.limit b) (fit_above r.base l 1 rs) (fit_above b l 0 (r ∷ rs))

-- k of n pairs, from number i on, can be replaced by one.
pub record Replacing (ws : List ℕ) (n i k : ℕ) : Type 0 where
  pub few : k ≤ 2
  pub inside : i + k ≤ n
  pub room : n < capacity ws + k

-- At most two of n pairs, from number i on.
pub record Joining (n i k : ℕ) : Type 0 where
  pub few : k ≤ 2
  pub inside : i + k ≤ n

-- What comes of a range as it fits at pair i of n: there is no room, or the range and the number of ranges.
abbrev pub fitted : List ℕ → ℕ → Fit → Result TableEdited Refusal
fitted ws n f = cond (leb (n + 1 - f.joins) (capacity ws)) (Ok (done_by f.joined (n + 1 - f.joins))) (Err Refusal.Full)

abbrev pub fitted_words : List ℕ → ℕ → ℕ → Fit → List ℕ
fitted_words ws n i f =
    cond (leb (n + 1 - f.joins) (capacity ws)) (fill (spliced (pairs ws n) i f.joins (plain f.joined ∷ [])) ws) ws

-- Pair i of n holds a range.
pub record Holding (ws : List ℕ) (n i : ℕ) (y : units.Range) : Type 0 where
  pub sorted : Sorted ws n
  pub inside : i < n
  pub low : get_or ws (2 * i) 0 ≤ y.base.0
  pub proper : y.base.0 < y.limit.0
  pub high : y.limit.0 ≤ get_or ws (2 * i + 1) 0

-- It reaches an end of pair i.
abbrev pub AtEnd : List ℕ → ℕ → units.Range → Type 0
AtEnd ws i y = (y.base.0 ≡ get_or ws (2 * i) 0) ⊎ (y.limit.0 ≡ get_or ws (2 * i + 1) 0)

-- Of two ranges those that are not empty, before others.
abbrev pub rest : units.Range → units.Range → List Range → List Range
rest low high rs = piece low.base.0 low.limit.0 (piece high.base.0 high.limit.0 rs)

-- What is left of one of n ranges without a part of it, and the number of ranges then.
abbrev pub left_of : units.Range → units.Range → ℕ → Left
left_of r y n = record {
  low = range_of r.base.0 y.base.0;
  high = range_of y.limit.0 r.limit.0;
  count = n - 1 + one (range_of r.base.0 y.base.0) + one (range_of y.limit.0 r.limit.0);
}

-- They can take the place of pair i of n.
pub record Leaving (ws : List ℕ) (n i : ℕ) (low high : units.Range) : Type 0 where
  pub inside : i < n
  pub room : n + one low + one high ≤ capacity ws + 1
