-- What an aim keeps of a table, and what is found of all of it: contracts of inner functions. Assumes nothing.
use Rattle.std.specs.Prelude.{ℕ, ◌+◌, ◌*◌, ◌/◌, ◌<◌, ◌≤◌, Bool, cond, ◌&&◌, List, [], ◌∷◌, length, drop, nat_le, nat_lt, slice_index, Result, Ok, Err}
use Rattle.units.specs.Rules.{refusal_number}
use Rattle.units.specs.inner.Aims.{none_range, takes}
use Rattle.units.specs.declared.Range.{Range}
use Rattle.units.specs.declared.Size.{Size}
use Rattle.units.specs.declared.aims.Aim.{Aim}
use Rattle.units.specs.declared.refusals.Refusal.{Refusal}
use Rattle.units.specs.declared.rules.Arena.{Arena}
use Rattle.model.specs.Marks as marks
use Rattle.model.specs.Marks.{struct}
use Rattle.model.specs.inner.Lists.{Apart}
use Rattle.block_words.specs.Words.{capacity, pairs, all_zero, sound_table}
use Rattle.block_words.specs.inner.Tallies.{pair_at}
use Rattle.block_words.specs.declared.Entry.{Entry}

abbrev pub entry : ℕ → Range → Entry
entry i r = record { number = i; here = r }

-- Range number i of n, or none.
abbrev pub entry_at : List ℕ → ℕ → ℕ → Entry
entry_at ws n i = cond (nat_lt i n) (entry i (pair_at ws i)) (entry n none_range)

-- What an aim keeps of the ranges from number i on, where e is kept so far; and of all ranges of a table.
abbrev pub entered : Aim → Entry → ℕ → List marks.Range → Entry
entered aim e i [] = e
entered aim e i (r ∷ rs) = entered aim (cond (takes aim e.here (struct r)) (entry i (struct r)) e) (i + 1) rs

abbrev pub entry_of : Aim → List marks.Range → Entry
entry_of aim rs = entered aim (entry (length rs) none_range) 0 rs

-- The first n pairs of a table are ranges that ascend.
pub record Ordered (ws : List ℕ) (n : ℕ) : Type 0 where
  pub low : ℕ
  pub high : ℕ
  pub fits : n ≤ length ws / 2
  pub apart : Apart low high (pairs ws n)

-- And they stand above the address 0.
pub record Rising (ws : List ℕ) (n : ℕ) : Type 0 where
  pub low : ℕ
  pub high : ℕ
  pub fits : n ≤ length ws / 2
  pub above : 0 < low
  pub apart : Apart low high (pairs ws n)

-- Pair i is the first of n whose limit reaches x, or i is n.
pub record FirstReach (ws : List ℕ) (n x i : ℕ) : Type 0 where
  pub upto : i ≤ n
  pub below : (j : ℕ) → j < i → slice_index ws (2 * j + 1) < x
  pub reach : i < n → x ≤ slice_index ws (2 * i + 1)

-- There is room for n ranges, and every pair word behind them is 0.
abbrev pub tidy : List ℕ → ℕ → Bool
tidy ws n = nat_le n (capacity ws) && all_zero (drop (2 * n) ws)

-- Document 01's number of what is found of the whole table: 6, or 0.
abbrev pub verdict_number : Result Entry Refusal → ℕ
verdict_number (Ok e) = 0
verdict_number (Err r) = refusal_number r

-- What is found of the whole table, where the handle has n ranges and this many bytes.
unfoldable pub survey_of : Arena → List ℕ → ℕ → Size → Aim → Result Entry Refusal
survey_of a ws n bytes aim =
    cond (sound_table a.base.0 a.limit.0 a.align.0 ws n bytes.0) (Ok (entry_of aim (pairs ws n))) (Err Refusal.Damaged)
