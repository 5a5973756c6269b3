-- A range put into a sorted table, and taken out of it: contracts of inner functions. Assumes nothing.
use Rattle.std.specs.Prelude.{ℕ, ◌*◌, ◌≤◌, Bool, true, not, cond, List, ◌≡◌, leb, length, drop, Result, Ok, Err}
use Rattle.units.specs.Rules.{refusal_number}
use Rattle.units.specs.declared.Range as units
use Rattle.units.specs.declared.refusals.Refusal.{Refusal}
use Rattle.model.specs.Marks.{Range, struct}
use Rattle.model.specs.inner.Lists.{Apart, overlaps, holds, holder, insert_in, delete_from}
use Rattle.block_words.specs.Words.{capacity, pairs, all_zero, fill}
use Rattle.block_edits.specs.declared.TableEdited.{TableEdited}

-- A table of n sorted pairs, then zeros.
pub record Sorted (ws : List ℕ) (n : ℕ) : Type 0 where
  pub low : ℕ
  pub high : ℕ
  pub fits : n ≤ capacity ws
  pub clean : all_zero (drop (2 * n) ws) ≡ true
  pub apart : Apart low high (pairs ws n)

abbrev pub done_by : units.Range → ℕ → TableEdited
done_by r n = record { range = r; count = n }

-- What an edit gives: refused, or there is no room, or the range that holds it and the number of ranges.
abbrev pub edited : Bool → Bool → Range → ℕ → Result TableEdited Refusal
edited bad room r n = cond bad (Err Refusal.Overlap) (cond room (Ok (done_by (struct r) n)) (Err Refusal.Full))

-- Document 01's number of each case: 1 where some byte is already free or is not free, 3 where there would be too many ranges.
abbrev pub edited_number : Result TableEdited Refusal → ℕ
edited_number (Ok x) = 0
edited_number (Err r) = refusal_number r

-- The words change where it is done.
abbrev pub edited_words : Result TableEdited Refusal → List Range → List ℕ → List ℕ
edited_words (Ok x) rs ws = fill rs ws
edited_words (Err r) rs ws = ws

module _ (ws : List ℕ) (n : ℕ) (y : units.Range) where
  -- A range put in, where it overlaps none: there is no room, or the range that holds it and the number of ranges.
  abbrev pub joined : List Range
  joined = insert_in y.base.0 y.limit.0 (pairs ws n)

  abbrev pub joined_of : Result TableEdited Refusal
  joined_of = cond (leb (length joined) (capacity ws)) (Ok (done_by (struct (holder y.base.0 y.limit.0 joined)) (length joined))) (Err Refusal.Full)

  abbrev pub joined_words : List ℕ
  joined_words = cond (leb (length joined) (capacity ws)) (fill joined ws) ws

  -- Refused if it overlaps one.
  unfoldable pub put_of : Result TableEdited Refusal
  put_of =
      edited (overlaps y.base.0 y.limit.0 (pairs ws n)) (leb (length joined) (capacity ws))
      (holder y.base.0 y.limit.0 joined) (length joined)

  unfoldable pub put_words : List ℕ
  put_words = edited_words put_of joined ws

  -- A range taken out: refused if none holds it; it was in the range that did.
  abbrev pub remaining : List Range
  remaining = delete_from y.base.0 y.limit.0 (pairs ws n)

  unfoldable pub cut_of : Result TableEdited Refusal
  cut_of =
      edited (not (holds y.base.0 y.limit.0 (pairs ws n))) (leb (length remaining) (capacity ws))
      (holder y.base.0 y.limit.0 (pairs ws n)) (length remaining)

  unfoldable pub cut_words : List ℕ
  cut_words = edited_words cut_of remaining ws
