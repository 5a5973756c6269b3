-- Ranges moved from a list into a table: contracts of inner functions. Assumes nothing.
use Rattle.std.specs.Prelude.{ℕ, ◌+◌, ◌-◌, ◌*◌, ◌≤◌, ◌<◌, true, List, ◌≡◌, eqb, cond, length, drop, Option, Some, None}
use Rattle.std.proofs.Math.Option.{some}
use Rattle.units.specs.Rules.{refusal_number}
use Rattle.units.specs.Words.{addr}
use Rattle.units.specs.declared.Addr.{Addr}
use Rattle.units.specs.declared.refusals.Refusal.{Refusal}
use Rattle.units.specs.declared.rules.Arena as units
use Rattle.model.specs.Marks.{total}
use Rattle.model.specs.Calls.{Arena}
use Rattle.model.specs.Flushing as sets
use Rattle.list_words.specs.Words.{is_clean}
use Rattle.list_words.specs.Laying.{head_of}
use Rattle.list_words.specs.inner.Surveys.{Ready, walk_of}
use Rattle.block_words.specs.Words.{capacity, pairs, all_zero, canonical, fill}
use Rattle.transfers.specs.declared.Moved.{Moved}

-- A sound list and a sound table of one arena.
pub record Going (a : units.Arena) (ws : List ℕ) (head : ℕ) (vs : List ℕ) (n : ℕ) : Type 0 where
  pub ready : Ready a (length ws)
  pub clean : is_clean (walk_of a ws head).end ≡ true
  pub fits : n ≤ capacity vs
  pub zeros : all_zero (drop (2 * n) vs) ≡ true
  pub ranges : canonical a.base.0 a.limit.0 a.align.0 (pairs vs n) ≡ true

-- The arena of the table.
abbrev pub table_arena : units.Arena → List ℕ → Arena
table_arena a vs = record { base = a.base.0; limit = a.limit.0; align = a.align.0; room = some (capacity vs) }

-- The refusal that stopped a transfer, from the number that a flush stops with: 1, 3, or 0.
abbrev pub stop_of : ℕ → Option Refusal
stop_of n = cond (eqb n 1) (Some Refusal.Overlap) (cond (eqb n 3) (Some Refusal.Full) None)

-- And its number.
abbrev pub stop_number : Option Refusal → ℕ
stop_number (Some r) = refusal_number r
stop_number None = 0

module _ (a : units.Arena) (ws : List ℕ) (head : ℕ) (vs : List ℕ) (n : ℕ) where
  abbrev pub flush_of : sets.Flush
  flush_of = sets.flush (table_arena a vs) (walk_of a ws head).met (pairs vs n)

  -- The base of the first range that stays, the ranges and bytes moved, the ranges of the table, and the refusal.
  unfoldable pub transfer_of : Moved
  transfer_of = record {
    at = addr (head_of flush_of.left);
    moved = flush_of.moved;
    bytes = record { 0 = total (walk_of a ws head).met - total flush_of.left };
    count = length flush_of.into;
    stop = stop_of flush_of.stop;
  }

  unfoldable pub transfer_words : List ℕ
  transfer_words = fill flush_of.into vs

-- A transfer one range further on.
abbrev pub onward : Moved → ℕ → Addr → ℕ → Moved
onward t e next n = record {
  at = next;
  moved = t.moved + 1;
  bytes = record { 0 = t.bytes.0 + (e - t.at.0) };
  count = n;
  stop = t.stop;
}

-- A range that ends at e follows, and no number grows too large.
pub record Near (t : Moved) (e : ℕ) : Type 0 where
  pub above : t.at.0 ≤ e
  pub moved : t.moved < 18446744073709551615
  pub bytes : t.bytes.0 + (e - t.at.0) < 18446744073709551616

abbrev pub stopped_by : Moved → Option Refusal → Moved
stopped_by t n = record { at = t.at; moved = t.moved; bytes = t.bytes; count = t.count; stop = n }
