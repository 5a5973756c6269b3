-- What the flush from a list land into a block land equals. Assumes nothing.
use Rattle.std.specs.Prelude.{ℕ, Bool, cond, ◌&&◌, List, eqb, Result, Ok, Err}
use Rattle.model.specs.Flushing as sets
use Rattle.block_words.specs.Words.{fill}
use Rattle.list_land.specs.Layout as list
use Rattle.list_land.specs.declared.ListLand.{ListLand}
use Rattle.block_land.specs.Layout as block
use Rattle.block_land.specs.declared.BlockLand.{BlockLand}
use Rattle.flush.specs.declared.FlushError.{FlushError}
use Rattle.flush.specs.declared.Flushed.{Flushed}

-- What is returned, and the node words afterwards. No arena word changes.
pub record Done : Type 0 where
  pub result : Flushed
  pub nodes : List ℕ

-- Base, limit and alignment of the two lands do not differ.
abbrev pub same_arena : ListLand → BlockLand → Bool
same_arena h k = eqb h.base.0 k.base.0 && (eqb h.limit.0 k.limit.0 && eqb h.align.0 k.align.0)

-- Every refusal returns a moved count and a stop number of 0 and the handles given, and all memory is unchanged.
abbrev pub refusal : ListLand → BlockLand → ℕ → Flushed
refusal h k n = record { list = h; block = k; answer = n; moved = 0; stop = 0 }

-- Document 01's number of each case: 5 for the list, 5 for the block land, 5 for their difference, 6 for the list, 6 for the block land.
abbrev pub check_number : Result (Unit {0}) FlushError → ℕ
check_number (Ok u) = 0
check_number (Err FlushError.ListSetUp) = 5
check_number (Err FlushError.BlockSetUp) = 5
check_number (Err FlushError.Differ) = 5
check_number (Err FlushError.ListDamaged) = 6
check_number (Err FlushError.BlockDamaged) = 6

module _ (h : ListLand) (ws : List ℕ) (k : BlockLand) (vs : List ℕ) where
  -- A flush checks 5 for the list, 5 for the block land, their difference, then 6 for each in that order.
  unfoldable pub check_of : Result (Unit {0}) FlushError
  check_of =
      cond (list.set_up h ws)
      (cond (block.set_up k vs)
      (cond (same_arena h k)
      (cond (list.sound h ws)
      (cond (block.sound k vs) (Ok tt) (Err FlushError.BlockDamaged))
      (Err FlushError.ListDamaged))
      (Err FlushError.Differ))
      (Err FlushError.BlockSetUp))
      (Err FlushError.ListSetUp)

  -- The flush of the list's ranges into the table.
  abbrev pub moves : sets.Flush
  moves = sets.flush (block.arena_of k vs) (list.walk_of h ws).met (block.table_of k vs)

  -- It is then answered 0.
  abbrev pub accepted : sets.Flush → Done
  accepted f = record {
    result = record { list = list.closed h f.left; block = block.closed k f.into; answer = 0; moved = f.moved; stop = f.stop };
    nodes = fill f.into vs;
  }

  abbrev pub done : Result (Unit {0}) FlushError → Done
  done (Ok u) = accepted moves
  done (Err e) = record { result = refusal h k (check_number (Err e)); nodes = vs }

  unfoldable pub flushed : Done
  flushed = done check_of
