-- A pair after a flush whose checks are good: what is known of its ranges. Assumes nothing.
use Prim.Native.Nat.{ℕ}
use mathlib.Core.List.{List}
use mathlib.Core.Path.{◌≡◌}
use Rattle.std.specs.Prelude.{Ok}
use Rattle.model.specs.Flushing.{Flushes}
use Rattle.list_words.specs.Laying.{lay}
use Rattle.list_words.proofs.Laid.{lay-laid}
use Rattle.list_land.specs.Layout as list
use Rattle.list_land.proofs.LayoutLaws as list-laws
use Rattle.list_land.proofs.Sound as list-sound
use Rattle.block_land.specs.Layout as block
use Rattle.block_land.proofs.LayoutLaws as block-laws
use Rattle.block_land.proofs.Sound as block-sound
use Rattle.flush.specs.Flush.{check_of}
use Rattle.flush.proofs.FlushKeeps as keeps
use Rattle.pair.specs.inner.Inserts.{flush_of, flushed_counts, flushed_nodes, closed_by}
use Rattle.pair.specs.declared.Pair.{Pair}

module _ (p : Pair) (ws vs : List ℕ) where
  -- the handles closed after it
  abbrev pub flushed_pair : Pair
  flushed_pair = closed_by p (flushed_counts p ws vs)

  -- both lands before it; what was moved; what is read of both afterwards; the descriptors of the ranges left stay as they are
  pub record After : Type 0 where
    pub list_fine : list-sound.Fine p.list ws
    pub block_fine : block-sound.Fine p.block vs
    pub moved : Flushes (block.arena_of p.block vs) (list.walk_of p.list ws).met (block.table_of p.block vs) (flush_of p ws vs)
    pub in_list : list-laws.Reads flushed_pair.list ws (flush_of p ws vs).left
    pub in_block : block-laws.Reads flushed_pair.block (flushed_nodes p ws vs) (flush_of p ws vs).into
    pub same-words : lay (list.base p.list) (flush_of p ws vs).left ws ≡ ws

  pub after : check_of p.list ws p.block vs ≡ Ok tt → After
  after g =
      let c = keeps.checked p.list ws p.block vs g in
      record {
        list_fine = keeps.list_fine p.list ws p.block vs c;
        block_fine = keeps.block_fine p.list ws p.block vs c;
        moved = keeps.keeps p.list ws p.block vs c;
        in_list = list-laws.reads flushed_pair.list ws _ (keeps.list_read p.list ws p.block vs c);
        in_block = block-laws.reads flushed_pair.block (flushed_nodes p ws vs) _ (keeps.block_read p.list ws p.block vs c);
        same-words = lay-laid (list.base p.list) (flush_of p ws vs).left ws (keeps.left_laid p.list ws p.block vs c);
      }
