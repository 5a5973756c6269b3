-- What an accepted flush keeps, read from the handles and words before and after. Assumes nothing.
use Rattle.std.specs.Prelude.{ℕ, ◌+◌, List, [], ◌∷◌, ◌≡◌}
use Rattle.model.specs.Marks.{Range, total}
use Rattle.model.specs.Layouts.{holding}
use Rattle.model.specs.Flushing.{Flushes}
use Rattle.model.specs.LowWater.{Closings}
use Rattle.list_words.specs.Laying.{lay}
use Rattle.list_land.specs.Layout as list
use Rattle.list_land.specs.declared.ListLand.{ListLand}
use Rattle.block_land.specs.Layout as block
use Rattle.block_land.specs.declared.BlockLand.{BlockLand}
use Rattle.flush.specs.Flush.{Done, flushed}

module _ (h : ListLand) (ws : List ℕ) (k : BlockLand) (vs : List ℕ) where
  abbrev after : Done
  after = flushed h ws k vs

  pub record Kept : Type 0 where
    -- the ranges of both lands before and after: both lands can be read
    pub list_before : List Range
    pub block_before : List Range
    pub list_after : List Range
    pub block_after : List Range
    pub reads_list : list.read_of h ws ≡ holding list_before
    pub reads_block : block.read_of k vs ≡ holding block_before
    pub list_readable : list.read_of after.result.list ws ≡ holding list_after
    pub block_readable : block.read_of after.result.block after.nodes ≡ holding block_after
    -- the arena words are those that the list land's layout asks for
    pub arena_words : lay h.base.0 list_after ws ≡ ws
    -- on these ranges it did what document 01 says of a flush: the list lost its first ranges, in order, and it stopped with 0, 1 or 3
    pub flushes :
        Flushes (block.arena_of k vs) list_before block_before
        (record { moved = after.result.moved; stop = after.result.stop; left = list_after; into = block_after })
    -- by the counts of the handles: the number moved is the number of ranges that the list lost, and no byte is lost
    pub moved : after.result.moved + after.result.list.ranges ≡ h.ranges
    pub sum : after.result.list.bytes.0 + after.result.block.bytes.0 ≡ h.bytes.0 + k.bytes.0
    -- low water counts it as one accepted call on each land, however many ranges it moves
    pub list_closing : Closings list.layout h (total list_after ∷ []) after.result.list
    pub block_closing : Closings block.layout k (total block_after ∷ []) after.result.block
    -- one that moves none leaves both handles as they are
    pub idle : after.result.moved ≡ 0 → (after.result.list ≡ h) × (after.result.block ≡ k)

-- Every flush that is answered 0.
abbrev pub FlushKeeps : Type 0
FlushKeeps = (h : ListLand) (ws : List ℕ) (k : BlockLand) (vs : List ℕ) → (flushed h ws k vs).result.answer ≡ 0 → Kept h ws k vs
