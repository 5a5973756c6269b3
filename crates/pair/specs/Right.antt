-- Every call of a pair in the sentences of K4: its table of answers, and what an accepted call returns and leaves. Assumes nothing.
use Rattle.std.specs.Prelude.{ℕ, List}
use Rattle.list_land.specs.Layout as list
use Rattle.list_land.specs.declared.ListLand.{ListLand}
use Rattle.block_land.specs.Layout as block
use Rattle.block_land.specs.declared.BlockLand.{BlockLand}
use Rattle.pair_model.specs.Pairs.{Both, both, PairCall}
use Rattle.pair_model.specs.PairLayouts.{same_arenas, pair_read}
use Rattle.pair_model.specs.PairAnswers.{PairReadRows, PairCallRight}

-- 5 and 6 as in a flush, and 6 where the lands overlap, whatever the handles and the words.
abbrev pub ReadsRight : Both ListLand BlockLand → Both (List ℕ) (List ℕ) → Type 0
ReadsRight h w =
    PairReadRows
    (both (list.set_up h.list w.list) (block.set_up h.block w.block))
    (both (list.sound h.list w.list) (block.sound h.block w.block))
    (same_arenas (list.arena_of h.list) (block.arena_of h.block w.block))
    (both (list.walk_of h.list w.list).met (block.table_of h.block w.block))
    (pair_read list.layout block.layout h w)

-- And a refusal changes nothing; where a pair is read, the outcome and the pair read afterwards are those of K4.
pub record PairIsRight : Type 0 where
  pub reads : (h : Both ListLand BlockLand) (w : Both (List ℕ) (List ℕ)) → ReadsRight h w
  pub calls : (c : PairCall) (h : Both ListLand BlockLand) (w : Both (List ℕ) (List ℕ)) → PairCallRight list.layout block.layout c h w
