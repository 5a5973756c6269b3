-- Every call of a pair is right, by the theorems of `pair_model`. Assumes nothing.
use Prim.Native.Nat.{ℕ}
use mathlib.Core.List.{List}
use mathlib.Core.Path.{refl}
use Rattle.list_land.specs.Layout as list
use Rattle.list_land.specs.declared.ListLand.{ListLand}
use Rattle.list_land.proofs.LayoutLaws.{list-laws}
use Rattle.list_land.proofs.Sound as list-sound
use Rattle.block_land.specs.Layout as block
use Rattle.block_land.specs.declared.BlockLand.{BlockLand}
use Rattle.block_land.proofs.LayoutLaws.{block-laws}
use Rattle.block_land.proofs.Sound as block-sound
use Rattle.pair_model.specs.Pairs.{Both, both}
use Rattle.pair_model.specs.PairLayouts.{same_arenas}
use Rattle.pair_model.proofs.PairCalling.{pair-read-rows, pair-call-right}
use Rattle.pair.specs.Right.{ReadsRight, PairIsRight}

reads : (h : Both ListLand BlockLand) (w : Both (List ℕ) (List ℕ)) → ReadsRight h w
unfolding list.read_of block.read_of
reads h w =
    pair-read-rows
    (both (list.set_up h.list w.list) (block.set_up h.block w.block))
    (both (list.sound h.list w.list) (block.sound h.block w.block))
    (same_arenas (list.arena_of h.list) (block.arena_of h.block w.block))
    (both (list.walk_of h.list w.list).met (block.table_of h.block w.block))
    (list.base h.list) (list.limit h.list) (block.base h.block) (block.limit h.block)
    (λ g s. (list-sound.fine h.list w.list g s).apart)
    (λ g s. (block-sound.fine h.block w.block g s).apart)

pub pair-right : PairIsRight
pair-right = record { reads = reads; calls = λ c h w. pair-call-right list.layout list-laws block.layout block-laws (λ p v. refl) c h w }
