-- `BlockLand::find_at` meets its contract: 2, the range as it stands, and a part of it taken out. Assumes nothing.
use Rattle.model.proofs.lands.FindAnswers.{find-2, find-kept}
use Rattle.block_land.proofs.Land.{block_land}
use Rattle.block_land.proofs.FindAnswers.{find-within, find-holding, find-end, find-order, find-room, find-0}
use Rattle.block_land.proofs.BlockLand.find_at.Goals as goal

pub returns-then-is_zero : goal.returns-then-is_zero
returns-then-is_zero c =
    find-2 block_land _ _ c.args.which c.args.size c.args.mode _ c.requires.looked c.requires.size_value _ c.is_zero.ensures
    c.if-is_zero.true _ c.none_found.ensures

pub part-part-requires : goal.part-part-requires
part-part-requires c =
    find-within _ _ c.args.which c.args.size c.args.mode _ c.requires.looked c.requires.size_value _ c.is_zero.ensures
    c.if-is_zero.false _ c.arena.ensures _ c.find_size.ensures

pub returns-in-None : goal.returns-in-None
returns-in-None c =
    find-kept block_land _ _ c.args.which c.args.size c.args.mode _ c.requires.looked c.requires.size_value _ c.is_zero.ensures
    c.if-is_zero.false c.in-None.is

pub cut_at-count-requires : goal.cut_at-count-requires
cut_at-count-requires c =
    let held = find-holding _ _ c.args.which c.args.size c.args.mode _ c.requires.looked c.requires.size_value _ c.is_zero.ensures
    c.if-is_zero.false _ c.arena.ensures _ c.find_size.ensures c.in_default.not-None _ c.part-part.ensures in record {
      holding = held;
      at_end = find-end _ _ c.args.which c.args.size c.args.mode _ c.requires.looked c.requires.size_value _ c.is_zero.ensures
          c.if-is_zero.false _ c.arena.ensures _ c.find_size.ensures c.in_default.not-None _ c.part-part.ensures;
    }

pub size-requires : goal.size-requires
size-requires c =
    find-order _ _ c.args.which c.args.size c.args.mode _ c.requires.looked c.requires.size_value _ c.is_zero.ensures
    c.if-is_zero.false _ c.arena.ensures _ c.find_size.ensures c.in_default.not-None _ c.part-part.ensures

pub minus-bytes-requires : goal.minus-bytes-requires
minus-bytes-requires c =
    find-room _ _ c.args.which c.args.size c.args.mode _ c.requires.looked c.requires.size_value _ c.is_zero.ensures
    c.if-is_zero.false _ c.arena.ensures _ c.find_size.ensures c.in_default.not-None _ c.part-part.ensures _ c.size.ensures

pub returns : goal.returns
returns c =
    find-0 _ _ c.args.which c.args.size c.args.mode _ c.requires.looked c.requires.size_value _ c.is_zero.ensures
    c.if-is_zero.false _ c.arena.ensures _ c.find_size.ensures c.in_default.not-None _ c.part-part.ensures _ _
    c.cut_at-count.ensures _ c.size.ensures _ c.minus-bytes.ensures _ c.close.ensures
