-- `Pair::find_in_block` meets its contract: the range as it stands, and a part of it taken out. Assumes nothing.
use Rattle.pair.proofs.FindParts.{block_within, block-kept, block-takes, block_0}
use Rattle.pair.proofs.Pair.find_in_block.Goals as goal

pub part-part-requires : goal.part-part-requires
part-part-requires c =
    block_within c.args.self _ c.args.which c.args.size c.args.mode _ c.requires _ c.arena.ensures _ c.find_size.ensures

pub returns-in-None : goal.returns-in-None
returns-in-None c =
    block-kept c.args.self _ c.args.which c.args.size c.args.mode _ c.requires c.in-None.is

pub take_tabled-block-requires : goal.take_tabled-block-requires
take_tabled-block-requires c =
    block-takes c.args.self _ c.args.which c.args.size c.args.mode _ c.requires
    _ c.arena.ensures _ c.find_size.ensures c.in_default.not-None _ c.part-part.ensures

pub returns : goal.returns
returns c =
    block_0 c.args.self _ c.args.which c.args.size c.args.mode _ c.requires
    _ c.arena.ensures _ c.find_size.ensures c.in_default.not-None _ c.part-part.ensures _ _ c.take_tabled-block.ensures
