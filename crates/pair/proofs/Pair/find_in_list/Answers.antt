-- `Pair::find_in_list` meets its contract: the range as it stands, and a part of it taken out. Assumes nothing.
use Rattle.pair.proofs.FindParts.{list-within, list-kept, list-takes, list-0}
use Rattle.pair.proofs.Pair.find_in_list.Goals as goal

pub part-part-requires : goal.part-part-requires
part-part-requires c =
    list-within c.args.self _ c.args.which c.args.size c.args.mode _ c.requires _ c.arena.ensures _ c.find_size.ensures

pub returns-in-None : goal.returns-in-None
returns-in-None c =
    list-kept c.args.self _ c.args.which c.args.size c.args.mode _ c.requires c.in-None.is

pub take_listed-list-requires : goal.take_listed-list-requires
take_listed-list-requires c =
    list-takes c.args.self _ c.args.which c.args.size c.args.mode _ c.requires
    _ c.arena.ensures _ c.find_size.ensures c.in_default.not-None _ c.part-part.ensures

pub returns : goal.returns
returns c =
    list-0 c.args.self _ c.args.which c.args.size c.args.mode _ c.requires
    _ c.arena.ensures _ c.find_size.ensures c.in_default.not-None _ c.part-part.ensures _ _ c.take_listed-list.ensures
