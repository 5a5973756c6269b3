-- `Pair::delete_good` meets its contract: the list first, then the table. Assumes nothing.
use Rattle.pair.proofs.DeleteAnswers.{in-list-takes, in-list-0, not-in-list}
use Rattle.pair.proofs.Pair.delete_good.Goals as goal

pub take_listed-list-requires : goal.take_listed-list-requires
take_listed-list-requires c =
    in-list-takes _ _ _ c.args.range _ _ c.requires _ c.begins_below.ensures c.if-begins_below.true

pub returns-then-begins_below : goal.returns-then-begins_below
returns-then-begins_below c =
    in-list-0 _ _ _ c.args.range _ _ c.requires _ c.begins_below.ensures c.if-begins_below.true _ _ c.take_listed-list.ensures

pub delete_tabled-requires : goal.delete_tabled-requires
delete_tabled-requires c =
    not-in-list _ _ _ c.args.range _ _ c.requires _ c.begins_below.ensures c.if-begins_below.false
