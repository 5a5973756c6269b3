-- `Pair::refuse_delete` meets its contract: 7 where every byte is free, else 1. Assumes nothing.
use Rattle.pair.proofs.DeleteNowhere.{nowhere-order, nowhere-tabled, nowhere-listed, nowhere-sum, nowhere-7, nowhere-1}
use Rattle.pair.proofs.Pair.refuse_delete.Goals as goal

pub list_share-listed-requires : goal.list_share-listed-requires
list_share-listed-requires c =
    nowhere-listed _ _ _ c.args.range c.requires _ c.arena.ensures

pub table_share-tabled-requires : goal.table_share-tabled-requires
table_share-tabled-requires c =
    nowhere-tabled _ _ _ c.args.range c.requires

pub plus-requires : goal.plus-requires
plus-requires c =
    nowhere-sum _ _ _ c.args.range c.requires _ c.arena.ensures _ c.list_share-listed.ensures _ c.table_share-tabled.ensures

pub size-requires : goal.size-requires
size-requires c =
    nowhere-order _ _ _ c.args.range c.requires

pub returns-then-eq : goal.returns-then-eq
returns-then-eq c =
    nowhere-7 _ _ _ c.args.range c.requires _ c.arena.ensures _ c.list_share-listed.ensures _ c.table_share-tabled.ensures _ c.plus.ensures _ c.size.ensures _ c.eq.ensures c.if-eq.true _ c.refused.ensures

pub returns : goal.returns
returns c =
    nowhere-1 _ _ _ c.args.range c.requires _ c.arena.ensures _ c.list_share-listed.ensures _ c.table_share-tabled.ensures _ c.plus.ensures _ c.size.ensures _ c.eq.ensures c.if-eq.false _ c.refused-2.ensures
