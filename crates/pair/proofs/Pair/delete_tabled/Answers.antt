-- `Pair::delete_tabled` meets its contract: what the table's edit answers. Assumes nothing.
use Rattle.pair.proofs.Asking.{order, order_le}
use Rattle.pair.proofs.DeleteAnswers.{cut_sorted, cut-spot, none-holds, after_none, spills, after-spill, cut-room, cut-0}
use Rattle.pair.proofs.Pair.delete_tabled.Goals as goal

pub cut_out-requires-clause-sorted : goal.cut_out-requires-clause-sorted
cut_out-requires-clause-sorted c = cut_sorted _ _ _ c.args.range _ _ c.requires

pub cut_out-requires-clause-base_lt_limit : goal.cut_out-requires-clause-base_lt_limit
cut_out-requires-clause-base_lt_limit c = order _ _ _ c.args.range _ _ c.requires.asked

pub cut_out-requires-clause-first_reach : goal.cut_out-requires-clause-first_reach
cut_out-requires-clause-first_reach c = cut-spot _ _ _ c.args.range _ _ c.requires

pub refuse_delete-requires : goal.refuse_delete-requires
refuse_delete-requires c =
    none-holds _ _ _ c.args.range _ _ c.requires _ _ c.cut_out.ensures _ c.in-Err.is c.in_default.not-Full

pub hand_over-requires : goal.hand_over-requires
hand_over-requires c =
    spills _ _ _ c.args.range _ _ c.requires _ _ c.cut_out.ensures _ c.in-Err.is c.in-Full.is

pub size-requires : goal.size-requires
size-requires c =
    order_le _ _ _ c.args.range _ _ c.requires.asked

pub minus-bytes-requires : goal.minus-bytes-requires
minus-bytes-requires c =
    cut-room _ _ _ c.args.range _ _ c.requires _ _ c.cut_out.ensures _ c.in-Ok.is _ c.size.ensures

pub returns-in_default : goal.returns-in_default
returns-in_default c =
    after_none _ _ _ c.args.range _ _ c.requires _ _ c.cut_out.ensures _ c.in-Err.is c.in_default.not-Full _ _ _ c.refuse_delete.ensures

pub returns-in-Full : goal.returns-in-Full
returns-in-Full c =
    after-spill _ _ _ c.args.range _ _ c.requires _ _ c.cut_out.ensures _ c.in-Err.is c.in-Full.is _ _ _ c.hand_over.ensures

pub returns-in-Ok : goal.returns-in-Ok
returns-in-Ok c =
    cut-0 _ _ _ c.args.range _ _ c.requires _ _ c.cut_out.ensures _ c.in-Ok.is _ c.size.ensures _ c.minus-bytes.ensures _ c.close-block.ensures
