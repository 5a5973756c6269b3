-- `cut_at` meets its contract. Assumes nothing.
use Rattle.list_edits.proofs.Cutting.{held_cut}
use Rattle.list_edits.proofs.EditWays.{cut-ways}
use borrow.Author.Rules.{rules}
use Rattle.list_edits.proofs.cut_at.Goals as goal

pub overflow_sub-ranges : goal.overflow_sub-ranges
overflow_sub-ranges c = (held_cut _ _ _ _ _ c.requires).some

pub overflow_add-ranges-2 : goal.overflow_add-ranges-2
overflow_add-ranges-2 c = let n = (held_cut _ _ _ _ _ c.requires).count in search rules

pub minus-bytes-requires : goal.minus-bytes-requires
minus-bytes-requires c =
    let n = (held_cut _ _ _ _ _ c.requires).bytes in search rules

pub store-head-requires : goal.store-head-requires
store-head-requires c = search cut-ways

pub returns : goal.returns
returns c = search cut-ways
