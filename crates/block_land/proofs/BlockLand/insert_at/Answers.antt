-- `BlockLand::insert_at` meets its contract: 4, 1, 3, and the edit done. Assumes nothing.
use mathlib.Core.List.{[]}
use Rattle.model.proofs.Checks.{range-bad, range-good}
use Rattle.block_land.specs.Layout.{arena_of}
use Rattle.model.proofs.lands.EditAnswers.{edit-4, insert-edits}
use Rattle.block_land.proofs.Land.{block_land}
use Rattle.block_land.proofs.Requests.{readable, looked-spot, looked-positive, looked-align, sorted, edit-order, edit-order-le}
use Rattle.block_land.proofs.EditAnswers.{insert-refused, insert-room, insert-0}
use Rattle.block_land.specs.inner.Parts.{reach_base}
use Rattle.block_land.proofs.BlockLand.insert_at.Goals as goal

pub good_arena-requires : goal.good_arena-requires
good_arena-requires c = search looked-align

pub check_range-requires : goal.check_range-requires
check_range-requires c = search looked-positive

pub returns-in_default : goal.returns-in_default
returns-in_default c =
    let y = c.args.range in
    edit-4 block_land _ _ (reach_base y) _ c.requires _ (insert-edits _ _ y.base.0 y.limit.0)
    (range-bad (arena_of c.args.self []) _ c.good_arena.ensures c.args.range _ c.check_range.ensures (c.in_default.not-Ok tt))
    _ c.refused.ensures

pub put_at-requires-clause-sorted : goal.put_at-requires-clause-sorted
put_at-requires-clause-sorted c = sorted _ _ (readable _ _ (reach_base c.args.range) _ c.requires)

pub put_at-requires-clause-base_lt_limit : goal.put_at-requires-clause-base_lt_limit
put_at-requires-clause-base_lt_limit c = edit-order c.args.self [] c.args.range (range-good (arena_of c.args.self []) _ c.good_arena.ensures c.args.range _ c.check_range.ensures c.in-Ok.is)

pub put_at-requires-clause-first_reach : goal.put_at-requires-clause-first_reach
put_at-requires-clause-first_reach c = looked-spot _ _ c.args.range.base _ c.requires

pub size-requires : goal.size-requires
size-requires c =
    edit-order-le c.args.self [] c.args.range (range-good (arena_of c.args.self []) _ c.good_arena.ensures c.args.range _ c.check_range.ensures c.in-Ok.is)

pub plus-bytes-requires : goal.plus-bytes-requires
plus-bytes-requires c =
    insert-room _ _ c.args.range _ c.requires (range-good (arena_of c.args.self []) _ c.good_arena.ensures c.args.range _ c.check_range.ensures c.in-Ok.is) _ c.size.ensures

pub returns-in-Err : goal.returns-in-Err
returns-in-Err c =
    insert-refused _ _ c.args.range _ c.requires (range-good (arena_of c.args.self []) _ c.good_arena.ensures c.args.range _ c.check_range.ensures c.in-Ok.is) _ _ c.put_at.ensures _ c.in-Err.is _ c.refused-in-Err.ensures

pub returns-in-Ok-put_at : goal.returns-in-Ok-put_at
returns-in-Ok-put_at c =
    insert-0 _ _ c.args.range _ c.requires (range-good (arena_of c.args.self []) _ c.good_arena.ensures c.args.range _ c.check_range.ensures c.in-Ok.is) _ _ c.put_at.ensures _ c.in-Ok-put_at.is _ c.size.ensures _ c.plus-bytes.ensures _ c.close.ensures
