-- `ListLand::insert_at` meets its contract: 4, 1, and the range put in. Assumes nothing.
use Rattle.model.proofs.Checks.{range-bad, range-good}
use Rattle.model.proofs.lands.EditAnswers.{edit-4, insert-edits}
use Rattle.list_land.specs.Layout.{arena_of}
use Rattle.list_land.proofs.Land.{list_land}
use Rattle.list_land.proofs.EditAnswers.{insert-asks, insert-1, insert-0}
use Rattle.list_land.proofs.Requests.{looked-positive, looked-align}
use Rattle.list_land.specs.inner.Parts.{reach_base}
use Rattle.list_land.proofs.ListLand.insert_at.Goals as goal

pub good_arena-arena-requires : goal.good_arena-arena-requires
good_arena-arena-requires c = search looked-align

pub check_range-requires : goal.check_range-requires
check_range-requires c = search looked-positive

pub returns-in_default : goal.returns-in_default
returns-in_default c =
    let y = c.args.range in
    edit-4 list_land _ _ (reach_base y) _ c.requires _ (insert-edits _ _ y.base.0 y.limit.0)
    (range-bad (arena_of c.args.self) _ c.good_arena-arena.ensures c.args.range _ c.check_range.ensures (c.in_default.not-Ok tt))
    _ c.refused.ensures

pub put_at-requires-clause-held : goal.put_at-requires-clause-held
put_at-requires-clause-held c =
    let g = range-good (arena_of c.args.self) _ c.good_arena-arena.ensures c.args.range _ c.check_range.ensures c.in-Ok.is in
    (insert-asks _ _ c.args.range _ c.requires g _ c.good_arena-arena.ensures _ c.chain.ensures).0

pub returns-in-Err : goal.returns-in-Err
returns-in-Err c =
    let g = range-good (arena_of c.args.self) _ c.good_arena-arena.ensures c.args.range _ c.check_range.ensures c.in-Ok.is in
    insert-1 _ _ c.args.range _ c.requires g _ c.good_arena-arena.ensures _ c.chain.ensures _ _
    c.put_at.ensures _ c.in-Err.is _ c.refused-in-Err.ensures

pub returns-in-Ok-put_at : goal.returns-in-Ok-put_at
returns-in-Ok-put_at c =
    let g = range-good (arena_of c.args.self) _ c.good_arena-arena.ensures c.args.range _ c.check_range.ensures c.in-Ok.is in
    insert-0 _ _ c.args.range _ c.requires g _ c.good_arena-arena.ensures _ c.chain.ensures _ _
    c.put_at.ensures _ c.in-Ok-put_at.is _ c.close.ensures
