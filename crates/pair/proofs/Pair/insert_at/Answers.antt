-- `Pair::insert_at` meets its contract: 4, 1, and the range put in. Assumes nothing.
use Rattle.pair.specs.Calls.{changed}
use Rattle.pair.proofs.Asking.{asked-align, asked-positive, asked-4, asked-good}
use Rattle.pair.proofs.Inserting.{is-insert, taken-1}
use Rattle.pair.proofs.Pair.insert_at.Goals as goal

pub by_bit-requires : goal.by_bit-requires
by_bit-requires c =
    asked-align _ _ _ c.args.range _ _ c.requires _ c.arena.ensures

pub check_range-requires : goal.check_range-requires
check_range-requires c =
    asked-positive _ _ _ c.args.range _ _ c.requires _ c.arena.ensures _ c.by_bit.ensures

pub returns-in_default : goal.returns-in_default
returns-in_default c =
    asked-4 _ _ _ c.args.range _ _ c.requires _ c.arena.ensures _ c.by_bit.ensures _ c.check_range.ensures
    changed _ _ (is-insert _ _ _ c.args.range) (λ g. rw g) (c.in_default.not-Ok tt) _ c.refused.ensures

pub returns-then-taken : goal.returns-then-taken
returns-then-taken c =
    let wanted = asked-good _ _ _ c.args.range _ _ c.requires _ c.arena.ensures _ c.by_bit.ensures _ c.check_range.ensures c.in-Ok.is in
    taken-1 _ _ _ c.args.range _ _ wanted _ c.taken.ensures c.if-taken.true _ c.refused-then-taken.ensures
