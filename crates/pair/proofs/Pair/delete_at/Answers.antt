-- `Pair::delete_at` meets its contract: the range rule. Assumes nothing.
use Rattle.pair.specs.Calls.{changed}
use Rattle.pair.proofs.Asking.{asked-align, asked-positive, asked-4}
use Rattle.pair.proofs.DeleteAnswers.{is-delete}
use Rattle.pair.proofs.Pair.delete_at.Goals as goal

pub divided-requires : goal.divided-requires
divided-requires c =
    asked-align _ _ _ c.args.range _ _ c.requires _ c.arena.ensures

pub check_range-requires : goal.check_range-requires
check_range-requires c =
    asked-positive _ _ _ c.args.range _ _ c.requires _ c.arena.ensures _ c.divided.ensures

pub returns-in_default : goal.returns-in_default
returns-in_default c =
    asked-4 _ _ _ c.args.range _ _ c.requires _ c.arena.ensures _ c.divided.ensures _ c.check_range.ensures changed _ _ (is-delete _ _ _ c.args.range) (λ g. rw g) (c.in_default.not-Ok tt) _ c.refused.ensures
