-- `Pair::delete` meets its contract: 5, 6, and then the places. Assumes nothing.
use Rattle.pair.specs.Calls.{changed}
use Rattle.pair.proofs.Calling.{saw-checked, answers-err}
use Rattle.pair.proofs.DeleteAnswers.{is-delete}
use Rattle.pair.proofs.Pair.delete.Goals as goal

pub delete_at-requires : goal.delete_at-requires
delete_at-requires c =
    saw-checked _ _ _ _ _ c.check.ensures _ _ c.in-Ok.is

pub returns-in-Err : goal.returns-in-Err
returns-in-Err c =
    answers-err _ _ _ _ _ c.check.ensures changed _ _ (is-delete _ _ _ c.args.range) _ c.in-Err.is _ c.refused.ensures
