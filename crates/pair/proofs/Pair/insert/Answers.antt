-- `Pair::insert` meets its contract: 5, 6, and then the place. Assumes nothing.
use Rattle.pair.specs.Calls.{changed}
use Rattle.pair.proofs.Calling.{saw-checked, answers-err}
use Rattle.pair.proofs.Inserting.{is-insert}
use Rattle.pair.proofs.Pair.insert.Goals as goal

pub insert_at-requires : goal.insert_at-requires
insert_at-requires c =
    saw-checked _ _ _ _ _ c.check.ensures _ _ c.in-Ok.is

pub returns-in-Err : goal.returns-in-Err
returns-in-Err c =
    answers-err _ _ _ _ _ c.check.ensures changed _ _ (is-insert _ _ _ c.args.range) _ c.in-Err.is _ c.refused.ensures
