-- `Pair::find` meets its contract: 5, 6, and then the ranges chosen. Assumes nothing.
use Rattle.pair.proofs.Calling.{saw-checked}
use Rattle.pair.proofs.FindAnswers.{find-err}
use Rattle.pair.proofs.Pair.find.Goals as goal

pub find_at-requires : goal.find_at-requires
find_at-requires c =
    saw-checked _ _ _ _ _ c.check.ensures _ _ c.in-Ok.is

pub returns-in-Err : goal.returns-in-Err
returns-in-Err c =
    let a = c.args in
    find-err a.self _ _ a.which a.size a.mode _ c.check.ensures _ c.in-Err.is _ c.none_found.ensures
