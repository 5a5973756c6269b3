-- `ListLand::find` meets its contract: 5, 6, and then the range chosen. Assumes nothing.
use Rattle.model.specs.Calls.{find}
use Rattle.model.proofs.lands.FindAnswers.{looked-err}
use Rattle.model.proofs.lands.Looking.{saw}
use Rattle.list_land.proofs.Land.{list_land}
use Rattle.list_land.proofs.ListLand.find.Goals as goal

pub find_at-requires : goal.find_at-requires
find_at-requires c = search (saw list_land)

pub returns-in-Err : goal.returns-in-Err
returns-in-Err c =
    let a = c.args in
    looked-err list_land _ _ _ _ c.look.ensures (find a.which a.size.0 a.mode) _ c.in-Err.is _ c.none_found.ensures
