-- `ListLand::delete` meets its contract: 5, 6, and then the place. Assumes nothing.
use Rattle.model.specs.Calls.{delete}
use Rattle.model.proofs.lands.EditAnswers.{edit-err}
use Rattle.model.proofs.lands.Looking.{saw}
use Rattle.list_land.proofs.Land.{list_land}
use Rattle.list_land.proofs.ListLand.delete.Goals as goal

pub delete_at-requires : goal.delete_at-requires
delete_at-requires c = saw list_land _ _ _ _ c.look.ensures _ c.in-Ok.is

pub returns-in-Err : goal.returns-in-Err
returns-in-Err c =
    let y = c.args.range in
    edit-err list_land _ _ _ _ c.look.ensures (delete y.base.0 y.limit.0) _ c.in-Err.is _ c.refused.ensures
