-- `BlockLand::delete` meets its contract: 5, 6, and then the table. Assumes nothing.
use Rattle.model.specs.Calls.{delete}
use Rattle.model.proofs.lands.EditAnswers.{edit-err}
use Rattle.model.proofs.lands.Looking.{saw}
use Rattle.block_land.proofs.Land.{block_land}
use Rattle.block_land.proofs.BlockLand.delete.Goals as goal

pub delete_at-requires : goal.delete_at-requires
delete_at-requires c = search (saw block_land)

pub returns-in-Err : goal.returns-in-Err
returns-in-Err c =
    let y = c.args.range in
    edit-err block_land _ _ _ _ c.look.ensures (delete y.base.0 y.limit.0) _ c.in-Err.is _ c.refused.ensures
