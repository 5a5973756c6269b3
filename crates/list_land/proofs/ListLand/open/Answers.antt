-- `ListLand::open` meets its contract. Assumes nothing.
use Rattle.list_land.proofs.Ways.{open-ways}
use Rattle.list_land.proofs.ListLand.open.Goals as goal

pub returns-in-Err : goal.returns-in-Err
returns-in-Err c = search open-ways

pub returns : goal.returns
returns c = search open-ways
