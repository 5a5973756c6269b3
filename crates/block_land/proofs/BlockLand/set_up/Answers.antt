-- `BlockLand::set_up` meets its contract. Assumes nothing.
use Rattle.model.proofs.lands.Ways.{set-up-bad, set-up-lent}
use Rattle.block_land.proofs.Land.{block_land}
use Rattle.block_land.proofs.BlockLand.set_up.Goals as goal

pub returns-in_default : goal.returns-in_default
returns-in_default c = search (set-up-bad block_land, c.in_default.not-Ok tt)

pub returns : goal.returns
returns c = search (set-up-lent block_land)
