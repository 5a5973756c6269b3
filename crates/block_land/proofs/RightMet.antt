-- Every call of the block land is right, by the theorem of `model`. Assumes nothing.
use Rattle.model.proofs.lands.Ways.{land-right}
use Rattle.block_land.specs.Claims.{BlockRight}
use Rattle.block_land.proofs.Land.{block_land}

pub block-right : BlockRight
block-right = land-right block_land
