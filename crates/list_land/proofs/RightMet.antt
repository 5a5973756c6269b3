-- Every call of the list land is right, by the theorem of `model`. Assumes nothing.
use Rattle.model.proofs.lands.Ways.{land-right}
use Rattle.list_land.specs.Claims.{ListRight}
use Rattle.list_land.proofs.Land.{list_land}

pub list_right : ListRight
list_right = land-right list_land
