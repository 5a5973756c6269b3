-- `ListLand::walk` meets its contract. Assumes nothing.
use Rattle.model.proofs.lands.WalkAnswers.{walk-words, walk-err, walk_2, walk_0}
use Rattle.list_land.proofs.Land.{list_land}
use Rattle.list_land.proofs.ListLand.walk.Goals as goal

pub returns-then-is_zero : goal.returns-then-is_zero
returns-then-is_zero c = search (walk-words list_land, walk_2 list_land)

pub returns-in-Err : goal.returns-in-Err
returns-in-Err c = search (walk-words list_land, walk-err list_land)

pub returns-else-is_zero : goal.returns-else-is_zero
returns-else-is_zero c = search (walk-words list_land, walk_0 list_land)
