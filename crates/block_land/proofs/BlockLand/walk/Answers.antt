-- `BlockLand::walk` meets its contract. Assumes nothing.
use Rattle.model.proofs.lands.WalkAnswers.{walk-words, walk-err, walk_2, walk_0}
use Rattle.block_land.proofs.Land.{block_land}
use Rattle.block_land.proofs.BlockLand.walk.Goals as goal

pub returns-in-Err : goal.returns-in-Err
returns-in-Err c = search (walk-words block_land, walk-err block_land)

pub returns-then-is_zero : goal.returns-then-is_zero
returns-then-is_zero c = search (walk-words block_land, walk_2 block_land)

pub returns-else-is_zero : goal.returns-else-is_zero
returns-else-is_zero c = search (walk-words block_land, walk_0 block_land)
