-- `LowWater::check` meets its contract. Assumes nothing.
use Rattle.units.proofs.LowWaters.{low-water-ways}
use Rattle.units.proofs.low_water.LowWater.check.Goals as goal

pub returns-then-bytes-self : goal.returns-then-bytes-self
returns-then-bytes-self c = search low-water-ways

pub returns-then-bytes-gt0 : goal.returns-then-bytes-gt0
returns-then-bytes-gt0 c = search low-water-ways

pub returns-then-self-eq0 : goal.returns-then-self-eq0
returns-then-self-eq0 c = search low-water-ways

pub returns-then-self-eq1 : goal.returns-then-self-eq1
returns-then-self-eq1 c = search low-water-ways

pub returns : goal.returns
returns c = search low-water-ways
