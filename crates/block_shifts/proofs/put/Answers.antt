-- `put` meets its contract. Assumes nothing.
use Rattle.block_shifts.specs.inner.Shifts.{with_pair}
use Rattle.block_shifts.proofs.put.Goals as goal

pub returns : goal.returns
unfolding with_pair
returns c = rw (c.number-2.ensures, c.number.ensures)
