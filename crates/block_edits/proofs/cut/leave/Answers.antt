-- `cut::leave` meets its contract. Assumes nothing.
use Rattle.units.proofs.Orders.{orders}
use Rattle.block_edits.proofs.Replacing.{leave-both, leave_low, leave-high}
use Rattle.block_edits.proofs.cut.leave.Goals as goal

pub returns-then-lt-2 : goal.returns-then-lt-2
returns-then-lt-2 c = search (leave-both, orders)

pub returns-then-lt : goal.returns-then-lt
returns-then-lt c = search (leave_low, orders)

pub returns-then-lt-3 : goal.returns-then-lt-3
returns-then-lt-3 c = search (leave-high, orders)
