-- `join::fit_above` meets its contract. Assumes nothing.
use Rattle.units.proofs.Orders.{orders}
use Rattle.block_edits.proofs.Fitting.{above-touching, above-over, above_apart}
use Rattle.block_edits.proofs.join.fit_above.Goals as goal

pub returns-then-eq : goal.returns-then-eq
returns-then-eq c = search above-touching

pub returns-then-lt : goal.returns-then-lt
returns-then-lt c = search (above-over, orders)

pub returns : goal.returns
returns c = search (above_apart, orders)
