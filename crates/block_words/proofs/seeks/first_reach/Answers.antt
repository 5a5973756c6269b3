-- `first_reach` meets its contract: the place is from lo up to hi. Assumes nothing.
use Rattle.block_words.proofs.Halving.{halve-up}
use Rattle.units.proofs.Orders.{orders}
use Rattle.block_words.proofs.seeks.first_reach.Goals as goal

pub loop-lo-preserved-then-lt : goal.loop-lo-preserved-then-lt
loop-lo-preserved-then-lt c = search (halve-up, orders)
