-- `above` meets its contract: the range that reaches the address, or the next. Assumes nothing.
use Rattle.block_words.proofs.Seeking.{places}
use Rattle.units.proofs.Orders.{orders}
use Rattle.block_words.proofs.seeks.above.Goals as goal

pub returns-then-lt : goal.returns-then-lt
returns-then-lt c = search (places, orders)

pub returns : goal.returns
returns c = search (places, orders)
