-- `first` meets its contract: no range before is long enough. Assumes nothing.
use Rattle.block_words.proofs.Finding.{ups}
use Rattle.units.proofs.Orders.{orders}
use Rattle.block_words.proofs.seeks.first.Goals as goal

pub size-requires : goal.size-requires
size-requires c = search ups

pub returns-then-le : goal.returns-then-le
returns-then-le c = search (ups, orders)

pub returns : goal.returns
returns c = search ups
