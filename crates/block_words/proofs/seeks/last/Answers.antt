-- `last` meets its contract: no range behind is long enough. Assumes nothing.
use Rattle.block_words.proofs.Finding.{downs}
use Rattle.units.proofs.Orders.{orders}
use Rattle.block_words.proofs.seeks.last.Goals as goal

pub size-requires : goal.size-requires
size-requires c = search downs

pub returns-then-le : goal.returns-then-le
returns-then-le c = search (downs, orders)

pub returns : goal.returns
returns c = search downs
