-- `largest` meets its contract: at each turn what is kept of the rest is kept of all. Assumes nothing.
use Rattle.units.proofs.Orders.{orders}
use Rattle.block_words.proofs.Weighing.{weighings}
use Rattle.block_words.proofs.seeks.largest.Goals as goal
use Rattle.block_words.proofs.seeks.largest.Goals.{then-lt, else-lt}

pub loop-i-init : goal.loop-i-init
loop-i-init c = search weighings

pub size-long-requires : goal.size-long-requires
size-long-requires c = search weighings

pub loop-i-preserved : goal.loop-i-preserved
loop-i-preserved c =
    elim c.if-lt.branch [
      | then-lt w ↦ rw (w.most-is, w.number-is) (search (weighings, orders, w.if-lt.true))
      | else-lt w ↦ rw (w.most-is, w.number-is) (search (weighings, orders, w.if-lt.false))
    ]
