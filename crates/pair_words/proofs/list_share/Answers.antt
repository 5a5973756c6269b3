-- `list_share` meets its contract: at each turn the sum and what is still to come make up the whole. Assumes nothing.
use Rattle.pair_words.proofs.Sharing.{sums}
use Rattle.pair_words.proofs.list_share.Goals as goal

pub loop-arena-init : goal.loop-arena-init
loop-arena-init c = search sums

pub plus-sum-requires : goal.plus-sum-requires
plus-sum-requires c = search sums

pub loop-arena-preserved : goal.loop-arena-preserved
loop-arena-preserved c = search sums
