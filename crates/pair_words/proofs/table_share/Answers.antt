-- `table_share` meets its contract: at each turn the sum and what is still to come make up the whole. Assumes nothing.
use Rattle.pair_words.proofs.Sharing.{adds}
use Rattle.pair_words.proofs.table_share.Goals as goal

pub loop-i-init : goal.loop-i-init
loop-i-init c = search adds

pub plus-sum-requires : goal.plus-sum-requires
plus-sum-requires c = search adds

pub loop-i-preserved : goal.loop-i-preserved
loop-i-preserved c = search adds
