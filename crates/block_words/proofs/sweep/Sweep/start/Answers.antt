-- `Sweep::start` meets its contract. Assumes nothing.
use Rattle.std.proofs.Common.{◌<◌, arith}
use Rattle.block_words.proofs.Tallying.{start-above}
use Rattle.block_words.proofs.sweep.Sweep.start.Goals as goal

pub minus-requires : goal.minus-requires
minus-requires c = let q : 0 < c.args.arena.base.0 = search start-above in omega arith
