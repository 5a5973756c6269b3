-- `first_reach` meets its contract: the place is from lo up to hi. Assumes nothing.
use Rattle.std.proofs.Common.{◌-◌}
use Rattle.block_words.proofs.Halving.{Halving}
use Rattle.block_words.proofs.seeks.first_reach.Given as goal

abbrev pub invariant-loop-lo : goal.invariant-loop-lo
invariant-loop-lo l = Halving l.words l.n l.x.0 l.lo l.hi

abbrev pub decreases-loop-lo : goal.decreases-loop-lo
decreases-loop-lo l = l.hi - l.lo
