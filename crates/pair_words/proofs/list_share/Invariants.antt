-- `list_share` meets its contract: at each turn the sum and what is still to come make up the whole. Assumes nothing.
use Rattle.pair_words.proofs.Walking.{left_over}
use Rattle.pair_words.proofs.Sharing.{Summing}
use Rattle.pair_words.proofs.list_share.Given as goal

abbrev pub invariant-loop-arena : goal.invariant-loop-arena
invariant-loop-arena l = Summing l.arena l.words l.initial.at l.range l.at l.sum

abbrev pub decreases-loop-arena : goal.decreases-loop-arena
decreases-loop-arena l = left_over l.arena.limit.0 l.at
