-- `table_share` meets its contract: at each turn the sum and what is still to come make up the whole. Assumes nothing.
use Rattle.pair_words.proofs.Sharing.{Adding}
use Rattle.pair_words.proofs.table_share.Given as goal

abbrev pub invariant-loop-i : goal.invariant-loop-i
invariant-loop-i l = Adding l.nodes l.count l.range l.i l.sum
