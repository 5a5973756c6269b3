-- `judge` meets its contract: going on from each turn comes to the same as from the start. Assumes nothing.
use Rattle.block_words.proofs.Sweeping.{Going}
use Rattle.block_words.proofs.sweep.judge.Given as goal

abbrev pub invariant-loop-i : goal.invariant-loop-i
invariant-loop-i l = Going l.arena l.words l.n l.i l.sweep
