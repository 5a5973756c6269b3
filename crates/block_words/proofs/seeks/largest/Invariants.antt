-- `largest` meets its contract: at each turn what is kept of the rest is kept of all. Assumes nothing.
use Rattle.block_words.proofs.Weighing.{Weighing}
use Rattle.block_words.proofs.seeks.largest.Given as goal

abbrev pub invariant-loop-i : goal.invariant-loop-i
invariant-loop-i l = Weighing l.words l.n l.initial.most l.most l.number l.i
