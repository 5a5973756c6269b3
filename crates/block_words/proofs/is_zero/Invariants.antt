-- `is_zero` meets its contract: at each turn the words OR-ed and those from there on decide. Assumes nothing.
use Rattle.block_words.proofs.Zeros.{Zeros}
use Rattle.block_words.proofs.is_zero.Given as goal

abbrev pub invariant-loop-word : goal.invariant-loop-word
invariant-loop-word l = Zeros l.words l.n l.word-index l.bits
