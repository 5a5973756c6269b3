-- `last` meets its contract: no range behind is long enough. Assumes nothing.
use Rattle.block_words.proofs.Finding.{Downwards}
use Rattle.block_words.proofs.seeks.last.Given as goal

abbrev pub invariant-loop-number : goal.invariant-loop-number
invariant-loop-number l = Downwards l.words l.n l.size l.number
