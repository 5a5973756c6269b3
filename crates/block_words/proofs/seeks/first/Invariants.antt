-- `first` meets its contract: no range before is long enough. Assumes nothing.
use Rattle.block_words.proofs.Finding.{Upwards}
use Rattle.block_words.proofs.seeks.first.Given as goal

abbrev pub invariant-loop-number : goal.invariant-loop-number
invariant-loop-number l = Upwards l.words l.n l.size l.number
