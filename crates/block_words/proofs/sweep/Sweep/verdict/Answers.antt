-- `Sweep::verdict` meets its contract: the top bits, the last limit, the alignments, the bytes. Assumes nothing.
use Rattle.block_words.proofs.Tallying.{verdicts}
use Rattle.block_words.proofs.sweep.Sweep.verdict.Goals as goal

pub bit-align-requires : goal.bit-align-requires
bit-align-requires c = search verdicts

pub divides-requires : goal.divides-requires
divides-requires c = search verdicts
