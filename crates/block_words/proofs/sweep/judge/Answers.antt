-- `judge` meets its contract: going on from each turn comes to the same as from the start. Assumes nothing.
use Rattle.block_words.proofs.Sweeping.{goings}
use Rattle.block_words.proofs.sweep.judge.Goals as goal

pub loop-i-preserved : goal.loop-i-preserved
loop-i-preserved c = search goings

pub returns : goal.returns
returns c = search goings
