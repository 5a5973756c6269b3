-- `Reader::read` meets its contract: at each turn the bytes up to here are read, and none is a newline. Assumes nothing.
use Rattle.lines.proofs.Running.{along-next}
use Rattle.lines.proofs.Reader.read.Goals as goal

pub loop-at-preserved : goal.loop-at-preserved
loop-at-preserved c = search along-next
