-- `Reader::read` meets its contract: at each turn the bytes up to here are read, and none is a newline. Assumes nothing.
use Rattle.lines.proofs.Running.{Along}
use Rattle.lines.proofs.Reader.read.Given as goal

abbrev pub invariant-loop-at : goal.invariant-loop-at
invariant-loop-at l = Along l.initial.reader l.bytes l.from l.reader l.at
