-- `put_line` meets its contract: at each turn the numbers up to here stand in the buffer, a space behind each. Assumes nothing.
use Rattle.std.proofs.Common.{◌*◌, take}
use Rattle.texts.specs.inner.Writing.{Wrote}
use Rattle.texts.proofs.Writing.{spaced}
use Rattle.texts.proofs.put_line.Given as goal

abbrev pub invariant-loop-n : goal.invariant-loop-n
invariant-loop-n l = Wrote (21 * l.n-index) l.initial.out l.at (spaced (take l.n-index l.front)) l.out l.next
