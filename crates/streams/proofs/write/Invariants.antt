-- The bytes in front of those that are left are written.
use Rattle.std.proofs.Common.{length}
use Rattle.streams.proofs.Writing.{Written}
use Rattle.streams.proofs.write.Given as goal

abbrev pub invariant-loop-left : goal.invariant-loop-left
invariant-loop-left g l = Written (g.W.Write.contents l.initial.to) (g.W.Write.contents l.to) l.bytes l.left

abbrev pub decreases-loop-left : goal.decreases-loop-left
decreases-loop-left g l = length l.left
