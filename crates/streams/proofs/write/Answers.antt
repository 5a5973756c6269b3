use Rattle.streams.proofs.Writing.{more-written}
use Rattle.streams.proofs.write.Goals as goal

pub loop-left-preserved : goal.loop-left-preserved
loop-left-preserved g c = more-written _ _ _ _ c.loop-left.invariant _ _ c.in_ok-n.ensures.took
