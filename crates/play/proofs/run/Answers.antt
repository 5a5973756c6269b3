use Rattle.std.proofs.Common.{rules}
use Rattle.play.proofs.Printing.{loop-goes-on, loop-ends}
use Rattle.play.proofs.run.Goals as goal

pub returns-in-None : goal.returns-in-None
returns-in-None g c =
    let at = c.loop.invariant in
    let read = rw c.in-None.is at c.in_ok-next.ensures.prints in
    λ some. loop-ends c.finish.result _ _ _ _ _ _ _ _ _ _ _ _ (at.4 (search rules)) (read (search rules)) at.3 (search rules) c.finish.ensures

pub loop-preserved : goal.loop-preserved
loop-preserved g c =
    let at = c.loop.invariant in
    let read = rw c.in-Some.is at c.in_ok-next.ensures in
    (search rules, search rules, search rules, read.still, λ some. loop-goes-on _ _ _ _ _ _ _ _ _ _ _ _ (at.4 (search rules)) (read.prints (search rules)))
