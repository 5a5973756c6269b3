-- `put_line` meets its contract. Assumes nothing.
use Rattle.texts.proofs.Writing.{line-more, line-end}
use Rattle.texts.proofs.put_line.Goals as goal

pub loop-n-preserved : goal.loop-n-preserved
loop-n-preserved c = line-more _ _ _ _ c.loop-n.invariant c.loop-n-test.true c.put-next.ensures

pub returns : goal.returns
returns c =
    let parts = rw c.unwrap.ensures at c.split_last.ensures.cases in
    line-end _ _ _ _ c.loop-n.invariant c.loop-n-test.false c.loop-n.auto.n-index-end _ _ parts c.put.ensures
