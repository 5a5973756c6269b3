-- `feed` meets its contract: line after line. Assumes nothing.
use native.Mathlib.Omega.{arith}
use Rattle.script.proofs.Going.{goes_then, closes-full}
use Rattle.script.proofs.Script.feed.Goals as goal

pub loop-fed-preserved : goal.loop-fed-preserved
loop-fed-preserved c = (omega arith, goes_then c.loop-fed.invariant.1 c.line-next.ensures.goes, c.if-next.false)

pub returns-then-next-clause-out_after : goal.returns-then-next-clause-out_after
returns-then-next-clause-out_after c =
    let inv = c.loop-fed.invariant in
    (closes-full _ _ _ _ _ _ _ (goes_then inv.1 c.line-next.ensures.goes) c.loop-fed.out inv.1.size c.if-next.true (c.line-next.ensures.moves.stops c.if-next.true)).buffer
