-- `lines_from` meets its contract: the lines up to an address stand in the buffer. Assumes nothing.
use native.Mathlib.Omega.{arith}
use Rattle.script.proofs.Telling.{tell-next, tell-end, tell-full, tell-less}
use Rattle.script.proofs.turns.lines_from.Goals as goal

pub returns-then-met-ne0 : goal.returns-then-met-ne0
returns-then-met-ne0 c = tell-end _ _ _ _ _ _ _ c.loop-out.invariant c.walk-met.result c.walk-met.ensures.0 c.if-met-ne0.true (omega arith)

pub loop-out-smaller : goal.loop-out-smaller
loop-out-smaller c = omega (arith, tell-less _ _ _ c.put_line-at.ensures)

pub loop-out-preserved : goal.loop-out-preserved
loop-out-preserved c =
    tell-next _ _ _ _ _ _ _ c.loop-out.invariant c.walk-met.result c.walk-met.ensures.0 c.if-met-ne0.false _ _ c.number.ensures c.number-in-loop-out.ensures (omega arith) _ _
    c.put_line-at.ensures

pub returns : goal.returns
returns c = tell-full _ _ _ _ _ _ _ c.loop-out.invariant (omega arith)
