-- `clear` meets its contract: the pairs are set to 0 from the last down. Assumes nothing.
use mathlib.Core.Path.{refl}
use native.Mathlib.Omega.{arith}
use Rattle.block_shifts.proofs.Clearing.{clear-start, clear_next, clear-done}
use Rattle.block_shifts.proofs.clear.Goals as goal

pub loop-i-init : goal.loop-i-init
loop-i-init c = search clear-start

pub loop-i-preserved : goal.loop-i-preserved
loop-i-preserved c = clear_next _ _ _ _ c.loop-i.invariant (omega arith) refl

pub returns : goal.returns
returns c = clear-done _ _ _ c.loop-i.invariant (omega arith)
