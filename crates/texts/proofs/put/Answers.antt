-- `put` meets its contract: each turn of the loop writes one digit. Assumes nothing.
use mathlib.Core.Path.{refl}
use native.Mathlib.Omega.{arith}
use Rattle.texts.proofs.Decimal.{decimal-most}
use Rattle.texts.proofs.Putting.{put-start, put_next, put-done}
use Rattle.texts.proofs.put.Goals as goal

pub overflow_add-next : goal.overflow_add-next
overflow_add-next c = omega (arith, decimal-most c.args.n)

pub loop-rest-init : goal.loop-rest-init
loop-rest-init c = put-start _ _ _ _ (omega arith) (omega arith) (omega arith)

pub loop-rest-preserved : goal.loop-rest-preserved
loop-rest-preserved c = put_next _ _ _ _ _ _ _ c.loop-rest.invariant (omega arith) c.glyph.result _ _ _ (omega arith) (omega arith) (omega arith) refl

pub returns : goal.returns
returns c = put-done _ _ _ _ _ _ _ c.loop-rest.invariant (omega arith) c.glyph-2.result _ _ _ (omega arith) (omega arith) refl
