-- `describe` meets its contract. Assumes nothing.
use native.Mathlib.Omega.{arith}
use Rattle.script.proofs.Asking.{described-fault, described-sound}
use Rattle.script.proofs.turns.describe.Goals as goal

pub returns-then-met-gt2 : goal.returns-then-met-gt2
returns-then-met-gt2 c = described-fault _ _ _ c.walk-met.result c.walk-met.ensures.0 (omega arith) c.put_line.ensures

pub returns : goal.returns
returns c = described-sound _ _ _ c.walk-met.result c.walk-met.ensures.0 (omega arith) _ c.number.ensures c.put_line-2.ensures
