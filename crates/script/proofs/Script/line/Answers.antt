-- `line` meets its contract. Assumes nothing.
use mathlib.Core.Bool.{false, true}
use native.Mathlib.Omega.{arith}
use Rattle.script.proofs.Going.{line-part, line-turn}
use Rattle.script.proofs.Script.line.Goals as goal

pub returns-then-read-bytes-clause-goes : goal.returns-then-read-bytes-clause-goes
returns-then-read-bytes-clause-goes c = line-part c.args.self _ _ _ _ c.read-read.ensures _ _ false (omega arith)

pub returns-then-is_ready-clause-goes : goal.returns-then-is_ready-clause-goes
returns-then-is_ready-clause-goes c =
    line-turn c.args.self _ _ _ _ c.read-read.ensures _ c.args.at _ c.is_ready.ensures c.if-is_ready.true c.if-read-bytes.false _ c.request.ensures _ _ _
    (record { says = c.play-turn.ensures.says; words = c.play-turn.ensures.words }) _ c.new.ensures

pub returns-clause-goes : goal.returns-clause-goes
returns-clause-goes c = line-part c.args.self _ _ _ _ c.read-read.ensures _ _ true (omega arith)
