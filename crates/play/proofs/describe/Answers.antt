use Rattle.std.proofs.Common.{rules}
use Rattle.play.proofs.Parts.{told-less}
use Rattle.play.proofs.Printing.{prints-then, told-prints}
use Rattle.play.proofs.describe.Goals as goal

pub loop-out-smaller : goal.loop-out-smaller
loop-out-smaller g c = told-less c.loop-out.script _ _ _ (search rules) (search rules) c.describe-fed.ensures.value

pub loop-out-preserved : goal.loop-out-preserved
loop-out-preserved g c =
    let told = c.describe-fed.ensures in
    (search rules, prints-then _ _ _ _ _ _ _ _ _ _ _ _ c.loop-out.invariant.1 (told-prints _ _ _ _ _ _ _ told.value told.out_after c.in_ok-put_out.ensures))
