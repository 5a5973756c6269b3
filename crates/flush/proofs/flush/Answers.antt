-- `flush` meets its contract: the refusal, and the flush. Assumes nothing.
use Rattle.flush.proofs.FlushAnswers.{refused}
use Rattle.flush.proofs.flush.Goals as goal

pub returns-in-Err : goal.returns-in-Err
returns-in-Err c = refused _ _ _ _ _ c.check.ensures _ c.in-Err.is _ c.refused.ensures
