-- `refuse` meets its contract. Assumes nothing.
use Rattle.capi_pair.proofs.PairRefusing.{refused-mode}
use Rattle.capi_pair.proofs.refuse.Goals as goal

pub returns : goal.returns
returns c = refused-mode _ _ _ _ _ _ _ _ _ c.check.ensures c.refusal_after-refusal.ensures c.number.ensures c.none.ensures c.none-2.ensures
