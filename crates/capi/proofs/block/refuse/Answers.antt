-- `refuse` meets its contract. Assumes nothing.
use Rattle.block_land.proofs.Land.{block_land}
use Rattle.capi.proofs.GivenModes.{refused-mode}
use Rattle.capi.proofs.block.refuse.Goals as goal

pub returns : goal.returns
returns c = refused-mode block_land _ _ _ _ _ _ _ _ c.look.ensures c.refusal_after.ensures c.number.ensures c.none.ensures c.none-2.ensures
