-- `refuse` meets its contract. Assumes nothing.
use Rattle.list_land.proofs.Land.{list_land}
use Rattle.capi.proofs.GivenModes.{refused-mode}
use Rattle.capi.proofs.list.refuse.Goals as goal

pub returns : goal.returns
returns c = refused-mode list_land _ _ _ _ _ _ _ _ c.look.ensures c.refusal_after.ensures c.number.ensures c.none.ensures c.none-2.ensures
