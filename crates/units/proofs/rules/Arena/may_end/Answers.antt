-- `Arena::may_end` meets its contract: where a range of a list may end. Assumes nothing.
use Rattle.units.proofs.Ways.{end-ways}
use Rattle.units.proofs.rules.Arena.may_end.Goals as goal

pub returns-then-e-self-ne0 : goal.returns-then-e-self-ne0
returns-then-e-self-ne0 c = search end-ways

pub returns : goal.returns
returns c = search end-ways
