-- `Arena::check_size` meets its contract: each way out is a case of the rule. Assumes nothing.
use Rattle.units.proofs.Ways.{size-ways}
use Rattle.units.proofs.rules.Arena.check_size.Goals as goal

pub returns-then-size-eq0 : goal.returns-then-size-eq0
returns-then-size-eq0 c = search size-ways

pub returns : goal.returns
returns c = search size-ways
