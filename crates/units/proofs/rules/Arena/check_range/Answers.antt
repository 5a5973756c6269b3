-- `Arena::check_range` meets its contract: each way out is a case of the rule. Assumes nothing.
use Rattle.units.proofs.Ways.{range-ways}
use Rattle.units.proofs.rules.Arena.check_range.Goals as goal

pub returns-then-l-b : goal.returns-then-l-b
returns-then-l-b c = search range-ways

pub returns-then-b-n-ne0 : goal.returns-then-b-n-ne0
returns-then-b-n-ne0 c = search range-ways

pub returns-then-l-n-ne0 : goal.returns-then-l-n-ne0
returns-then-l-n-ne0 c = search range-ways

pub returns-then-b-self : goal.returns-then-b-self
returns-then-b-self c = search range-ways

pub returns-then-self-l : goal.returns-then-self-l
returns-then-self-l c = search range-ways

pub returns : goal.returns
returns c = search range-ways
