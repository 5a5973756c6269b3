-- `choose_side` meets its contract: by the ranges that there are. Assumes nothing.
use Rattle.pair.proofs.Sides.{sides}
use Rattle.pair.proofs.find.choose_side.Goals as goal

pub returns-then-is_zero-2 : goal.returns-then-is_zero-2
returns-then-is_zero-2 c = search sides

pub returns-then-is_zero : goal.returns-then-is_zero
returns-then-is_zero c = search sides

pub returns-then-is_zero-3 : goal.returns-then-is_zero-3
returns-then-is_zero-3 c = search sides

pub returns-then-list_first : goal.returns-then-list_first
returns-then-list_first c = search sides

pub returns-else-list_first : goal.returns-else-list_first
returns-else-list_first c = search sides
