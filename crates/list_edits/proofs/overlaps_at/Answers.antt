-- `overlaps_at` meets its contract: none that reaches the base, or the place of the range. Assumes nothing.
use Rattle.list_edits.proofs.EditWays.{put-placing, at_none, at_place}
use Rattle.list_edits.proofs.overlaps_at.Goals as goal

pub returns-then-is_zero : goal.returns-then-is_zero
returns-then-is_zero c = search at_none

pub place-requires : goal.place-requires
place-requires c = search put-placing

pub returns : goal.returns
returns c = search at_place
