-- `spot_left` meets its contract: none is left, the first that is left reaches the address, or the spot stays. Assumes nothing.
use Rattle.pair_words.proofs.Leaving.{lefts}
use Rattle.pair_words.proofs.spot_left.Goals as goal

pub returns-then-is_zero : goal.returns-then-is_zero
returns-then-is_zero c = search lefts

pub descriptor_at-first-requires : goal.descriptor_at-first-requires
descriptor_at-first-requires c = search lefts

pub returns-then-le : goal.returns-then-le
returns-then-le c = search lefts

pub returns : goal.returns
returns c = search lefts
