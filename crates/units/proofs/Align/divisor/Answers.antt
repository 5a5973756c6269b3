-- `Align::divisor` meets its contract: an alignment that is none of the first nine is the tenth. Assumes nothing.
use Rattle.units.proofs.Alignments.{align-last}
use Rattle.units.proofs.Align.divisor.Goals as goal

pub returns-in_default : goal.returns-in_default
returns-in_default c = search align-last
