-- `Align::bit` meets its contract: an alignment is its own lowest bit. Assumes nothing.
use native.Mathlib.Omega.{arith}
use Rattle.units.proofs.Alignments.{align-positive, lowest-bit}
use Rattle.units.proofs.Align.bit.Goals as goal

pub overflow_sub-result : goal.overflow_sub-result
overflow_sub-result c = align-positive _ c.requires

pub returns : goal.returns
returns c = let e = lowest-bit c.args.self.0 c.requires in omega arith
