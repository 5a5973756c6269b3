-- What a scan that aims at a range keeps of a list: contracts of inner functions. Assumes nothing.
use Rattle.std.specs.Prelude.{cond, List, [], ◌∷◌}
use Rattle.std.proofs.Math.Option.{Option, none, some}
use Rattle.units.specs.inner.Aims.{none_range, takes}
use Rattle.units.specs.declared.Range as units
use Rattle.units.specs.declared.aims.Aim.{Aim}
use Rattle.model.specs.Marks.{Range, struct}

-- What is kept of the ranges, where k is kept so far.
abbrev pub picked : Aim → units.Range → List Range → units.Range
picked aim k [] = k
picked aim k (r ∷ rs) = picked aim (cond (takes aim k (struct r)) (struct r) k) rs

-- A range that may be none, as a struct.
abbrev pub here_of : Option Range → units.Range
here_of none = none_range
here_of (some q) = struct q
