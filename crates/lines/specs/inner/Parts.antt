-- What fields of a form make: contracts of the forms' parts. Assumes nothing.
use Rattle.std.specs.Prelude.{ℕ, Option, Some, None}
use Rattle.units.specs.Words.{range_of}
use Rattle.units.specs.declared.Range.{Range}
use Rattle.lines.specs.declared.Field.{Field}

-- A range of two numbers.
abbrev pub bounds_of : Option ℕ → Option ℕ → Option Range
bounds_of None l = None
bounds_of (Some b) None = None
bounds_of (Some b) (Some l) = Some (range_of b l)
