-- What a range must be for a part of it to be taken. Assumes nothing.
use Rattle.std.specs.Prelude.{◌+◌, ◌≤◌}
use Rattle.units.specs.declared.Range.{Range}
use Rattle.units.specs.declared.Size.{Size}

-- The range is as long as the size.
pub record Within (n : Size) (r : Range) : Type 0 where
  pub long : r.base.0 + n.0 ≤ r.limit.0
