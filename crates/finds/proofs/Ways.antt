-- The ways out of the functions that give a part. Assumes nothing.
use Prim.Native.Nat.{◌+◌, ◌-◌}
use mathlib.Core.Path.{◌≡◌, ap, ◌∙◌}
use Rattle.units.specs.Words.{range_of}
use Rattle.units.specs.declared.Addr.{Addr}
use Rattle.units.specs.declared.Mode.{Mode}
use Rattle.units.specs.declared.Range.{Range}
use Rattle.units.specs.declared.Size.{Size}
use Rattle.units.specs.declared.Which.{Which}
use Rattle.model.specs.Marks.{struct}
use Rattle.model.specs.inner.Lists.{plain}
use Rattle.model.specs.inner.Steps.{end_part, part}

module _ (mode : Mode) (n : Size) (here : Range) where
  pub end_none : mode ≡ Mode.None → here ≡ struct (end_part mode n.0 (plain here))
  end_none m = rw m

  pub end_low : (w : Range) (e : Addr) → mode ≡ Mode.Low → e.0 ≡ here.base.0 + n.0 → w ≡ range_of here.base.0 e.0 →
      w ≡ struct (end_part mode n.0 (plain here))
  end_low w e m f g = rw m (g ∙ ap (range_of here.base.0) f)

  pub end-high : (w : Range) (e : Addr) → mode ≡ Mode.High → e.0 ≡ here.limit.0 - n.0 → w ≡ range_of e.0 here.limit.0 →
      w ≡ struct (end_part mode n.0 (plain here))
  end-high w e m f g = rw m (g ∙ ap (λ (x : _). range_of x here.limit.0) f)

  pub end-entire : mode ≡ Mode.Entire → here ≡ struct (end_part mode n.0 (plain here))
  end-entire m = rw m

pub ruleset end-ways = (end_none, end_low, end-high, end-entire)

module _ (w : Which) (mode : Mode) (n : Size) (here : Range) where
  pub part-first : (r : Range) → w ≡ Which.First → r ≡ struct (end_part mode n.0 (plain here)) → r ≡ struct (part w mode n.0 (plain here))
  part-first r e f = rw e f

  pub part-last : (r : Range) → w ≡ Which.Last → r ≡ struct (end_part mode n.0 (plain here)) → r ≡ struct (part w mode n.0 (plain here))
  part-last r e f = rw e f

  pub part-largest : w ≡ Which.Largest → here ≡ struct (part w mode n.0 (plain here))
  part-largest e = rw e

pub ruleset part-ways = (part-first, part-last, part-largest)
