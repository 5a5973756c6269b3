-- The worked example of K10 holds: by computing on ranges, and then of the reference model. Assumes nothing.
use mathlib.Core.Path.{◌≡◌, refl, sym, subst}
use mathlib.Core.List.{[]}
use native.Mathlib.Omega.{arith}
use Rattle.units.specs.Rules.{good_align, range_check}
use Rattle.units.specs.LowWater.{unset}
use Rattle.model.specs.Lands.{land_answers}
use Rattle.model.proofs.Playing.{expected-same}
use Rattle.pair_model.specs.Pairs.{both}
use Rattle.pair_model.specs.PairLayouts.{PairFine, pair_up, pair_rules, pair_reference_rules}
use Rattle.pair_model.specs.PairCases.{small}
use Rattle.pair_model.specs.LowCase.{four, by_rules, by_reference, Lows, LowCase}
use Rattle.pair_model.proofs.PairAlike.{pair-alike}

on-ranges : Lows by_rules
unfolding good_align range_check
on-ranges = (refl, refl)

none : PairFine small (both [] [])
none = record {
  list_fine = record { order = omega arith; canon = record { apart = tt; aligned = tt }; room = refl };
  block_fine = record { order = omega arith; canon = record { apart = tt; aligned = tt }; room = refl };
  disjoint = λ x e. refl;
}

same : by_reference ≡ by_rules
same = expected-same PairFine land_answers pair_rules pair_reference_rules pair_up pair-alike small four (both [] []) (both unset unset) none

pub low-case : LowCase
low-case = (on-ranges, subst Lows (sym same) on-ranges)
