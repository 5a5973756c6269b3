-- A worked example of K10: low water of each land of a pair, read after each accepted call and not after the flush inside one. Assumes nothing.
use Rattle.std.specs.Prelude.{◌≡◌, List, [], ◌∷◌, ℕ}
use Rattle.units.specs.LowWater.{unset}
use Rattle.model.specs.Calls.{Outcome}
use Rattle.model.specs.Histories.{Seen, expected}
use Rattle.model.specs.Lands.{Shown, land_answers}
use Rattle.pair_model.specs.Pairs.{Both, both, PairCall, insert, delete}
use Rattle.pair_model.specs.PairLayouts.{pair_up, pair_rules, pair_reference_rules}
use Rattle.pair_model.specs.PairCases.{small}

-- A land's low water after each call.
abbrev pub lows : (Both Shown Shown → Shown) → List (Seen Outcome (Both Shown Shown)) → List ℕ
lows land [] = []
lows land (o ∷ os) = (land o.shown).low ∷ lows land os

-- From two openings, capacity 1. The last call flushes the list empty for a moment, and then puts 16 bytes into it.
abbrev pub four : List PairCall
four = insert 4096 4104 ∷ insert 4112 4128 ∷ delete 4096 4104 ∷ insert 4136 4152 ∷ []

-- By the rules on ranges, and by the reference model on marks.
abbrev pub by_rules : List (Seen Outcome (Both Shown Shown))
by_rules = expected land_answers pair_rules small four (both [] []) (both unset unset)

abbrev pub by_reference : List (Seen Outcome (Both Shown Shown))
by_reference = expected land_answers pair_reference_rules small four (pair_up (both [] [])) (both unset unset)

abbrev pub Lows : List (Seen Outcome (Both Shown Shown)) → Type 0
Lows os = (lows (λ v. v.list) os ≡ 0 ∷ 16 ∷ 16 ∷ 16 ∷ []) × (lows (λ v. v.block) os ≡ 8 ∷ 8 ∷ 0 ∷ 0 ∷ [])

abbrev pub LowCase : Type 0
LowCase = Lows by_rules × Lows by_reference
