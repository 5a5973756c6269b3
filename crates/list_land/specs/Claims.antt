-- What is claimed of the list land: that every call is right, demand 3 of document 01, which words the host may write, and low water. Assumes nothing.
use Rattle.std.specs.Prelude.{ℕ, ◌+◌, ◌*◌, Bool, true, List, ◌≡◌, length, get_or}
use Rattle.std.proofs.Math.Option.{none}
use Rattle.units.specs.LowWater.{unset}
use Rattle.model.specs.Marks.{Range, none_marked, marks_of}
use Rattle.model.specs.Answers.{LandRight}
use Rattle.model.specs.Layouts.{with_host}
use Rattle.model.specs.Lands.{ranges_in, LandLayout}
use Rattle.model.specs.Demand.{ClaimsFrom}
use Rattle.model.specs.LowWater.{LowOverClosings}
use Rattle.list_land.specs.Layout.{base, set_up, walk_of, sound, read_of, layout}
use Rattle.list_land.specs.Calls.{opened_of}
use Rattle.list_land.specs.declared.ListLand.{ListLand}

abbrev pub ListRight : Type 0
ListRight = LandRight layout set_up sound (λ h ws. (walk_of h ws).met)

-- From the handle of an accepted opening, arena words of any value, nothing marked and no low water.
abbrev pub Demand3For : LandLayout ListLand → Type 0
Demand3For R =
    (b l a : ℕ) (ws : List ℕ) → (opened_of b l a ws).answer ≡ 0 →
    ClaimsFrom R (opened_of b l a ws).land ws (record { base = b; limit = l; align = a; room = none }) none_marked unset

-- The host may write every word but those of the present descriptors.
abbrev pub ListDemand3 : Type 0
ListDemand3 = Demand3For layout

-- The word number i is free: its first byte is in a range of the set.
abbrev pub free_word : ListLand → List Range → ℕ → Bool
free_word h rs i = marks_of rs (base h + 8 * i)

-- Document 01's own host writes words that are not free: every free word stays the same.
abbrev pub free_kept : ListLand → List ℕ → List ℕ → Type 0
free_kept h ws ws' =
    (length ws' ≡ length ws) × ((i : ℕ) → free_word h (ranges_in (read_of h ws)) i ≡ true → get_or ws' i 0 ≡ get_or ws i 0)

abbrev pub OwnDemand3 : Type 0
OwnDemand3 = Demand3For (with_host layout free_kept)

-- Low water over accepted calls of any kind, one after the other: the land's own, flushes, those of a pair.
abbrev pub ListLow : Type 0
ListLow = LowOverClosings layout
