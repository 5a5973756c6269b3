-- Contracts of the inner functions that every call uses. Assumes nothing.
use Rattle.std.specs.Prelude.{ℕ, cond, List, Result, Ok, Err}
use Rattle.units.specs.Rules.{find_size}
use Rattle.units.specs.inner.Aims.{aim_of}
use Rattle.units.specs.Words.{range_of}
use Rattle.units.specs.declared.Range.{Range}
use Rattle.units.specs.declared.Size.{Size}
use Rattle.units.specs.declared.Which.{Which}
use Rattle.units.specs.declared.rules.Arena.{Arena}
use Rattle.units.specs.declared.aims.Aim.{Aim}
use Rattle.units.specs.declared.refusals.Refusal.{Refusal}
use Rattle.model.specs.inner.Looks as looks
use Rattle.list_words.specs.declared.Chain.{Chain}
use Rattle.list_words.specs.declared.Spot.{Spot}
use Rattle.list_words.specs.inner.Surveys.{kept_of}
use Rattle.list_land.specs.declared.Changed.{Changed}
use Rattle.list_land.specs.declared.Found.{Found}
use Rattle.list_land.specs.declared.ListLand.{ListLand}
use Rattle.list_land.specs.Layout.{align, set_up, walk_of, sound}

abbrev pub arena_in : ListLand → Arena
arena_in h = record { base = h.base; limit = h.limit; align = h.align }

abbrev pub chain_in : ListLand → Chain
chain_in h = record { head = h.head; ranges = h.ranges; bytes = h.bytes }

-- What a call looks for.
abbrev pub aim_in : ListLand → Aim → Aim
aim_in h aim = aim_of (arena_in h) aim

-- 5, then 6, then what the aim keeps of the list.
unfoldable pub look_of : ListLand → List ℕ → Aim → Result Spot Refusal
look_of h ws aim =
    cond (set_up h ws) (cond (sound h ws) (Ok (kept_of (aim_in h aim) (walk_of h ws).met)) (Err Refusal.Damaged)) (Err Refusal.SetUp)

-- A spot that an aim keeps of a sound list.
abbrev pub Looked : ListLand → List ℕ → Aim → Spot → Type 0
Looked h ws aim s = looks.Looked (set_up h ws) (sound h ws) (kept_of aim (walk_of h ws).met) s

abbrev pub reach_base : Range → Aim
reach_base y = Aim.Reach y.base

abbrev pub reach_limit : Range → Aim
reach_limit y = Aim.Reach y.limit

abbrev pub find_aim : ListLand → Which → Size → Aim
find_aim h w n = Aim.Find w (record { 0 = find_size (align h) n.0 })

-- A refusal: the handle given and ranges (0, 0).
abbrev pub refused_by : ListLand → ℕ → Changed
refused_by h n = record { land = h; answer = n; range = range_of 0 0 }

abbrev pub found_none : ListLand → ℕ → Found
found_none h n = record { land = h; answer = n; range = range_of 0 0; old = range_of 0 0 }
