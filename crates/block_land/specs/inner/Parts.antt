-- Contracts of the inner functions that every call uses. Assumes nothing.
use Rattle.std.specs.Prelude.{ℕ, true, cond, List, ◌≡◌, Result, Ok, Err}
use Rattle.units.specs.Rules.{find_size}
use Rattle.units.specs.Words.{range_of}
use Rattle.units.specs.declared.aims.Aim.{Aim}
use Rattle.units.specs.declared.Range.{Range}
use Rattle.units.specs.declared.Size.{Size}
use Rattle.units.specs.declared.Which.{Which}
use Rattle.units.specs.declared.refusals.Refusal.{Refusal}
use Rattle.units.specs.declared.rules.Arena.{Arena}
use Rattle.model.specs.inner.Looks as looks
use Rattle.block_words.specs.inner.Surveys.{entry_of}
use Rattle.block_words.specs.declared.Entry.{Entry}
use Rattle.block_land.specs.Layout.{align, set_up, sound, table_of}
use Rattle.block_land.specs.declared.Changed.{Changed}
use Rattle.block_land.specs.declared.Found.{Found}
use Rattle.block_land.specs.declared.BlockLand.{BlockLand}

abbrev pub arena_in : BlockLand → Arena
arena_in h = record { base = h.base; limit = h.limit; align = h.align }

-- 5, then 6, then what the aim keeps of the table.
unfoldable pub look_of : BlockLand → List ℕ → Aim → Result Entry Refusal
look_of h ws aim =
    cond (set_up h ws) (cond (sound h ws) (Ok (entry_of aim (table_of h ws))) (Err Refusal.Damaged)) (Err Refusal.SetUp)

-- A land whose table is sound.
pub record Readable (h : BlockLand) (ws : List ℕ) : Type 0 where
  pub good : set_up h ws ≡ true
  pub whole : sound h ws ≡ true

-- And the entry of it that an aim keeps.
abbrev pub Looked : BlockLand → List ℕ → Aim → Entry → Type 0
Looked h ws aim e = looks.Looked (set_up h ws) (sound h ws) (entry_of aim (table_of h ws)) e

abbrev pub find_aim : BlockLand → Which → Size → Aim
find_aim h w n = Aim.Find w (record { 0 = find_size (align h) n.0 })

abbrev pub reach_base : Range → Aim
reach_base y = Aim.Reach y.base

abbrev pub reach_limit : Range → Aim
reach_limit y = Aim.Reach y.limit

-- A refusal: the handle given and ranges (0, 0).
abbrev pub refused_by : BlockLand → ℕ → Changed
refused_by h n = record { land = h; answer = n; range = range_of 0 0 }

abbrev pub found_none : BlockLand → ℕ → Found
found_none h n = record { land = h; answer = n; range = range_of 0 0; old = range_of 0 0 }
