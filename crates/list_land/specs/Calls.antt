-- What the calls of the list land equal. Assumes nothing.
use Rattle.std.specs.Prelude.{ℕ, cond, List}
use Rattle.units.specs.LowWater.{unset}
use Rattle.units.specs.Rules.{refusal_number}
use Rattle.units.specs.Words.{addr}
use Rattle.units.specs.declared.Mode.{Mode}
use Rattle.units.specs.declared.Range.{Range}
use Rattle.units.specs.declared.Which.{Which}
use Rattle.units.specs.declared.refusals.Refusal.{Refusal}
use Rattle.model.specs.Calls.{Call, Outcome, insert, delete, find, walk}
use Rattle.model.specs.Layouts.{Done}
use Rattle.model.specs.Lands.{land_call}
use Rattle.model.specs.Marks.{struct}
use Rattle.list_land.specs.Layout.{set_up, layout}
use Rattle.list_land.specs.declared.ListLand.{ListLand}
use Rattle.list_land.specs.declared.Opened.{Opened}
use Rattle.list_land.specs.declared.Changed.{Changed}
use Rattle.list_land.specs.declared.Found.{Found}

abbrev pub LandDone : Type 0
LandDone = Done Outcome ListLand (List ℕ)

-- What every call gives: the outcome, the next handle and the words.
unfoldable pub does : Call → ListLand → List ℕ → LandDone
does c h ws = land_call layout c h ws

-- Insert and delete of a range, a find, the walk.
abbrev pub inserted : ListLand → List ℕ → Range → LandDone
inserted h ws y = does (insert y.base.0 y.limit.0) h ws

abbrev pub deleted : ListLand → List ℕ → Range → LandDone
deleted h ws y = does (delete y.base.0 y.limit.0) h ws

abbrev pub found : ListLand → List ℕ → Which → ℕ → Mode → LandDone
found h ws w n mode = does (find w n mode) h ws

abbrev pub walked : ListLand → List ℕ → ℕ → LandDone
walked h ws x = does (walk x) h ws

-- What a call hands back of them.
abbrev pub changed : LandDone → Changed
changed d = record { land = d.handle; answer = d.out.answer; range = struct d.out.found }

abbrev pub found_of : LandDone → Found
found_of d = record { land = d.handle; answer = d.out.answer; range = struct d.out.found; old = struct d.out.old }

-- A new land has no ranges, and its mark is not set.
abbrev pub new_land : ℕ → ℕ → ℕ → ListLand
new_land b l a = record {
  base = addr b;
  limit = addr l;
  align = record { 0 = a };
  head = addr 0;
  ranges = 0;
  bytes = record { 0 = 0 };
  water = unset;
}

-- A handle that refuses to open has every field 0.
unfoldable pub opened_of : ℕ → ℕ → ℕ → List ℕ → Opened
opened_of b l a ws =
    cond (set_up (new_land b l a) ws)
    (record { land = new_land b l a; answer = 0 })
    (record { land = new_land 0 0 0; answer = refusal_number Refusal.SetUp })
