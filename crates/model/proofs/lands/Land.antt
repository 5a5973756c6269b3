-- A land, as the laws on its answers take it: what a land has, and what is to be shown of it. Assumes nothing.
use Prim.Native.Nat.{ℕ, ◌<◌}
use mathlib.Core.Bool.{Bool, true, ◌&&◌}
use mathlib.Core.List.{List}
use mathlib.Core.Option.{none}
use mathlib.Core.Path.{◌≡◌}
use Rattle.std.specs.Prelude.{Result}
use Rattle.units.specs.LowWater.{sound_low}
use Rattle.units.specs.Rules.{arena_check, good_arena}
use Rattle.units.specs.declared.Addr.{Addr}
use Rattle.units.specs.declared.Range as units
use Rattle.units.specs.declared.Size.{Size}
use Rattle.units.specs.declared.aims.Aim.{Aim}
use Rattle.units.specs.declared.rules.Arena as units-arena
use Rattle.units.specs.declared.refusals.Refusal.{Refusal}
use Rattle.units.specs.declared.rules.ArenaError.{ArenaError}
use Rattle.model.specs.Calls.{Call, Outcome}
use Rattle.model.specs.inner.Laws.{LandLaws}
use Rattle.model.specs.Lands.{LandLayout, land_call}
use Rattle.model.specs.Layouts.{reading, Done}
use Rattle.model.specs.inner.Lists.{Apart}
use Rattle.model.specs.Marks.{Range}
use Rattle.model.specs.inner.Looks.{look_of}
use Rattle.model.specs.inner.Picks.{here_of}
use Rattle.model.proofs.Aiming.{pick-by}
use Rattle.model.proofs.Checks.{arena-struct}

-- The rules of an arena, as the code has it.
abbrev pub check-of : units-arena.Arena → Result (Unit {0}) ArenaError
check-of a = arena_check a.base.0 a.limit.0 a.align.0

-- Handles H, what a look keeps S, the results of a call C and of a find F.
pub record Land (H S C F : Type 0) : Type 1 where
  pub layout : LandLayout H
  -- whether the memory is lent as it has to be, and the set-up
  pub lent : H → List ℕ → Bool
  pub set-up : H → List ℕ → Bool
  -- whether the list or table is sound with both counts, and with the mark and low water
  pub judged : H → List ℕ → Bool
  pub sound : H → List ℕ → Bool
  pub bytes : H → Size
  pub ranges : H → List ℕ → List Range
  -- the arena of a handle as the code has it
  pub arena-in : H → units-arena.Arena
  -- a look at what a call asks for, and what is looked for
  pub look : H → List ℕ → Aim → Result S Refusal
  pub aimed : H → Aim → Aim
  -- what an aim keeps of a list, and the range of it
  pub keep : Aim → List Range → S
  pub here : S → units.Range
  -- the results, from their fields
  pub change : H → ℕ → units.Range → C
  pub find-made : H → ℕ → units.Range → units.Range → F
  -- what every call gives
  pub does : Call → H → List ℕ → Done Outcome H (List ℕ)
  -- TO BE SHOWN
  pub is_call : (c : Call) (h : H) (ws : List ℕ) → does c h ws ≡ land_call layout c h ws
  pub laws : LandLaws layout
  pub set-up-is : (h : H) (ws : List ℕ) → set-up h ws ≡ good_arena (check-of (arena-in h)) && lent h ws
  pub sound-is : (h : H) (ws : List ℕ) → sound h ws ≡ judged h ws && sound_low (layout.noted h) (bytes h).0
  pub reads : (h : H) (ws : List ℕ) → layout.read h ws ≡ reading (set-up h ws) (sound h ws) (ranges h ws)
  pub arena-is : (h : H) (ws : List ℕ) → arena-in h ≡ arena-struct (layout.arena h ws)
  pub looks : (h : H) (ws : List ℕ) (aim : Aim) →
      look h ws aim ≡ look_of (set-up h ws) (sound h ws) (keep (aimed h aim) (ranges h ws))
  pub aims-from : (h : H) (x : Addr) → aimed h (Aim.From x) ≡ Aim.From x
  pub keeps : (aim : Aim) (lo hi : ℕ) (rs : List Range) → 0 < lo → Apart lo hi rs → here (keep aim rs) ≡ here_of (pick-by aim none rs)
  -- words that are read are those that close what is read
  pub words_back : (h : H) (ws : List ℕ) → set-up h ws ≡ true → sound h ws ≡ true → layout.words h ws (ranges h ws) ≡ ws
