-- The ways out of the inner functions that every land has: a refusal, the set-up, the look; and that every call is right. Assumes nothing.
use Prim.Native.Nat.{ℕ, ◌≤◌, ◌<◌}
use mathlib.Core.Bool.{true, false, cond, and-true, and-false}
use mathlib.Core.List.{List}
use mathlib.Core.Path.{◌≡◌, sym, ap, ◌∙◌}
use Rattle.std.specs.Prelude.{Result, Ok, Err}
use Rattle.units.specs.Rules.{good_align, good_arena}
use Rattle.units.specs.Words.{range_of}
use Rattle.units.specs.LowWater.{sound_low}
use Rattle.units.specs.inner.Parts.{Checked, set_up_of, soundness_of}
use Rattle.units.specs.declared.Range as units
use Rattle.units.specs.declared.aims.Aim.{Aim}
use Rattle.units.specs.declared.rules.Arena.{Arena}
use Rattle.units.specs.declared.rules.ArenaError.{ArenaError}
use Rattle.units.specs.declared.refusals.Refusal.{Refusal}
use Rattle.units.proofs.Alignments.{align-positive}
use Rattle.units.proofs.Cases.{good-case, bad-arena, set-up-true, set-up-err, sound-true, sound-false, sound-err}
use Rattle.units.proofs.Facts.{GoodArena, arena-facts}
use Rattle.units.proofs.Tests.{and_left}
use Rattle.model.specs.Answers.{LandRight}
use Rattle.model.proofs.Calling.{read-rows, call-right}
use Rattle.model.proofs.lands.Land.{Land, check-of}

module _ {H S C F : Type 0} (X : Land H S C F) where
  -- A REFUSAL
  pub refused-made : (h : H) (n : ℕ) (r : units.Range) → r ≡ range_of 0 0 → X.change h n r ≡ X.change h n (range_of 0 0)
  refused-made h n r e = rw e

  pub none_made : (h : H) (n : ℕ) (r o : units.Range) → r ≡ range_of 0 0 → o ≡ range_of 0 0 → X.find-made h n r o ≡ X.find-made h n (range_of 0 0) (range_of 0 0)
  none_made h n r o e f = rw (e, f)

  -- THE SET-UP
  -- what a good one says of the numbers
  pub good-facts : (h : H) (ws : List ℕ) → X.set-up h ws ≡ true → GoodArena (X.arena-in h).base.0 (X.arena-in h).limit.0 (X.arena-in h).align.0
  good-facts h ws e = arena-facts _ _ _ (good-case (check-of (X.arena-in h)) (and_left _ _ (sym (X.set-up-is h ws) ∙ e)))

  -- no range of the land begins at 0
  pub above : (h : H) (ws : List ℕ) → X.set-up h ws ≡ true → 0 < (X.layout.arena h ws).base
  above h ws e = rw (X.arena-is h ws) at (good-facts h ws e).above

  module _ (h : H) (ws : List ℕ) (a : Arena) (ea : a ≡ X.arena-in h) (x : Result (Unit {0}) ArenaError) (e : x ≡ check-of a) where
    here : x ≡ check-of (X.arena-in h)
    here = e ∙ ap check-of ea

    pub set-up-bad : (x ≡ Ok tt → ⊥) → Err Refusal.SetUp ≡ set_up_of (X.set-up h ws)
    set-up-bad t = let g : good_arena (check-of (X.arena-in h)) ≡ false = rw here at (bad-arena x t) in rw (X.set-up-is h ws, g)

    module _ (g : x ≡ Ok tt) where
      pub set-up-order : (X.arena-in h).base.0 ≤ (X.arena-in h).limit.0
      set-up-order = (arena-facts _ _ _ (sym here ∙ g)).order

      pub set-up-lent : (t : Checked) → t ≡ set_up_of (X.lent h ws) → t ≡ set_up_of (X.set-up h ws)
      set-up-lent t et = let f : check-of (X.arena-in h) ≡ Ok tt = sym here ∙ g in rw (X.set-up-is h ws, f) et

  module _ (h : H) (ws : List ℕ) (r : Checked) (e : r ≡ set_up_of (X.set-up h ws)) (f : r ≡ Ok tt) where
    pub good-align : good_align (X.arena-in h).align.0 ≡ true
    good-align = (good-facts h ws (set-up-true (X.set-up h ws) r e f)).align

    pub good-positive : (a : Arena) → a ≡ X.arena-in h → 0 < a.align.0
    good-positive a ea = rw ea (align-positive (X.arena-in h).align.0 good-align)

  -- THE LOOK
  pub look-bad : (h : H) (ws : List ℕ) (aim : Aim) (r : Checked) (x : Refusal) → r ≡ set_up_of (X.set-up h ws) → r ≡ Err x → Err x ≡ X.look h ws aim
  look-bad h ws aim r x e f = rw (X.looks h ws aim, (set-up-err (X.set-up h ws) x (sym f ∙ e)).0, (set-up-err (X.set-up h ws) x (sym f ∙ e)).1)

  -- low water judged: where it is bad the land is not sound, else soundness is what is judged of the memory and the counts
  module _ (h : H) (z : Checked) (ez : z ≡ soundness_of (sound_low (X.layout.noted h) (X.bytes h).0)) where
    pub low-damaged : z ≡ Err Refusal.Damaged → (ws : List ℕ) → X.sound h ws ≡ false
    low-damaged g ws = rw (X.sound-is h ws, sound-false (sound_low (X.layout.noted h) (X.bytes h).0) z ez g, and-false (X.judged h ws))

    pub low-sound : z ≡ Ok tt → (ws : List ℕ) → X.sound h ws ≡ X.judged h ws
    low-sound g ws = rw (X.sound-is h ws, sound-true (sound_low (X.layout.noted h) (X.bytes h).0) z ez g, and-true (X.judged h ws))

    module _ (ws : List ℕ) (aim : Aim) (r : Checked) (e : r ≡ set_up_of (X.set-up h ws)) (f : r ≡ Ok tt) where
      pub look-low : (x : Refusal) → z ≡ Err x → Err x ≡ X.look h ws aim
      look-low x g =
          let p = sound-err (sound_low (X.layout.noted h) (X.bytes h).0) x (sym g ∙ ez) in
          rw (X.looks h ws aim, set-up-true (X.set-up h ws) r e f, low-damaged (rw p.1 at g) ws, p.1)

      -- what a survey answers
      pub look-told : z ≡ Ok tt → (v : Result S Refusal) →
          v ≡ cond (X.judged h ws) (Ok (X.keep (X.aimed h aim) (X.ranges h ws))) (Err Refusal.Damaged) → v ≡ X.look h ws aim
      look-told g v ev = rw (ev, X.looks h ws aim, set-up-true (X.set-up h ws) r e f, low-sound g ws)

  -- EVERY CALL
  pub land-right : LandRight X.layout X.set-up X.sound X.ranges
  land-right = record {
    reads = λ h ws. rw (X.reads h ws) (read-rows (X.set-up h ws) (X.sound h ws) (X.ranges h ws));
    calls = call-right X.layout X.laws;
  }
