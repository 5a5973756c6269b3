-- A mode from its number: the ways out, and those of a call that has it. Assumes nothing.
use Prim.Native.Nat.{ℕ}
use mathlib.Core.Bool.{Bool, true, false}
use mathlib.Core.List.{List, [], ◌∷◌}
use mathlib.Core.Path.{◌≡◌, refl, sym, ap, ◌∙◌}
use borrow.Author.Tests.{ne_eqb}
use Rattle.std.specs.Prelude.{Option, Some, None, Result}
use Rattle.units.specs.Rules.{refusal_number}
use Rattle.units.specs.Words.{range_of}
use Rattle.units.specs.declared.Mode.{Mode}
use Rattle.units.specs.declared.Range.{Range}
use Rattle.units.specs.declared.aims.Aim.{Aim}
use Rattle.units.specs.declared.refusals.Refusal.{Refusal}
use Rattle.units.proofs.Alignments.{Missed}
use Rattle.model.specs.Calls.{Outcome, refused}
use Rattle.model.specs.Layouts.{Done}
use Rattle.model.specs.inner.Looks.{look_of}
use Rattle.model.proofs.lands.Land.{Land}
use Rattle.capi.specs.Modes.{given_mode, unknown_mode, refusal_after, with_mode}

module _ (m : ℕ) where
  pub mode-none : m ≡ 0 → Some Mode.None ≡ given_mode m
  mode-none e = rw e

  pub mode-low : m ≡ 1 → Some Mode.Low ≡ given_mode m
  mode-low e = rw e

  pub mode-high : m ≡ 2 → Some Mode.High ≡ given_mode m
  mode-high e = rw e

  pub mode-entire : m ≡ 3 → Some Mode.Entire ≡ given_mode m
  mode-entire e = rw e

  pub mode-other : Missed (Unit {0}) m (0 ∷ 1 ∷ 2 ∷ 3 ∷ []) → None ≡ given_mode m
  mode-other h = rw (ne_eqb m 0 h.0.0.0.1, ne_eqb m 1 h.0.0.1, ne_eqb m 2 h.0.1, ne_eqb m 3 h.1)

pub ruleset mode-ways = (mode-none, mode-low, mode-high, mode-entire, mode-other)

-- what holds of the call with the mode, or of the refusal, holds of the call with the number
module _ {H W : Type 0} (call : Mode → Done Outcome H W) (n : ℕ) (h : H) (ws : W) (m : ℕ) (v : Option Mode) (e : v ≡ given_mode m) where
  pub with-known : (Met : Done Outcome H W → Type 0) (mode : Mode) → v ≡ Some mode → Met (call mode) → Met (with_mode call n h ws (given_mode m))
  with-known Met mode f met = let g : given_mode m ≡ Some mode = sym e ∙ f in rw g met

  pub with-unknown : (Met : Done Outcome H W → Type 0) → v ≡ None → Met (record { out = refused n; handle = h; words = ws }) → Met (with_mode call n h ws (given_mode m))
  with-unknown Met f met = let g : given_mode m ≡ None = sym e ∙ f in rw g met

-- of a land: what is shown of it, and its words
module _ {H W R : Type 0} (show : Done Outcome H W → R) (call : Mode → Done Outcome H W) (n : ℕ) (h : H) (ws : W) (m : ℕ) (v : Option Mode) (e : v ≡ given_mode m) where
  pub mode-known : (mode : Mode) → v ≡ Some mode → (r : R) (ws' : W) → (r ≡ show (call mode)) × (ws' ≡ (call mode).words) →
      (r ≡ show (with_mode call n h ws (given_mode m))) × (ws' ≡ (with_mode call n h ws (given_mode m)).words)
  mode-known mode f r ws' p = with-known call n h ws m v e (λ d. (r ≡ show d) × (ws' ≡ d.words)) mode f p

  pub mode-unknown : v ≡ None → (r : R) → r ≡ show (record { out = refused n; handle = h; words = ws }) →
      (r ≡ show (with_mode call n h ws (given_mode m))) × (ws ≡ (with_mode call n h ws (given_mode m)).words)
  mode-unknown f r p = with-unknown call n h ws m v e (λ d. (r ≡ show d) × (ws ≡ d.words)) f (p, refl)

-- a find of a land is refused for its mode with 5, 6 or 4
after_is : {S : Type 0} (g s : Bool) (k : S) → refusal_number (refusal_after (look_of g s k)) ≡ unknown_mode g s
after_is false s k = refl
after_is true false k = refl
after_is true true k = refl

pub refused-mode : {H S C F : Type 0} (I : Land H S C F) (h : H) (ws : List ℕ) (aim : Aim) (v : Result S Refusal) (x : Refusal) (n : ℕ) (r q : Range) →
    v ≡ I.look h ws aim → x ≡ refusal_after v → n ≡ refusal_number x → r ≡ range_of 0 0 → q ≡ range_of 0 0 →
    I.find-made h n r q ≡ I.find-made h (unknown_mode (I.set-up h ws) (I.sound h ws)) (range_of 0 0) (range_of 0 0)
refused-mode I h ws aim v x n r q e ex en g t =
    let p : n ≡ unknown_mode (I.set-up h ws) (I.sound h ws) =
    en
    ∙ ap refusal_number (ex ∙ ap refusal_after (e ∙ I.looks h ws aim))
    ∙ after_is (I.set-up h ws) (I.sound h ws) (I.keep (I.aimed h aim) (I.ranges h ws)) in
    rw (p, g, t)
