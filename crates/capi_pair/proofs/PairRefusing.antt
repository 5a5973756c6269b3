-- A find of the pair with its mode as a number: the ways out. Assumes nothing.
use Prim.Native.Nat.{ℕ}
use mathlib.Core.List.{List}
use mathlib.Core.Path.{◌≡◌, refl, ap, ◌∙◌}
use Rattle.units.proofs.Tests.{by}
use Rattle.std.specs.Prelude.{Option, Some, None, Result}
use Rattle.units.specs.Rules.{refusal_number}
use Rattle.units.specs.Words.{range_of}
use Rattle.units.specs.declared.refusals.Refusal.{Refusal}
use Rattle.list_words.specs.declared.Spot.{Spot}
use Rattle.block_words.specs.declared.Entry.{Entry}
use Rattle.units.specs.declared.Mode.{Mode}
use Rattle.units.specs.declared.Range.{Range}
use Rattle.units.specs.declared.Which.{Which}
use Rattle.units.specs.declared.aims.Aim.{Aim}
use Rattle.pair_model.specs.Pairs.{both}
use Rattle.pair.specs.Calls.{lands, PairDone, found, found_of, set_up, sound}
use Rattle.pair.specs.inner.Parts.{check_of, found_none}
use Rattle.pair.specs.declared.Found.{Found}
use Rattle.pair.specs.declared.Pair.{Pair}
use Rattle.capi.specs.Modes.{given_mode, unknown_mode, refusal_after}
use Rattle.capi.proofs.GivenModes.{with-known, with-unknown}
use Rattle.capi_pair.specs.PairFinds.{found_by}

module _ (p : Pair) (ws vs : List ℕ) where
  answer-is : (aim : Aim) → refusal_number (refusal_after (check_of p ws vs aim)) ≡ unknown_mode (set_up p ws vs) (sound p ws vs)
  unfolding check_of
  answer-is aim = by (set_up p ws vs) (λ g. by (sound p ws vs) (λ s. rw (g, s)) (λ s. rw (g, s))) (λ g. rw g)

  pub refused-mode : (aim : Aim) (v : Result (Spot × Entry) Refusal) (x : Refusal) (n : ℕ) (r q : Range) → v ≡ check_of p ws vs aim → x ≡ refusal_after v → n ≡ refusal_number x → r ≡ range_of 0 0 → q ≡ range_of 0 0 →
      record { pair = p; answer = n; range = r; old = q } ≡ found_none p (unknown_mode (set_up p ws vs) (sound p ws vs))
  refused-mode aim v x n r q e ex f g k =
      let a : n ≡ unknown_mode (set_up p ws vs) (sound p ws vs) = f ∙ ap refusal_number (ex ∙ ap refusal_after e) ∙ answer-is aim in
      rw (a, g, k)

  module _ (w : Which) (n m : ℕ) (v : Option Mode) (e : v ≡ given_mode m) where
    -- what a find hands back: its result, and the words of both memories
    abbrev Hands : Found → List ℕ → List ℕ → PairDone → Type 0
    Hands r ws' vs' d = (r ≡ found_of d) × (ws' ≡ d.words.list) × (vs' ≡ d.words.block)

    abbrev refusal : ℕ
    refusal = unknown_mode (set_up p ws vs) (sound p ws vs)

    pub found-known : (mode : Mode) → v ≡ Some mode → (r : Found) (ws' vs' : List ℕ) → Hands r ws' vs' (found p ws vs w n mode) → Hands r ws' vs' (found_by p ws vs w n m)
    found-known mode f r ws' vs' = with-known (found p ws vs w n) refusal (lands p) (both ws vs) m v e (Hands r ws' vs') mode f

    pub found-unknown : v ≡ None → (r : Found) → r ≡ found_none p refusal → Hands r ws vs (found_by p ws vs w n m)
    found-unknown f r h = with-unknown (found p ws vs w n) refusal (lands p) (both ws vs) m v e (Hands r ws vs) f (h, refl, refl)
