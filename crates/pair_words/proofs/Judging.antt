-- The walk beside a table that only judges, and the ways out of `survey`. Assumes nothing.
use Prim.Native.Nat.{ℕ, ◌+◌, ◌-◌, ◌<◌}
use mathlib.Core.Bool.{Bool, true, false, not, and-false, and-true}
use mathlib.Core.List.{List}
use mathlib.Core.Path.{◌≡◌, sym, ap, ◌∙◌}
use lib.Dec.{eqb}
use lib.ListN.{length}
use Rattle.std.specs.Prelude.{Option, Some, None, Result, Ok, Err}
use Rattle.units.specs.inner.Aims.{keeps_first}
use Rattle.units.specs.inner.Parts.{Checked, soundness_of}
use Rattle.units.specs.Words.{range_of}
use Rattle.units.specs.declared.Range as units
use Rattle.units.specs.declared.aims.Aim.{Aim}
use Rattle.units.specs.declared.rules.Arena.{Arena}
use Rattle.units.specs.declared.refusals.Refusal.{Refusal}
use Rattle.units.proofs.Cases.{sound-true, sound-err}
use Rattle.units.proofs.Tests.{by, and_left}
use Rattle.units.proofs.Ways.{said-true}
use Rattle.list_words.specs.Words.{Walk, clean, range_at, sound_walk}
use Rattle.list_words.specs.inner.Seeks.{Come}
use Rattle.list_words.specs.inner.Surveys.{Ready, walk_of, onward, counts_of, Near, Along, kept_of}
use Rattle.list_words.specs.declared.Chain.{Chain}
use Rattle.list_words.specs.declared.Descriptor.{Descriptor}
use Rattle.list_words.specs.declared.Fault.{Fault}
use Rattle.list_words.specs.declared.Spot.{Spot}
use Rattle.list_words.specs.declared.cursor.Cursor.{Cursor}
use Rattle.list_words.proofs.Going.{sound-not, sound-counts, along-broken, along-near, along-next, along-less, along-done}
use Rattle.list_words.proofs.Surveying.{sound-clean}
use Rattle.block_words.specs.Words.{pairs}
use Rattle.block_words.specs.inner.Tallies.{behind}
use Rattle.pair_model.specs.PairLayouts.{meet}
use Rattle.pair_words.specs.inner.Besides.{beside_of, Abreast, SeeksBeside, sound_beside, survey_beside}
use Rattle.pair_words.proofs.Abreast.{abreast-done, abreast-overlaps, abreast-next}

-- damage: the list is not sound, or overlaps the table if it ends well
module _ (a : Arena) (ws : List ℕ) (h : Chain) (vs : List ℕ) (n : ℕ) where
  abbrev whole : Walk
  whole = walk_of a ws h.head.0

  abbrev overlap : Bool
  overlap = meet whole.met (pairs vs n)

  abbrev is_sound : Bool
  is_sound = sound_walk whole h.ranges h.bytes.0

  abbrev both : Bool
  both = sound_beside a ws h vs n

  pub unsound : is_sound ≡ false → both ≡ false
  unsound e = rw e

  pub broken : (whole.end ≡ clean → ⊥) → both ≡ false
  broken f = unsound (sound-not whole h.ranges h.bytes.0 f)

  pub overlapping : (whole.end ≡ clean → overlap ≡ true) → both ≡ false
  overlapping f =
      by is_sound
      (λ t. rw (f (sound-clean whole h.ranges h.bytes.0 t), and-false is_sound))
      (λ t. unsound t)

  pub apart : overlap ≡ false → is_sound ≡ both
  apart e = rw (e, and-true is_sound)

  pub damaged : (aim : Aim) → both ≡ false → Err Refusal.Damaged ≡ survey_beside a ws h vs n aim
  unfolding survey_beside
  damaged aim e = rw e

  pub undamaged : (aim : Aim) → both ≡ true → (s : Spot) → (whole.end ≡ clean → s ≡ kept_of aim whole.met) → Ok s ≡ survey_beside a ws h vs n aim
  unfolding survey_beside
  undamaged aim e s f =
      rw e (ap (λ (v : Spot). Ok v) (f (sound-clean whole h.ranges h.bytes.0 (and_left is_sound (not overlap) e))))

-- the loop of `sound_on`
pub record Walking (a : Arena) (ws : List ℕ) (head : ℕ) (vs : List ℕ) (n : ℕ) (c : Cursor) (i : ℕ) : Type 0 where
  pub along : Along a ws head c
  pub abreast : Abreast a ws head vs n c i

pub on-start : (a : Arena) (ws : List ℕ) (head : ℕ) (vs : List ℕ) (n : ℕ) (c : Cursor) (i : ℕ) → Along a ws head c → Abreast a ws head vs n c i →
    Walking a ws head vs n c i
on-start a ws head vs n c i l s = record { along = l; abreast = s }

module _ (a : Arena) (ws : List ℕ) (ready : Ready a (length ws)) (h : Chain) (vs : List ℕ) (n : ℕ) (c : Cursor) (i : ℕ)
    (s : Walking a ws h.head.0 vs n c i) (z : Bool) (ez : z ≡ eqb c.at.0 0) where
  pub on-done : not z ≡ false → (t : Checked) → t ≡ soundness_of (counts_of c h) → t ≡ soundness_of (sound_beside a ws h vs n)
  on-done f t et =
      let d = along-done a ws ready h.head.0 c s.along z ez f in
      let o = abreast-done a ws ready vs n h.head.0 c i s.along s.abreast z ez f in
      et ∙ ap soundness_of (sound-counts a ws h c d ∙ apart a ws h vs n o)

  module _ (f : not z ≡ true) (m : Result Descriptor Fault) (em : m ≡ range_at a.base.0 a.limit.0 a.align.0 ws c.low.0 c.at.0) where
    pub on-broken : (x : Fault) → m ≡ Err x → Err Refusal.Damaged ≡ soundness_of (sound_beside a ws h vs n)
    on-broken x g = ap soundness_of (sym (broken a ws h vs n (along-broken a ws ready h.head.0 c s.along z ez f m em x g)))

    module _ (d : Descriptor) (fm : m ≡ Ok d) where
      pub on-near : Near c d.limit.0
      on-near = along-near a ws ready h.head.0 c s.along z ez f m em d fm

      pub on-less : (c' : Cursor) → c' ≡ onward c d.limit.0 d.next → a.limit.0 + 1 - c'.low.0 < a.limit.0 + 1 - c.low.0
      on-less c' ec = along-less a ws ready h.head.0 c s.along z ez f m em d fm c' ec

      module _ (y : units.Range) (ey : y ≡ range_of c.at.0 d.limit.0) (b : Option ℕ) (eb : b ≡ beside_of y i (behind vs n i)) where
        pub on-overlaps : b ≡ None → Err Refusal.Damaged ≡ soundness_of (sound_beside a ws h vs n)
        on-overlaps g =
            ap soundness_of (sym (overlapping a ws h vs n
            (abreast-overlaps a ws ready vs n h.head.0 c i s.along s.abreast z ez f m em d fm y ey b eb g)))

        pub on-next : (j : ℕ) → b ≡ Some j → (c' : Cursor) → c' ≡ onward c d.limit.0 d.next → Walking a ws h.head.0 vs n c' j
        on-next j g c' ec =
            record {
              along = along-next a ws ready h.head.0 c s.along z ez f m em d fm c' ec;
              abreast = abreast-next a ws ready vs n h.head.0 c i s.along s.abreast z ez f m em d fm y ey b eb j g c' ec;
            }

pub ruleset judges = (on-start, on-done, on-broken, on-near, on-less, on-overlaps, on-next)

-- the ways out of `survey`
pub survey-stays : (aim : Aim) (r : Bool) → r ≡ keeps_first aim → not r ≡ false → keeps_first aim ≡ true
survey-stays aim r er f = said-true r (keeps_first aim) er f

module _ (a : Arena) (ws : List ℕ) (h : Chain) (vs : List ℕ) (n : ℕ) (aim : Aim) (q : Result (Spot × Cursor × ℕ) Refusal) (i : SeeksBeside a ws h.head.0 vs n (kept_of aim) q) where
  pub survey-broken : (x : Refusal) → q ≡ Err x → Err x ≡ survey_beside a ws h vs n aim
  survey-broken x e =
      let k : SeeksBeside a ws h.head.0 vs n (kept_of aim) (Err x) = rw e at i in
      rw k.0 (damaged a ws h vs n aim (overlapping a ws h vs n k.1))

  module _ (s : Spot) (c : Cursor) (j : ℕ) (e : q ≡ Ok (s, c, j)) where
    come : Come a ws h.head.0 (kept_of aim) s c × Abreast a ws h.head.0 vs n c j
    come = rw e at i

    pub survey-along : Along a ws h.head.0 c
    survey-along = come.0.along

    pub survey-abreast : Abreast a ws h.head.0 vs n c j
    survey-abreast = come.1

    module _ (t : Checked) (et : t ≡ soundness_of (sound_beside a ws h vs n)) where
      pub survey-unsound : (x : Refusal) → t ≡ Err x → Err x ≡ survey_beside a ws h vs n aim
      survey-unsound x f =
          let p = sound-err (sound_beside a ws h vs n) x (sym f ∙ et) in
          rw p.1 (damaged a ws h vs n aim p.0)

      pub survey-sound : t ≡ Ok tt → Ok s ≡ survey_beside a ws h vs n aim
      survey-sound f = undamaged a ws h vs n aim (sound-true (sound_beside a ws h vs n) t et f) s come.0.is

pub ruleset surveys = (survey-stays, survey-broken, survey-along, survey-abreast, survey-unsound, survey-sound)
