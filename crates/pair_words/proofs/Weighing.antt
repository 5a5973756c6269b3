-- The walk beside a table of an aim that weighs each range: what holds at each turn of the loop of `weigh`, and its ways out. Assumes nothing.
use Prim.Native.Nat.{ℕ, ◌+◌, ◌-◌, ◌<◌}
use mathlib.Core.Bool.{Bool, true, false, not}
use mathlib.Core.List.{List}
use mathlib.Core.Path.{◌≡◌, sym, ap, ◌∙◌}
use lib.Dec.{eqb}
use lib.ListN.{length}
use Rattle.std.specs.Prelude.{Option, Some, None, Result, Ok, Err}
use Rattle.units.specs.inner.Aims.{none_range, takes, Sized}
use Rattle.units.specs.inner.Parts.{Checked, soundness_of}
use Rattle.units.specs.Words.{addr, range_of}
use Rattle.units.specs.declared.Range.{Range}
use Rattle.units.specs.declared.aims.Aim.{Aim}
use Rattle.units.specs.declared.rules.Arena.{Arena}
use Rattle.units.specs.declared.refusals.Refusal.{Refusal}
use Rattle.units.proofs.Cases.{sound-true, sound-err}
use Rattle.model.specs.Marks as marks
use Rattle.list_words.specs.Words.{range_at, sound_walk}
use Rattle.list_words.specs.inner.Surveys.{Ready, walk_of, spot, start_at, onward, counts_of, at_end, keeping, Near}
use Rattle.list_words.specs.declared.Chain.{Chain}
use Rattle.list_words.specs.declared.Descriptor.{Descriptor}
use Rattle.list_words.specs.declared.Fault.{Fault}
use Rattle.list_words.specs.declared.Spot.{Spot}
use Rattle.list_words.specs.declared.cursor.Cursor.{Cursor}
use Rattle.list_words.proofs.Going.{sound-counts, along-broken, along-near, along-less, along-done}
use Rattle.list_words.proofs.Weighing.{Weighing, weigh-start, weigh-sized, weigh-taken, weigh-left}
use Rattle.block_words.specs.inner.Tallies.{behind}
use Rattle.block_words.specs.inner.Surveys.{Rising}
use Rattle.pair_words.specs.inner.Besides.{beside_of, Abreast, survey_beside}
use Rattle.pair_words.proofs.Abreast.{abreast-start, abreast-done, abreast-overlaps, abreast-next}
use Rattle.pair_words.proofs.Judging.{unsound, broken, overlapping, apart, damaged, undamaged}

-- the list weighed, and the table abreast of it
pub record Pondering (a : Arena) (ws : List ℕ) (head : ℕ) (vs : List ℕ) (n : ℕ) (aim : Aim) (p : Range) (k : Spot) (c : Cursor) (i : ℕ) : Type 0 where
  pub weighing : Weighing a ws head aim p k c
  pub abreast : Abreast a ws head vs n c i

module _ (a : Arena) (ws : List ℕ) (ready : Ready a (length ws)) (h : Chain) (vs : List ℕ) (n : ℕ) (aim : Aim) where
  abbrev Answer : Result Spot Refusal → Type 0
  Answer v = v ≡ survey_beside a ws h vs n aim

  pub ponder-start : Rising vs n → (p : Range) → p ≡ none_range → (k : Spot) → k ≡ spot p none_range (addr 0) → (c : Cursor) → c ≡ start_at a h.head →
      Pondering a ws h.head.0 vs n aim p k c 0
  ponder-start t p ep k ek c ec =
      record { weighing = weigh-start a ws ready h aim p ep k ek c ec; abreast = abreast-start a ws ready vs n t h.head c ec }

  module _ (p : Range) (k : Spot) (c : Cursor) (i : ℕ) (s : Pondering a ws h.head.0 vs n aim p k c i) (z : Bool) (ez : z ≡ eqb c.at.0 0) where
    -- none comes
    module _ (f : not z ≡ false) (t : Checked) (et : t ≡ soundness_of (counts_of c h)) where
      counts : counts_of c h ≡ sound_walk (walk_of a ws h.head.0) h.ranges h.bytes.0
      counts = sound-counts a ws h c (along-done a ws ready h.head.0 c s.weighing.along z ez f)

      pub ponder-few : (x : Refusal) → t ≡ Err x → Answer (Err x)
      ponder-few x g =
          let q = sound-err (counts_of c h) x (sym g ∙ et) in
          rw q.1 (damaged a ws h vs n aim (unsound a ws h vs n (sym counts ∙ q.0)))

      pub ponder-done : t ≡ Ok tt → (v : Spot) → v ≡ at_end p k → Answer (Ok v)
      ponder-done g v ev =
          let o = abreast-done a ws ready vs n h.head.0 c i s.weighing.along s.abreast z ez f in
          let d = along-done a ws ready h.head.0 c s.weighing.along z ez f in
          undamaged a ws h vs n aim (sym (apart a ws h vs n o) ∙ sym counts ∙ sound-true (counts_of c h) t et g) v
          (λ u. ev ∙ (sym (ap (λ (x : List marks.Range). keeping aim p k x) d.none_left) ∙ s.weighing.left u))

    -- a range comes
    module _ (f : not z ≡ true) (m : Result Descriptor Fault) (em : m ≡ range_at a.base.0 a.limit.0 a.align.0 ws c.low.0 c.at.0) where
      pub ponder-broken : (x : Fault) → m ≡ Err x → Answer (Err Refusal.Damaged)
      ponder-broken x g = damaged a ws h vs n aim (broken a ws h vs n (along-broken a ws ready h.head.0 c s.weighing.along z ez f m em x g))

      module _ (d : Descriptor) (fm : m ≡ Ok d) where
        pub ponder-near : Near c d.limit.0
        ponder-near = along-near a ws ready h.head.0 c s.weighing.along z ez f m em d fm

        pub ponder-less : (c' : Cursor) → c' ≡ onward c d.limit.0 d.next → a.limit.0 + 1 - c'.low.0 < a.limit.0 + 1 - c.low.0
        ponder-less c' ec = along-less a ws ready h.head.0 c s.weighing.along z ez f m em d fm c' ec

        module _ (y : Range) (ey : y ≡ range_of c.at.0 d.limit.0) where
          pub ponder-sized : Sized k.here y
          ponder-sized = weigh-sized a ws ready h aim p k c s.weighing z ez f m em d fm y ey

          module _ (b : Option ℕ) (eb : b ≡ beside_of y i (behind vs n i)) where
            pub ponder-overlaps : b ≡ None → Answer (Err Refusal.Damaged)
            ponder-overlaps g =
                damaged a ws h vs n aim (overlapping a ws h vs n
                (abreast-overlaps a ws ready vs n h.head.0 c i s.weighing.along s.abreast z ez f m em d fm y ey b eb g))

            module _ (j : ℕ) (g : b ≡ Some j) (t : Bool) (et : t ≡ takes aim k.here y) (c' : Cursor) (ec : c' ≡ onward c d.limit.0 d.next) where
              next-pairs : Abreast a ws h.head.0 vs n c' j
              next-pairs = abreast-next a ws ready vs n h.head.0 c i s.weighing.along s.abreast z ez f m em d fm y ey b eb j g c' ec

              pub ponder-taken : t ≡ true → (k' : Spot) → k' ≡ spot p y d.next → Pondering a ws h.head.0 vs n aim y k' c' j
              ponder-taken ft k' ek =
                  record { weighing = weigh-taken a ws ready h aim p k c s.weighing z ez f m em d fm y ey t et c' ec ft k' ek; abreast = next-pairs }

              pub ponder-left : t ≡ false → (k' : Spot) → k' ≡ k → Pondering a ws h.head.0 vs n aim y k' c' j
              ponder-left ft k' ek =
                  record { weighing = weigh-left a ws ready h aim p k c s.weighing z ez f m em d fm y ey t et c' ec ft k' ek; abreast = next-pairs }

pub ruleset ponders = (ponder-start, ponder-few, ponder-done, ponder-broken, ponder-near, ponder-less, ponder-sized, ponder-overlaps, ponder-taken, ponder-left)
