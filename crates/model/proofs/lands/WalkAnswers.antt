-- The ways out of a walk of a land: 5, 6, 2, and the range met; and that it leaves every word. Assumes nothing.
use Prim.Native.Nat.{ℕ}
use mathlib.Core.Bool.{Bool, true, false}
use mathlib.Core.List.{List}
use mathlib.Core.Path.{◌≡◌, refl, sym, ap, ◌∙◌}
use lib.Dec.{eqb}
use Rattle.std.specs.Prelude.{Result, Ok, Err}
use Rattle.units.specs.Rules.{refusal_number}
use Rattle.units.specs.inner.Aims.{none_range}
use Rattle.units.specs.declared.Addr.{Addr}
use Rattle.units.specs.declared.aims.Aim.{Aim}
use Rattle.units.specs.declared.refusals.Refusal.{Refusal}
use Rattle.model.specs.Calls.{Outcome, walk}
use Rattle.model.specs.Layouts.{Done}
use Rattle.model.specs.Marks.{Range, rng}
use Rattle.model.specs.inner.Picks.{here_of}
use Rattle.model.specs.inner.Steps.{next_from}
use Rattle.model.proofs.Aiming.{by-from}
use Rattle.model.proofs.Best.{next-mem}
use Rattle.model.proofs.Chosen.{none-chosen, some-chosen}
use Rattle.model.proofs.Finding.{walk-visits, walk-keeps}
use Rattle.model.proofs.lands.Land.{Land}
use Rattle.model.proofs.lands.Ways.{above}
use Rattle.model.proofs.lands.Looking.{handle-back, Kept, changed, read_back, saw, saw-err, refused-change, fine, is-kept, mem-above, step-refused, done-change}

module _ {H S C F : Type 0} (I : Land H S C F) (h : H) (ws : List ℕ) where
  pub walk-words : (x : ℕ) → ws ≡ (I.does (walk x) h ws).words
  walk-words x = sym (ap (λ (d : Done Outcome H (List ℕ)). d.words) (I.is_call (walk x) h ws) ∙ walk-keeps I.layout (read_back I) x h ws)

  module _ (x : Addr) (v : Result S Refusal) (e : v ≡ I.look h ws (Aim.From x)) where
    pub walk-err : (r : Refusal) → v ≡ Err r → (w : C) → w ≡ I.change h (refusal_number r) none_range → w ≡ changed I (I.does (walk x.0) h ws)
    walk-err r f w k = (refused-change I h ws (walk x.0) (refusal_number r) (saw-err I h ws (Aim.From x) v e (walk x.0) r f) w k ws refl).0

    module _ (s : S) (f : v ≡ Ok s) (t : Bool) (et : t ≡ eqb (I.here s).base.0 0) where
      k : Kept I h ws (Aim.From x) s
      k = rw (I.aims-from h x) at (saw I h ws (Aim.From x) v e s f)

      abbrev rs : List Range
      rs = I.ranges h ws

      chosen : I.here s ≡ here_of (next_from x.0 (I.ranges h ws))
      chosen =
          is-kept I h ws (Aim.From x) s k
          ∙ ap here_of (by-from x (I.layout.arena h ws).base (I.layout.arena h ws).limit rs (above I h ws k.good) (fine I h ws (Aim.From x) s k).canon.apart)

      pub walk_2 : t ≡ true → (w : C) → w ≡ I.change h 2 none_range → w ≡ changed I (I.does (walk x.0) h ws)
      walk_2 g w ew =
          let o = none-chosen (I.here s) (next_from x.0 rs) chosen (λ q p. mem-above I h ws (Aim.From x) s k q (next-mem x.0 rs q p).0) (sym et ∙ g) in
          (refused-change I h ws (walk x.0) 2 (step-refused I h ws (Aim.From x) s k (walk x.0) 2 refl (rw o)) w ew ws refl).0

      pub walk_0 : t ≡ false → I.change h 0 (I.here s) ≡ changed I (I.does (walk x.0) h ws)
      walk_0 g =
          let c = some-chosen (I.here s) (next_from x.0 rs) chosen (sym et ∙ g) in
          (done-change I h ws (Aim.From x) s k (walk x.0) c.range (rng 0 0) rs
          (walk-visits (I.layout.arena h ws) x.0 rs c.range c.is)
          h (sym (handle-back I h ws k.good k.whole)) (I.here s) c.here ws (sym (I.words_back h ws k.good k.whole))).0
