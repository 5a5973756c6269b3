-- A list walked beside a table: where it starts, one range further on, at an overlap and at the end. Assumes nothing.
use Prim.Native.Nat.{ℕ, ◌+◌, ◌-◌}
use mathlib.Core.Bool.{Bool, true, false, not}
use mathlib.Core.List.{List, ◌∷◌}
use mathlib.Core.Path.{◌≡◌, sym, ap, subst, ◌∙◌}
use native.Mathlib.Omega.{arith}
use lib.Dec.{eqb}
use lib.ListN.{length}
use Rattle.std.specs.Prelude.{Option, Some, None, Result, Ok}
use Rattle.units.specs.Words.{range_of}
use Rattle.units.specs.declared.Addr.{Addr}
use Rattle.units.specs.declared.Range as units
use Rattle.units.specs.declared.rules.Arena.{Arena}
use Rattle.model.specs.Marks.{Range, rng, struct}
use Rattle.model.specs.inner.Lists.{Apart}
use Rattle.list_words.specs.Words.{Walk, clean, walk_from, range_at}
use Rattle.list_words.specs.inner.Surveys.{Ready, walk_in, walk_of, start_at, onward, Along}
use Rattle.list_words.specs.declared.Descriptor.{Descriptor}
use Rattle.list_words.specs.declared.Fault.{Fault}
use Rattle.list_words.specs.declared.cursor.Cursor.{Cursor}
use Rattle.list_words.proofs.Going.{along-done, met-here}
use Rattle.list_words.proofs.Meeting.{walk-mets}
use Rattle.block_words.specs.Words.{pairs}
use Rattle.block_words.specs.inner.Tallies.{behind}
use Rattle.block_words.specs.inner.Surveys.{Rising}
use Rattle.pair_model.specs.PairLayouts.{meet}
use Rattle.pair_words.specs.inner.Besides.{beside_of, Abreast}
use Rattle.pair_words.proofs.Besides.{Kept, Keeps, placed-keeps, Says, placed-says}

-- what a walk that ends well meets from a place on stands apart
walk-apart : (a : Arena) (ws : List ℕ) (low x : ℕ) → (walk_in a ws low x).end ≡ clean → Apart low a.limit.0 (walk_in a ws low x).met
unfolding walk_from
walk-apart a ws low x c = (walk-mets a.base.0 a.limit.0 a.align.0 ws (length ws) low x c).apart

module _ (a : Arena) (ws : List ℕ) (ready : Ready a (length ws)) (vs : List ℕ) (n : ℕ) where
  pub abreast-start : Rising vs n → (h : Addr) (c : Cursor) → c ≡ start_at a h → Abreast a ws h.0 vs n c 0
  abreast-start g h c ec =
      let y : n - 0 ≡ n = omega arith in
      rw ec
      (record {
        fits = g.fits;
        upto = omega arith;
        lo = g.low;
        hi = g.high;
        apart = rw y g.apart;
        same = λ w. ap (λ (k : ℕ). meet (walk_of a ws h.0).met (pairs vs k)) y;
      })

  module _ (head : ℕ) where
    abbrev whole : Walk
    whole = walk_of a ws head

    abbrev overlap : Bool
    overlap = meet whole.met (pairs vs n)

    module _ (c : Cursor) (i : ℕ) (l : Along a ws head c) (s : Abreast a ws head vs n c i) (z : Bool) (ez : z ≡ eqb c.at.0 0) where
      -- none comes
      pub abreast-done : not z ≡ false → overlap ≡ false
      abreast-done f =
          let d = along-done a ws ready head c l z ez f in
          sym (s.same d.clean_end) ∙ ap (λ (rs : List Range). meet rs (behind vs n i)) d.none_left

      -- a range comes
      module _ (f : not z ≡ true) (m : Result Descriptor Fault) (em : m ≡ range_at a.base.0 a.limit.0 a.align.0 ws c.low.0 c.at.0)
          (d : Descriptor) (fm : m ≡ Ok d) where
        abbrev r : Range
        r = rng c.at.0 d.limit.0

        abbrev rest : List Range
        rest = (walk_in a ws (d.limit.0 + 1) d.next.0).met

        met : (walk_in a ws c.low.0 c.at.0).met ≡ r ∷ rest
        met = met-here a ws ready head c l z ez f m em d fm

        all-pairs : i + (n - i) ≡ n
        all-pairs = omega (arith, s.upto)

        -- if the walk ends well, the place tells of overlaps
        module _ (w : whole.end ≡ clean) where
          stood : Apart c.low.0 a.limit.0 (r ∷ rest)
          stood = subst (Apart c.low.0 a.limit.0) met (walk-apart a ws c.low.0 c.at.0 (l.ending ∙ w))

          abbrev Tells : Option ℕ → Type 0
          Tells = Says vs n s.hi s.fits r rest a.limit.0 stood.1 stood.2 stood.3 i

          tells : Tells (beside_of (struct r) i (behind vs n i))
          tells = placed-says vs n s.hi s.fits r rest a.limit.0 stood.1 stood.2 stood.3 (n - i) i s.lo all-pairs s.apart

          both : meet (r ∷ rest) (behind vs n i) ≡ overlap
          both = sym (ap (λ (rs : List Range). meet rs (behind vs n i)) met) ∙ s.same w

        module _ (y : units.Range) (ey : y ≡ range_of c.at.0 d.limit.0) (b : Option ℕ) (eb : b ≡ beside_of y i (behind vs n i)) where
          placed : b ≡ beside_of (struct r) i (behind vs n i)
          placed = eb ∙ ap (λ (v : units.Range). beside_of v i (behind vs n i)) ey

          pub abreast-overlaps : b ≡ None → whole.end ≡ clean → overlap ≡ true
          abreast-overlaps g w = sym (both w) ∙ subst (Tells w) (sym placed ∙ g) (tells w)

          module _ (j : ℕ) (g : b ≡ Some j) where
            there : beside_of (struct r) i (behind vs n i) ≡ Some j
            there = sym placed ∙ g

            stays : Kept vs n s.hi i j
            stays =
                subst (Keeps vs n s.hi s.fits (struct r) i) there
                (placed-keeps vs n s.hi s.fits (struct r) (n - i) i s.lo all-pairs s.apart)

            pub abreast-next : (c' : Cursor) → c' ≡ onward c d.limit.0 d.next → Abreast a ws head vs n c' j
            abreast-next c' ec =
                rw ec
                (record {
                  fits = s.fits;
                  upto = stays.most;
                  lo = stays.low;
                  hi = s.hi;
                  apart = stays.apart;
                  same = λ w. sym (subst (Tells w) there (tells w)) ∙ both w;
                })
