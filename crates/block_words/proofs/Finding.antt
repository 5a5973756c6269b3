-- The first and the last range that is long enough: what holds at each turn of the loops of `first` and `last`, and their ways out.
-- Assumes nothing.
use Rattle.std.proofs.Common.{◌≡◌, ℕ, ◌+◌, ◌-◌, ◌<◌, ◌≤◌, true, false, ltb, List, sym, refl, ap, ◌∙◌, arith, ltb-true, le-ltb, lt-ltb}
use mathlib.Core.Bool.{or-true}
use Rattle.units.specs.inner.Aims.{none_range, length_of, is_none, takes}
use Rattle.units.specs.declared.Range.{Range}
use Rattle.units.specs.declared.Size.{Size}
use Rattle.units.specs.declared.Which.{Which}
use Rattle.units.specs.declared.aims.Aim.{Aim}
use Rattle.units.proofs.Tests.{by, tests}
use Rattle.block_words.specs.Words.{pairs}
use Rattle.block_words.specs.inner.Tallies.{pair_at}
use Rattle.block_words.specs.inner.Surveys.{entry, entry_at, entry_of, Rising}
use Rattle.block_words.specs.declared.Entry.{Entry}
use Rattle.block_words.proofs.Seeking.{rising_inside, rising-order}
use Rattle.block_words.proofs.Staying.{at-inside, at_end, kept-none, kept-last, kept_at}

-- what a find takes of a pair
abbrev pub len : List ℕ → ℕ → ℕ
len ws i = length_of (pair_at ws i)

module _ (ws : List ℕ) (z : Size) (i : ℕ) where
  short-taken : (w : Which) (q : Range) → len ws i < z.0 → takes (Aim.Find w z) q (pair_at ws i) ≡ false
  short-taken w q h = rw (lt-ltb (len ws i) z.0 h)

  long-first : (w : Which) → z.0 ≤ len ws i → takes (Aim.Find w z) none_range (pair_at ws i) ≡ true
  long-first w h = rw (le-ltb (len ws i) z.0 h)

  long-last : (q : Range) → z.0 ≤ len ws i → takes (Aim.Find Which.Last z) q (pair_at ws i) ≡ true
  long-last q h = rw (le-ltb (len ws i) z.0 h) (or-true (is_none q))

  -- the code's measure of a range
  measured : (r : Range) → r ≡ pair_at ws i → (y : Size) → y.0 ≡ length_of r → y.0 ≡ len ws i
  measured r er y ey = ey ∙ ap length_of er

-- no range before number i is long enough
pub record Upwards (ws : List ℕ) (n : ℕ) (z : Size) (i : ℕ) : Type 0 where
  pub rising : Rising ws n
  pub upto : i ≤ n
  pub short : (j : ℕ) → j < i → len ws j < z.0

-- no range from number i on is long enough
pub record Downwards (ws : List ℕ) (n : ℕ) (z : Size) (i : ℕ) : Type 0 where
  pub rising : Rising ws n
  pub upto : i ≤ n
  pub short : (j : ℕ) → i ≤ j → j < n → len ws j < z.0

module _ (ws : List ℕ) (n : ℕ) (z : Size) where
  pub up_start : Rising ws n → Upwards ws n z 0
  up_start s = record { rising = s; upto = omega arith; short = λ j h. absurd (omega arith) }

  module _ (i : ℕ) (u : Upwards ws n z i) where
    pub up-end : n ≤ i → (e : Entry) → e ≡ entry_at ws n n → e ≡ entry_of (Aim.Find Which.First z) (pairs ws n)
    up-end h e k =
        k ∙ at_end ws n n (omega arith)
        ∙ kept-none ws n u.rising (Aim.Find Which.First z) (λ j k. short-taken ws z j Which.First none_range (u.short j (omega arith)))

    module _ (h : i < n) (r : Range) (er : r ≡ pair_at ws i) where
      pub up-order : r.base.0 ≤ r.limit.0
      up-order = rising-order ws n u.rising i h r er

      module _ (y : Size) (ey : y.0 ≡ length_of r) where
        pub up-here : z.0 ≤ y.0 → entry i r ≡ entry_of (Aim.Find Which.First z) (pairs ws n)
        up-here f =
            ap (entry i) er ∙ sym (at-inside ws n i h)
            ∙ kept_at ws n u.rising (Aim.Find Which.First z) refl i
            (λ j k m. short-taken ws z j Which.First none_range (u.short j k))
            (λ k. long-first ws z i Which.First (let m = measured ws z i r er y ey in omega arith))

        pub up_next : y.0 < z.0 → Upwards ws n z (i + 1)
        up_next f = record { rising = u.rising; upto = omega arith; short = before }
          where
            before : (j : ℕ) → j < i + 1 → len ws j < z.0
            before j k =
                by (ltb j i)
                (λ t. u.short j (ltb-true j i t))
                (λ t. let e : i ≡ j = omega tests in let m = measured ws z i r er y ey in let w : len ws i < z.0 = omega arith in rw e at w)

  pub down-start : Rising ws n → Downwards ws n z n
  down-start s = record { rising = s; upto = omega arith; short = λ j h k. absurd (omega arith) }

  module _ (i : ℕ) (d : Downwards ws n z i) where
    pub down-end : i ≤ 0 → (e : Entry) → e ≡ entry_at ws n n → e ≡ entry_of (Aim.Find Which.Last z) (pairs ws n)
    down-end h e k =
        k ∙ at_end ws n n (omega arith)
        ∙ kept-none ws n d.rising (Aim.Find Which.Last z) (λ j k. short-taken ws z j Which.Last none_range (d.short j (omega arith) k))

    module _ (h : 0 < i) where
      pub down-inside : i - 1 < n
      down-inside = let u = d.upto in omega arith

      module _ (r : Range) (er : r ≡ pair_at ws (i - 1)) where
        pub down-order : r.base.0 ≤ r.limit.0
        down-order = rising-order ws n d.rising (i - 1) down-inside r er

        module _ (y : Size) (ey : y.0 ≡ length_of r) where
          pub down-here : z.0 ≤ y.0 → entry (i - 1) r ≡ entry_of (Aim.Find Which.Last z) (pairs ws n)
          down-here f =
              ap (entry (i - 1)) er
              ∙ kept-last ws n d.rising (Aim.Find Which.Last z) (i - 1) down-inside
              (λ q. long-last ws z (i - 1) q (let m = measured ws z (i - 1) r er y ey in omega arith))
              (λ q j k m. short-taken ws z j Which.Last q (d.short j (omega arith) m))

          pub down-next : y.0 < z.0 → Downwards ws n z (i - 1)
          down-next f = record { rising = d.rising; upto = let u = d.upto in omega arith; short = after }
            where
              after : (j : ℕ) → i - 1 ≤ j → j < n → len ws j < z.0
              after j k m =
                  by (ltb (i - 1) j)
                  (λ t. d.short j (omega tests) m)
                  (λ t. let e : i - 1 ≡ j = omega tests in let m = measured ws z (i - 1) r er y ey in let w : len ws (i - 1) < z.0 = omega arith in rw e at w)

pub ruleset ups = (rising_inside, up_start, up-end, up-order, up-here, up_next)

pub ruleset downs = (rising_inside, down-start, down-end, down-inside, down-order, down-here, down-next)
