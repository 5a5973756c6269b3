-- The first of the longest ranges: what holds at each turn of the loop of `largest`, and its ways out. Assumes nothing.
use Rattle.std.proofs.Common.{◌≡◌, ℕ, ◌+◌, ◌-◌, ◌*◌, ◌<◌, ◌≤◌, Bool, true, false, cond, not, eqb, ltb, List, get_or, sym, ap, ◌∙◌, ap₂, arith, ltb-false, ltb-true, le-ltb, lt-ltb, ne_eqb, eqb-true}
use mathlib.Core.Bool.{and-false}
use borrow.Author.Tests.{not-true}
use Rattle.units.specs.inner.Aims.{none_range, length_of, is_none, takes}
use Rattle.units.specs.declared.Range.{Range}
use Rattle.units.specs.declared.Size.{Size}
use Rattle.units.specs.declared.Which.{Which}
use Rattle.units.specs.declared.aims.Aim.{Aim}
use Rattle.units.proofs.Tests.{by, tests, and_left}
use Rattle.model.specs.Marks as marks
use Rattle.block_words.specs.Words.{pairs}
use Rattle.block_words.specs.inner.Tallies.{pair_at, behind}
use Rattle.block_words.specs.inner.Surveys.{entry, entry_at, entered, entry_of, Rising}
use Rattle.block_words.specs.declared.Entry.{Entry}
use Rattle.block_words.proofs.Pairs.{length_pairs, pairs-at, pairs_end, all-behind}
use Rattle.block_words.proofs.Seeking.{rising_inside, rising-order, pair-order, pair-above}
use Rattle.block_words.proofs.Staying.{at-inside, at_end}

-- one byte less, or 0
module _ (size : Size) (b : Bool) (eb : b ≡ eqb size.0 0) where
  pub less_zero : b ≡ true → size.0 ≡ size.0 - 1
  less_zero f = let z = eqb-true size.0 0 (sym eb ∙ f) in omega arith

  pub less-room : b ≡ false → (n : Size) → n.0 ≡ 1 → n.0 ≤ size.0
  less-room f n e = let z : eqb size.0 0 ≡ false = sym eb ∙ f in omega tests

pub less_one : (size n r : Size) → n.0 ≡ 1 → r.0 ≡ size.0 - n.0 → r.0 ≡ size.0 - 1
less_one size n r en er = er ∙ ap (λ (x : ℕ). size.0 - x) en

pub ruleset lessenings = (less_zero, less-room, less_one)

abbrev pub aim_at : Size → Aim
aim_at size = Aim.Find Which.Largest size

-- what is kept of the ranges from number i on is kept of all, and a range is taken exactly if it is longer than `most`; for every
-- size to find that is one more than `start`
pub record Weighing (ws : List ℕ) (n : ℕ) (start most : Size) (number i : ℕ) : Type 0 where
  pub rising : Rising ws n
  pub upto : i ≤ n
  pub left : (size : Size) → start.0 ≡ size.0 - 1 →
      entered (aim_at size) (entry_at ws n number) i (behind ws n i) ≡ entry_of (aim_at size) (pairs ws n)
  pub weighs : (size : Size) → start.0 ≡ size.0 - 1 → (r : Range) → r.base.0 < r.limit.0 →
      takes (aim_at size) (entry_at ws n number).here r ≡ ltb most.0 (length_of r)

module _ (ws : List ℕ) (n : ℕ) (start : Size) where
  -- before one is kept
  none-weighs : (size : Size) → start.0 ≡ size.0 - 1 → (r : Range) → r.base.0 < r.limit.0 →
      takes (aim_at size) none_range r ≡ ltb start.0 (length_of r)
  none-weighs size e r o =
      by (ltb (length_of r) size.0)
      (λ t. let p = ltb-true (length_of r) size.0 t in rw (t, le-ltb start.0 (length_of r) (omega arith)))
      (λ t. let p = ltb-false (length_of r) size.0 t in rw (t, lt-ltb start.0 (length_of r) (omega arith)))

  pub weigh-start : Rising ws n → Weighing ws n start start n 0
  weigh-start s =
      let z = at_end ws n n (omega arith) in
      let l = length_pairs ws n s.fits in
      record {
        rising = s;
        upto = omega arith;
        left =
            λ size e. ap₂ (λ (x : Entry) (rs : List marks.Range). entered (aim_at size) x 0 rs) (z ∙ ap (λ (x : ℕ). entry x none_range) (sym l)) (all-behind ws n);
        weighs = λ size e r o. ap (λ (x : Entry). takes (aim_at size) x.here r) z ∙ none-weighs size e r o;
      }

  module _ (most : Size) (number i : ℕ) (j : Weighing ws n start most number i) where
    pub weigh-end : n ≤ i → (size : Size) → start.0 ≡ size.0 - 1 → (e : Entry) → e ≡ entry_at ws n number → e ≡ entry_of (aim_at size) (pairs ws n)
    weigh-end h size es e ee = ee ∙ sym (ap (entered (aim_at size) (entry_at ws n number) i) (pairs_end ws n i h)) ∙ j.left size es

    module _ (h : i < n) (r : Range) (er : r ≡ pair_at ws i) where
      pub weigh-order : r.base.0 ≤ r.limit.0
      weigh-order = rising-order ws n j.rising i h r er

      module _ (z : Size) (ez : z.0 ≡ length_of r) where
        long : z.0 ≡ length_of (pair_at ws i)
        long = ez ∙ ap length_of er

        module _ (size : Size) (es : start.0 ≡ size.0 - 1) where
          tested : takes (aim_at size) (entry_at ws n number).here (pair_at ws i) ≡ ltb most.0 z.0
          tested = j.weighs size es (pair_at ws i) (pair-order ws n j.rising i h) ∙ sym (ap (ltb most.0) long)

          kept_by : (c : Bool) → ltb most.0 z.0 ≡ c →
              entered (aim_at size) (cond c (entry i (pair_at ws i)) (entry_at ws n number)) (i + 1) (behind ws n (i + 1)) ≡ entry_of (aim_at size) (pairs ws n)
          kept_by c f =
              ap (λ (x : Bool). entered (aim_at size) (cond x (entry i (pair_at ws i)) (entry_at ws n number)) (i + 1) (behind ws n (i + 1))) (sym (tested ∙ f))
              ∙ sym (ap (entered (aim_at size) (entry_at ws n number) i) (pairs-at ws n i h j.rising.fits)) ∙ j.left size es

          -- it is long enough, and then only a longer one is taken
          enough : most.0 < z.0 → size.0 ≤ length_of (pair_at ws i)
          enough f =
              ltb-false (length_of (pair_at ws i)) size.0
              (not-true (ltb (length_of (pair_at ws i)) size.0) (and_left (not (ltb (length_of (pair_at ws i)) size.0)) _ (tested ∙ lt-ltb most.0 z.0 f)))

          longer : most.0 < z.0 → (q : Range) → takes (aim_at size) (pair_at ws i) q ≡ ltb z.0 (length_of q)
          longer f q =
              let e = enough f in
              let u : is_none (pair_at ws i) ≡ false = ne_eqb (get_or ws (2 * i) 0) 0 (λ x. let p = pair-above ws n j.rising i h in omega arith) in
              by (ltb (length_of (pair_at ws i)) (length_of q))
              (λ t. let p = ltb-true (length_of (pair_at ws i)) (length_of q) t in
              rw (u, long, t, le-ltb (length_of q) size.0 (omega arith)))
              (λ t. rw (u, long, t, and-false (not (ltb (length_of q) size.0))))

        pub weigh-left : z.0 ≤ most.0 → Weighing ws n start most number (i + 1)
        weigh-left f = record { rising = j.rising; upto = omega arith; left = λ size e. kept_by size e false (le-ltb most.0 z.0 f); weighs = j.weighs }

        pub weigh-taken : most.0 < z.0 → Weighing ws n start z i (i + 1)
        weigh-taken f =
            let a = at-inside ws n i h in
            record {
              rising = j.rising;
              upto = omega arith;
              left = λ size e. rw a (kept_by size e true (lt-ltb most.0 z.0 f));
              weighs = λ size e q o. ap (λ (x : Entry). takes (aim_at size) x.here q) a ∙ longer size e f q;
            }

pub ruleset weighings = (rising_inside, weigh-start, weigh-end, weigh-order, weigh-taken, weigh-left)
