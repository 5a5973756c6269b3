-- What an aim keeps of ranges, by the number of the one that it takes first or last. Assumes nothing.
use Rattle.std.proofs.Common.{◌≡◌, ℕ, zero, suc, ◌+◌, ◌<◌, ◌≤◌, Bool, true, false, cond, ltb, List, [], ◌∷◌, length, get_or, sym, refl, ap, ◌∙◌, ap₂, arith, ltb-false, ltb-true, le-ltb, lt-ltb, ne_eqb}
use Rattle.units.specs.inner.Aims.{none_range, is_none, takes, keeps_first}
use Rattle.units.specs.declared.Range as units
use Rattle.units.specs.declared.aims.Aim.{Aim}
use Rattle.units.proofs.Fitting.{kept-stays}
use Rattle.units.proofs.Tests.{by}
use Rattle.model.specs.Marks.{Range, rng, struct}
use Rattle.model.specs.inner.Lists.{Apart}
use Rattle.block_words.specs.Words.{pairs}
use Rattle.block_words.specs.inner.Tallies.{pair_at}
use Rattle.block_words.specs.inner.Surveys.{entry, entry_at, entered, entry_of, Rising}
use Rattle.block_words.specs.declared.Entry.{Entry}
use Rattle.block_words.proofs.Pairs.{length_pairs, get-pair}

abbrev at : List Range → ℕ → units.Range
at rs j = struct (get_or rs j (rng 0 0))

module _ (aim : Aim) where
  -- what is kept so far stays where no range is taken instead
  entered-same : (e : Entry) (i : ℕ) (rs : List Range) → ((j : ℕ) → j < length rs → takes aim e.here (at rs j) ≡ false) → entered aim e i rs ≡ e
  entered-same e i [] f = refl
  entered-same e i (r ∷ rs) f = rw (f 0 (omega arith)) (entered-same e (i + 1) rs (λ j h. f (suc j) (omega arith)))

  -- the last range that is taken, whatever is kept so far
  entered-last : (e : Entry) (i : ℕ) (rs : List Range) (k : ℕ) → k < length rs → ((q : units.Range) → takes aim q (at rs k) ≡ true) →
      ((q : units.Range) (j : ℕ) → k < j → j < length rs → takes aim q (at rs j) ≡ false) → entered aim e i rs ≡ entry (i + k) (at rs k)
  entered-last e i [] k h t f = absurd (omega arith)
  entered-last e i (r ∷ rs) zero h t f =
      let m : i + 0 ≡ i = omega arith in
      rw (t e.here, m) (entered-same (entry i (struct r)) (i + 1) rs (λ j q. f (struct r) (suc j) (omega arith) (omega arith)))
  entered-last e i (r ∷ rs) (suc k) h t f =
      let m : i + suc k ≡ i + 1 + k = omega arith in
      rw m
      (entered-last (cond (takes aim e.here (struct r)) (entry i (struct r)) e) (i + 1) rs k (omega arith) t
      (λ q j p l. f q (suc j) (omega arith) (omega arith)))

  module _ (e : keeps_first aim ≡ true) where
    pub entered-stays : (k : Entry) → is_none k.here ≡ false → (i : ℕ) (rs : List Range) → entered aim k i rs ≡ k
    entered-stays k z i [] = refl
    entered-stays k z i (r ∷ rs) = rw (kept-stays aim e k.here (struct r) z) (entered-stays k z (i + 1) rs)

    -- the first range that is taken
    entered-first : (lo hi i n : ℕ) (rs : List Range) (k : ℕ) → 0 < lo → Apart lo hi rs → k < length rs →
        ((j : ℕ) → j < k → takes aim none_range (at rs j) ≡ false) → takes aim none_range (at rs k) ≡ true →
        entered aim (entry n none_range) i rs ≡ entry (i + k) (at rs k)
    entered-first lo hi i n [] k z a h f t = absurd (omega arith)
    entered-first lo hi i n (r ∷ rs) zero z a h f t =
        let m : i + 0 ≡ i = omega arith in
        rw (t, m) (entered-stays (entry i (struct r)) (ne_eqb r.base 0 (λ q. omega arith)) (i + 1) rs)
    entered-first lo hi i n (r ∷ rs) (suc k) z a h f t =
        let m : i + suc k ≡ i + 1 + k = omega arith in
        rw (f 0 (omega arith), m)
        (entered-first (suc r.limit) hi (i + 1) n rs k (omega arith) a.3 (omega arith) (λ j q. f (suc j) (omega arith)) t)

-- range number i of n
pub at-inside : (ws : List ℕ) (n i : ℕ) → i < n → entry_at ws n i ≡ entry i (pair_at ws i)
at-inside ws n i h = rw (lt-ltb i n h)

pub at_end : (ws : List ℕ) (n i : ℕ) → n ≤ i → entry_at ws n i ≡ entry n none_range
at_end ws n i h = rw (le-ltb i n h)

-- the same of the pairs of a table
module _ (ws : List ℕ) (n : ℕ) (s : Rising ws n) (aim : Aim) where
  abbrev rs : List Range
  rs = pairs ws n

  long : length (pairs ws n) ≡ n
  long = length_pairs ws n s.fits

  by-words : (q : units.Range) (j : ℕ) (t : Bool) → j < n → takes aim q (pair_at ws j) ≡ t → takes aim q (at (pairs ws n) j) ≡ t
  by-words q j t h e = ap (λ (r : Range). takes aim q (struct r)) (get-pair ws n j h s.fits) ∙ e

  same-entry : (k : ℕ) → k < n → entry k (pair_at ws k) ≡ entry (0 + k) (at (pairs ws n) k)
  same-entry k h =
      let z : k ≡ 0 + k = omega arith in
      ap₂ (λ (i : ℕ) (q : Range). entry i (struct q)) z (sym (get-pair ws n k h s.fits))

  pub kept-none : ((j : ℕ) → j < n → takes aim none_range (pair_at ws j) ≡ false) → entry n none_range ≡ entry_of aim (pairs ws n)
  kept-none f =
      let l = long in
      ap (λ (x : ℕ). entry x none_range) (sym long)
      ∙ sym (entered-same aim (entry (length rs) none_range) 0 rs
      (λ j h. by-words none_range j false (omega arith) (f j (omega arith))))

  pub kept-last : (k : ℕ) → k < n → ((q : units.Range) → takes aim q (pair_at ws k) ≡ true) →
      ((q : units.Range) (j : ℕ) → k < j → j < n → takes aim q (pair_at ws j) ≡ false) → entry k (pair_at ws k) ≡ entry_of aim (pairs ws n)
  kept-last k h t f =
      let l = long in
      same-entry k h
      ∙ sym (entered-last aim (entry (length rs) none_range) 0 rs k (omega arith)
      (λ q. by-words q k true h (t q))
      (λ q j p m. by-words q j false (omega arith) (f q j p (omega arith))))

  module _ (stay : keeps_first aim ≡ true) (k : ℕ) (f : (j : ℕ) → j < k → j < n → takes aim none_range (pair_at ws j) ≡ false) where
    kept-first : k < n → takes aim none_range (pair_at ws k) ≡ true → entry k (pair_at ws k) ≡ entry_of aim (pairs ws n)
    kept-first h t =
        let l = long in
        same-entry k h
        ∙ sym (entered-first aim stay s.low s.high 0 (length rs) rs k s.above s.apart (omega arith)
        (λ j q. by-words none_range j false (omega arith) (f j q (omega arith)))
        (by-words none_range k true h t))

    -- range number k, or none
    pub kept_at : (k < n → takes aim none_range (pair_at ws k) ≡ true) → entry_at ws n k ≡ entry_of aim (pairs ws n)
    kept_at t =
        by (ltb k n)
        (λ e. let h = ltb-true k n e in at-inside ws n k h ∙ kept-first h (t h))
        (λ e. let h = ltb-false k n e in at_end ws n k h ∙ kept-none (λ j q. f j (omega arith) q))
