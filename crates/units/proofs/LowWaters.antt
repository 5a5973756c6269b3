-- Low water: the ways out of its functions; what is noted is sound, and noting the number that there is changes nothing. Assumes nothing.
use Prim.Native.Nat.{ℕ, ◌≤◌, ◌<◌}
use mathlib.Core.Bool.{true, cond, ◌&&◌}
use mathlib.Core.Path.{◌≡◌, refl, sym, subst}
use native.Mathlib.Omega.{arith}
use lib.Dec.{leb, ltb, eqb}
use borrow.Author.Tests.{eqb-true, leb-true, lt-ltb, le-ltb, le-leb, lt-leb, eq-eqb, ne_eqb}
use Rattle.std.specs.Prelude.{Ok, Err}
use Rattle.units.specs.LowWater.{unset, noted, sound_low}
use Rattle.units.specs.inner.Parts.{soundness_of}
use Rattle.units.specs.declared.Size.{Size}
use Rattle.units.specs.declared.low_water.LowWater.{LowWater}
use Rattle.units.specs.declared.refusals.Refusal.{Refusal}
use Rattle.units.proofs.Tests.{by, tests, and_left, and_right}

-- THE WAYS OUT
module _ (q : LowWater) (n : Size) where
  pub note-none : q.filled ≡ 0 → n.0 ≡ 0 → record { filled = 0; low = n } ≡ noted q n.0
  note-none f z = rw (eq-eqb q.filled 0 f, eq-eqb n.0 0 z)

  pub note-first : q.filled ≡ 0 → (n.0 ≡ 0 → ⊥) → record { filled = 1; low = n } ≡ noted q n.0
  note-first f z = rw (eq-eqb q.filled 0 f, ne_eqb n.0 0 z)

  pub note-lower : (q.filled ≡ 0 → ⊥) → n.0 < q.low.0 → record { filled = 1; low = n } ≡ noted q n.0
  note-lower f l = rw (ne_eqb q.filled 0 f, lt-ltb n.0 q.low.0 l)

  pub note-kept : (q.filled ≡ 0 → ⊥) → q.low.0 ≤ n.0 → record { filled = 1; low = q.low } ≡ noted q n.0
  note-kept f l = rw (ne_eqb q.filled 0 f, le-ltb n.0 q.low.0 l)

  pub low-above : n.0 < q.low.0 → Err Refusal.Damaged ≡ soundness_of (sound_low q n.0)
  unfolding sound_low
  low-above l = rw (lt-leb q.low.0 n.0 l)

  module _ (l : q.low.0 ≤ n.0) where
    pub low-unset : q.filled ≡ 0 → n.0 ≤ 0 → Ok tt ≡ soundness_of (sound_low q n.0)
    unfolding sound_low
    low-unset f z =
        let k : q.low.0 ≡ 0 = omega arith in
        rw (le-leb q.low.0 n.0 l, eq-eqb q.filled 0 f, eq-eqb q.low.0 0 k, eq-eqb n.0 0 (omega arith))

    pub low-unset-bytes : q.filled ≡ 0 → 0 < n.0 → Err Refusal.Damaged ≡ soundness_of (sound_low q n.0)
    unfolding sound_low
    low-unset-bytes f z =
        by (eqb q.low.0 0)
        (λ k. rw (le-leb q.low.0 n.0 l, eq-eqb q.filled 0 f, k, ne_eqb n.0 0 (λ e. omega arith)))
        (λ k. rw (le-leb q.low.0 n.0 l, eq-eqb q.filled 0 f, k))

    pub low-set : (q.filled ≡ 0 → ⊥) → q.filled ≡ 1 → Ok tt ≡ soundness_of (sound_low q n.0)
    unfolding sound_low
    low-set f g = rw (le-leb q.low.0 n.0 l, ne_eqb q.filled 0 f, eq-eqb q.filled 1 g)

    pub low-no-mark : (q.filled ≡ 0 → ⊥) → (q.filled ≡ 1 → ⊥) → Err Refusal.Damaged ≡ soundness_of (sound_low q n.0)
    unfolding sound_low
    low-no-mark f g = rw (le-leb q.low.0 n.0 l, ne_eqb q.filled 0 f, ne_eqb q.filled 1 g)

pub ruleset low-water-ways = (note-none, note-first, note-lower, note-kept, low-above, low-unset, low-unset-bytes, low-set, low-no-mark)

-- WHAT A SOUND ONE IS
pub record SoundLow (mark low n : ℕ) : Type 0 where
  pub below : low ≤ n
  pub bit : mark ≤ 1
  pub none_yet : mark ≡ 0 → n ≡ 0

pub low-facts : (q : LowWater) (n : ℕ) → sound_low q n ≡ true → SoundLow q.filled q.low.0 n
unfolding sound_low
low-facts q n e =
    let below = leb-true q.low.0 n (and_left (leb q.low.0 n) _ e) in
    let rest : cond (eqb q.filled 0) (eqb q.low.0 0 && eqb n 0) (eqb q.filled 1) ≡ true = and_right (leb q.low.0 n) _ e in
    by (eqb q.filled 0)
    (λ f. let z : (eqb q.low.0 0 && eqb n 0) ≡ true = rw f at rest in
    let k = eqb-true n 0 (and_right (eqb q.low.0 0) _ z) in
    let m = eqb-true q.filled 0 f in
    record { below = below; bit = omega arith; none_yet = λ g. k })
    (λ f. let z : eqb q.filled 1 ≡ true = rw f at rest in
    let k = eqb-true q.filled 1 z in
    record { below = below; bit = omega arith; none_yet = λ g. absurd (omega arith) })

-- an opening's
pub sound-unset : sound_low unset 0 ≡ true
unfolding sound_low
sound-unset = refl

-- what is noted is sound
pub sound-noted : (q : LowWater) (n : ℕ) → sound_low (noted q n) n ≡ true
unfolding sound_low
sound-noted q n =
    by (eqb q.filled 0)
    (λ f. by (eqb n 0)
    (λ z. rw (f, z, eqb-true n 0 z))
    (λ z. rw (f, z, le-leb n n (omega arith))))
    (λ f. by (ltb n q.low.0)
    (λ l. rw (f, l, le-leb n n (omega arith)))
    (λ l. rw (f, l, le-leb q.low.0 n (omega tests))))

-- it is sound exactly if noting the number that there is changes nothing
pub noted-same : (q : LowWater) (n : ℕ) → sound_low q n ≡ true → noted q n ≡ q
noted-same q n s =
    let w = low-facts q n s in
    by (eqb q.filled 0)
    (λ f. let k = eqb-true q.filled 0 f in
    let z = w.none_yet k in
    let l : n ≡ q.low.0 = omega (arith, w.below) in
    let m : 0 ≡ q.filled = sym k in
    rw (f, eq-eqb n 0 z) (λ i. record { filled = m i; low = record { 0 = l i } }))
    (λ f. let m : 1 ≡ q.filled = omega (tests, w.bit) in
    rw (f, le-ltb n q.low.0 w.below) (λ i. record { filled = m i; low = q.low }))

pub same-sound : (q : LowWater) (n : ℕ) → noted q n ≡ q → sound_low q n ≡ true
same-sound q n e = subst (λ (w : LowWater). sound_low w n ≡ true) e (sound-noted q n)
