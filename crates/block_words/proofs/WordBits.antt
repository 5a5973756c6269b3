-- Words bit by bit: the top bit of a difference and of an AND, the bound of an OR, and an OR that is 0. Assumes nothing.
use Rattle.std.proofs.Common.{◌≡◌, ℕ, zero, suc, ◌+◌, ◌-◌, ◌/◌, ◌<◌, ◌≤◌, Bool, ◌&&◌, eqb, ltb, leb, sym, refl, ap, ◌∙◌, ap₂, arith, ltb-false, ltb-true, ne_eqb, eqb-true, le-leb, leb-false, leb-true}
use lib.Bits.{bit_and, bit_or, and_shr, or_add_and, and_le_l, and_le_r, or_zero_l}
use borrow.Author.Tests.{lt-leb, eqb-false}
use Rattle.units.proofs.Tests.{by}
use Rattle.block_words.specs.inner.Tallies.{below, top}

-- a difference is a word
pub below_word : (x y : ℕ) → below x y < 18446744073709551616
below_word x y = omega arith

-- of numbers below 2^63, its top bit tells which is lower
pub below_top : (x y : ℕ) → x < 9223372036854775808 → y < 9223372036854775808 → top (below x y) ≡ ltb x y
below_top x y h k =
    by (ltb x y)
    (λ e. let p = ltb-true x y e in rw e (le-leb 9223372036854775808 (below x y) (omega arith)))
    (λ e. let p = ltb-false x y e in rw e (lt-leb 9223372036854775808 (below x y) (omega arith)))

-- a size below 0 taken away is the size added
pub below-size : (s b l : ℕ) → b < l → l < 9223372036854775808 → s ≤ b → below s (below b l) ≡ s + (l - b)
below-size s b l h k r = omega arith

-- the top bit of an AND
and_one : (p q : ℕ) → p < 2 → q < 2 → leb 1 (bit_and p q) ≡ (leb 1 p && leb 1 q)
and_one zero q h k = refl
and_one (suc zero) zero h k = refl
and_one (suc zero) (suc zero) h k = refl
and_one (suc zero) (suc (suc q)) h k = absurd (omega arith)
and_one (suc (suc p)) q h k = absurd (omega arith)

top_one : (x : ℕ) → top x ≡ leb 1 (x / 9223372036854775808)
top_one x =
    by (top x)
    (λ e. let p = leb-true 9223372036854775808 x e in rw e (sym (le-leb 1 (x / 9223372036854775808) (omega arith))))
    (λ e. let p = leb-false 9223372036854775808 x e in rw e (sym (lt-leb 1 (x / 9223372036854775808) (omega arith))))

pub top-and : (x y : ℕ) → x < 18446744073709551616 → y < 18446744073709551616 → top (bit_and x y) ≡ (top x && top y)
top-and x y h k =
    top_one (bit_and x y)
    ∙ ap (leb 1) (and_shr x y 63)
    ∙ and_one (x / 9223372036854775808) (y / 9223372036854775808) (omega arith) (omega arith)
    ∙ ap₂ (λ (p q : Bool). p && q) (sym (top_one x)) (sym (top_one y))

-- a number is at most its OR with another
pub or-left-le : (x y : ℕ) → x ≤ bit_or x y
or-left-le x y = omega (arith, or_add_and x y, and_le_r x y)

pub or-right-le : (x y : ℕ) → y ≤ bit_or x y
or-right-le x y = omega (arith, or_add_and x y, and_le_l x y)

-- an OR is 0 exactly if both are
pub or-test : (p q : ℕ) → eqb (bit_or p q) 0 ≡ (eqb p 0 && eqb q 0)
or-test p q =
    by (eqb p 0)
    (λ e. let z = eqb-true p 0 e in rw (z, or_zero_l q))
    (λ e. rw e (ne_eqb (bit_or p q) 0 (λ z. omega (arith, eqb-false p 0 e, or-left-le p q))))
