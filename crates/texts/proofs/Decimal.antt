-- The text of a number: its length, its digits, and that it is read as that number. Assumes nothing.
use Prim.Native.Nat.{ℕ, zero, suc, ◌+◌, ◌-◌, ◌*◌, ◌/◌, ◌%◌, ◌^◌, ◌≤◌, ◌<◌}
use mathlib.Core.Bool.{true}
use mathlib.Core.List.{List, [], ◌∷◌}
use Rattle.std.specs.Prelude.{Some}
use mathlib.Core.Path.{◌≡◌, refl, ap, ◌∙◌}
use native.Mathlib.Omega.{arith}
use native.Mathlib.Nat.{pow-suc}
use lib.Dec.{ltb}
use lib.ListN.{length}
use borrow.Author.Tests.{le-leb, lt-ltb}
use Rattle.units.proofs.Tests.{by, tests}
use Rattle.lines.specs.Requests.{word_limit, every, is_digit, value_from, number}
use Rattle.texts.specs.Decimal.{spelled, behind_first, decimal}

-- the value
value-first : (b n : ℕ) (t : List ℕ) → 0 * 10 + (b - 48) ≡ n → value_from 0 (b ∷ t) ≡ value_from n t
value-first b n t e = ap (λ (v : ℕ). value_from v t) e

value-then : (k m b n : ℕ) (t : List ℕ) → value_from 0 (spelled k m (b ∷ t)) ≡ value_from m (b ∷ t) → m * 10 + (b - 48) ≡ n →
    value_from 0 (spelled k m (b ∷ t)) ≡ value_from n t
value-then k m b n t h e = h ∙ ap (λ (v : ℕ). value_from v t) e

spell-value : (k n : ℕ) (t : List ℕ) → value_from 0 (spelled k n t) ≡ value_from n t
spell-value zero n t = value-first (48 + n) n t (omega arith)
spell-value (suc k) n t =
    by (ltb n 10) (λ q. rw q (value-first (48 + n) n t (omega arith)))
    (λ q. rw q (value-then k _ _ n t (spell-value k _ _) (omega arith)))

-- the digits
digit : (b : ℕ) (t : List ℕ) → 48 ≤ b → b ≤ 57 → every is_digit t ≡ true → every is_digit (b ∷ t) ≡ true
digit b t p q e = rw (le-leb 48 b p, le-leb b 57 q, e)

spell-digits : (k n : ℕ) (t : List ℕ) → n < 10 ^ suc k → every is_digit t ≡ true → every is_digit (spelled k n t) ≡ true
spell-digits zero n t p e = digit (48 + n) t (omega arith) (omega arith) e
spell-digits (suc k) n t p e =
    let w = pow-suc 10 (suc k) in
    by (ltb n 10) (λ q. rw q (digit (48 + n) t (omega arith) (omega tests) e))
    (λ q. rw q (spell-digits k _ _ (omega arith) (digit (48 + n % 10) t (omega arith) (omega arith) e)))

-- the length
pub spell-longer : (k n : ℕ) (t : List ℕ) → 1 + length t ≤ length (spelled k n t)
spell-longer zero n t = omega arith
spell-longer (suc k) n t =
    by (ltb n 10) (λ e. rw e (omega arith))
    (λ e. rw e (let h = spell-longer k (n / 10) ((48 + n % 10) ∷ t) in omega arith))

pub spell-most : (k n : ℕ) (t : List ℕ) → length (spelled k n t) ≤ k + 1 + length t
spell-most zero n t = omega arith
spell-most (suc k) n t =
    by (ltb n 10) (λ e. rw e (omega arith))
    (λ e. rw e (let h = spell-most k (n / 10) ((48 + n % 10) ∷ t) in omega arith))

pub decimal-some : (n : ℕ) → 1 ≤ length (decimal n)
unfolding decimal
decimal-some n = spell-longer behind_first n []

pub decimal-most : (n : ℕ) → length (decimal n) ≤ 20
unfolding decimal
decimal-most n = let h = spell-most behind_first n [] in omega arith

decimal-digits : (n : ℕ) → n < word_limit → every is_digit (decimal n) ≡ true
unfolding decimal
decimal-digits n p = spell-digits behind_first n [] (omega arith) refl

decimal-value : (n : ℕ) → value_from 0 (decimal n) ≡ n
unfolding decimal
decimal-value n = spell-value behind_first n []

-- a number of 64 bits as text is read as that number
number_of : (n : ℕ) (t : List ℕ) → 1 ≤ length t → every is_digit t ≡ true → value_from 0 t ≡ n → n < word_limit → number t ≡ Some n
number_of n [] k d v m = absurd (omega arith)
number_of n (b ∷ bs) k d v m = rw (d, v, lt-ltb n word_limit m)

pub decimal-number : (n : ℕ) → n < word_limit → number (decimal n) ≡ Some n
decimal-number n m = number_of n (decimal n) (decimal-some n) (decimal-digits n m) (decimal-value n) m
