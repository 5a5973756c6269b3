-- The digits of a number taken one by one, the last one first. Assumes nothing.
use Prim.Native.Nat.{ℕ, zero, suc, ◌+◌, ◌*◌, ◌/◌, ◌%◌, ◌^◌, ◌≤◌, ◌<◌}
use mathlib.Core.List.{List, [], ◌∷◌}
use mathlib.Core.Path.{◌≡◌, refl, sym, ◌∙◌}
use native.Mathlib.Omega.{arith}
use native.Mathlib.Nat.{pow-suc}
use lib.ListN.{length}
use borrow.Author.Tests.{lt-ltb, le-ltb}
use Rattle.texts.specs.Decimal.{spelled, behind_first, decimal}
use Rattle.texts.proofs.Decimal.{spell-longer}

-- one digit
pub spell-end : (k n : ℕ) (t : List ℕ) → n ≤ 9 → spelled k n t ≡ (48 + n) ∷ t
spell-end zero n t p = refl
spell-end (suc k) n t p = rw (lt-ltb n 10 (omega arith))

-- the last digit of several
pub spell-more : (k n : ℕ) (t : List ℕ) → 9 < n → spelled (suc k) n t ≡ spelled k (n / 10) ((48 + n % 10) ∷ t)
spell-more k n t p = rw (le-ltb n 10 (omega arith))

-- the digits of rest in front of a text are the number n
pub record Front (n rest : ℕ) (text : List ℕ) : Type 0 where
  pub fuel : ℕ
  pub fits : rest < 10 ^ suc fuel
  pub is : spelled fuel rest text ≡ decimal n

pub front-start : (n : ℕ) → n < 18446744073709551616 → Front n n []
unfolding decimal
front-start n p = record { fuel = behind_first; fits = omega arith; is = refl }

next-fuel : (k n rest : ℕ) (t : List ℕ) → 9 < rest → rest < 10 ^ suc k → spelled k rest t ≡ decimal n → Front n (rest / 10) ((48 + rest % 10) ∷ t)
next-fuel zero n rest t p f e = absurd (omega arith)
next-fuel (suc k) n rest t p f e =
    let w = pow-suc 10 (suc k) in
    record { fuel = k; fits = omega arith; is = sym (spell-more k rest t p) ∙ e }

pub front-next : (n rest : ℕ) (t : List ℕ) → Front n rest t → 9 < rest → Front n (rest / 10) ((48 + rest % 10) ∷ t)
front-next n rest t h p = next-fuel h.fuel n rest t p h.fits h.is

pub front-done : (n rest : ℕ) (t : List ℕ) → Front n rest t → rest ≤ 9 → decimal n ≡ (48 + rest) ∷ t
front-done n rest t h p = sym h.is ∙ spell-end h.fuel rest t p

pub front-longer : (n rest : ℕ) (t : List ℕ) → Front n rest t → 1 + length t ≤ length (decimal n)
front-longer n rest t h = rw (← h.is) (spell-longer h.fuel rest t)

-- how many digits there are
pow-some : (k : ℕ) → 0 < 10 ^ k
pow-some zero = omega arith
pow-some (suc k) = let w = pow-suc 10 k in let h = pow-some k in omega arith

spell-places : (f k n : ℕ) (t : List ℕ) → 10 ^ k ≤ n → n < 10 * 10 ^ k → k ≤ f → length (spelled f n t) ≡ k + 1 + length t
spell-places zero zero n t p q r = omega arith
spell-places zero (suc k) n t p q r = absurd (omega arith)
spell-places (suc f) zero n t p q r = rw (lt-ltb n 10 (omega arith)) (omega arith)
spell-places (suc f) (suc k) n t p q r =
    let w = pow-suc 10 k in
    let one : 0 < 10 ^ k = pow-some k in
    rw (le-ltb n 10 (omega arith)) (let h = spell-places f k (n / 10) ((48 + n % 10) ∷ t) (omega arith) (omega arith) (omega arith) in omega arith)

pub decimal_places : (n k : ℕ) → 10 ^ k ≤ n → n < 10 * 10 ^ k → k < 20 → k + 1 ≡ length (decimal n)
unfolding decimal
decimal_places n k p q r = let h = spell-places behind_first k n [] p q (omega arith) in omega arith

pub one_place : (n : ℕ) → n < 10 → 1 ≡ length (decimal n)
unfolding decimal
one_place n p = rw (spell-end behind_first n [] (omega arith)) refl
