-- Digits to a base, taken one by one: a name and a number are read by the same law. Assumes nothing.
use Prim.Native.Nat.{ℕ, ◌+◌, ◌*◌, ◌-◌, ◌≤◌, ◌<◌}
use mathlib.Core.Bool.{Bool, cond, ◌&&◌, and-false}
use mathlib.Core.List.{List, [], ◌∷◌}
use mathlib.Core.Path.{◌≡◌, refl, ap, ◌∙◌}
use native.Mathlib.Nat.{le-mul_of_pos_right}
use native.Mathlib.Omega.{arith}
use lib.Dec.{ltb}
use borrow.Author.Tests.{lt-ltb, le-ltb}
use Rattle.units.proofs.Tests.{by, tests}
use Rattle.lines.specs.Requests.{word_limit, every, is_digit, value_from}
use Rattle.lines.specs.inner.Reading.{is_letter, with_digit, as_name, as_number, grown, pack_from}
use Rattle.lines.specs.declared.Field.{Field}
use Rattle.std.specs.Prelude.{Option, Some, None}

-- the field after some bytes
abbrev pub grown-all : Field → List ℕ → Field
grown-all f [] = f
grown-all f (b ∷ bs) = grown-all (grown f b) bs

-- digits to a base: which bytes are digits, and what each counts
module _ (base : ℕ) (digit : ℕ → Bool) (count : ℕ → ℕ) where
  abbrev pub worth : ℕ → List ℕ → ℕ
  worth v [] = v
  worth v (b ∷ bs) = worth (v * base + count b) bs

  abbrev pub after : Option ℕ → ℕ → Option ℕ
  after (Some v) b = cond (digit b) (with_digit base v (count b)) None
  after None b = None

  abbrev pub after-all : Option ℕ → List ℕ → Option ℕ
  after-all g [] = g
  after-all g (b ∷ bs) = after-all (after g b) bs

  -- all of them are digits, and their number fits
  abbrev pub fits : ℕ → List ℕ → Bool
  fits v bs = every digit bs && ltb (worth v bs) word_limit

  over-stays : (bs : List ℕ) → after-all None bs ≡ None
  over-stays [] = refl
  over-stays (b ∷ bs) = over-stays bs

  module _ (p : 0 < base) where
    worth-grows : (v : ℕ) (bs : List ℕ) → v ≤ worth v bs
    worth-grows v [] = omega arith
    worth-grows v (b ∷ bs) = omega (arith, le-mul_of_pos_right v p, worth-grows (v * base + count b) bs)

    pub digits : (v : ℕ) (bs : List ℕ) → v < word_limit →
        after-all (Some v) bs ≡ cond (fits v bs) (Some (worth v bs)) None
    digits v [] h = rw (lt-ltb v word_limit h)
    digits v (b ∷ bs) h =
        by (digit b)
        (λ d. by (ltb (v * base + count b) word_limit)
        (λ e. rw (d, e) (digits (v * base + count b) bs (omega tests)))
        (λ e.
        let m : word_limit ≤ worth (v * base + count b) bs = omega (tests, worth-grows (v * base + count b) bs) in
        rw (d, e, le-ltb (worth (v * base + count b) bs) word_limit m, and-false (every digit bs)) (over-stays bs)))
        (λ d. rw d (over-stays bs))

-- a field is read as its digits are
module _ (base : ℕ) (digit : ℕ → Bool) (count : ℕ → ℕ) (field : Option ℕ → Field)
    (step : (g : Option ℕ) (b : ℕ) → grown (field g) b ≡ field (after base digit count g b)) where
  read_as : (g : Option ℕ) (bs : List ℕ) → grown-all (field g) bs ≡ field (after-all base digit count g bs)
  read_as g [] = refl
  read_as g (b ∷ bs) = ap (λ (f : Field). grown-all f bs) (step g b) ∙ read_as (after base digit count g b) bs

  pub read-digits : 0 < base → (bs : List ℕ) →
      grown-all (field (Some 0)) bs ≡ field (cond (fits base digit count 0 bs) (Some (worth base digit count 0 bs)) None)
  read-digits p bs = read_as (Some 0) bs ∙ ap field (digits base digit count p 0 bs (omega arith))

-- the two kinds of digits: letters count as they are, decimal digits from 48 on
abbrev pub as_is : ℕ → ℕ
as_is b = b

abbrev pub from_zero : ℕ → ℕ
from_zero b = b - 48

pub worth-letters : (w : ℕ) (bs : List ℕ) → worth 256 is_letter as_is w bs ≡ pack_from w bs
worth-letters w [] = refl
worth-letters w (b ∷ bs) = worth-letters (w * 256 + b) bs

pub worth-decimal : (v : ℕ) (bs : List ℕ) → worth 10 is_digit from_zero v bs ≡ value_from v bs
worth-decimal v [] = refl
worth-decimal v (b ∷ bs) = worth-decimal (v * 10 + (b - 48)) bs

name-step : (g : Option ℕ) (b : ℕ) → grown (as_name g) b ≡ as_name (after 256 is_letter as_is g b)
name-step (Some w) b = by (is_letter b) (λ e. rw e) (λ e. rw e)
name-step None b = refl

number_step : (g : Option ℕ) (b : ℕ) → grown (as_number g) b ≡ as_number (after 10 is_digit from_zero g b)
number_step (Some v) b = by (is_digit b) (λ e. rw e) (λ e. rw e)
number_step None b = refl

-- the number of some letters, and of some decimal digits
abbrev pub named : List ℕ → Option ℕ
named bs = cond (every is_letter bs && ltb (pack_from 0 bs) word_limit) (Some (pack_from 0 bs)) None

abbrev pub counted : List ℕ → Option ℕ
counted bs = cond (every is_digit bs && ltb (value_from 0 bs) word_limit) (Some (value_from 0 bs)) None

pub read_name : (bs : List ℕ) → grown-all (Field.Name 0) bs ≡ as_name (named bs)
read_name bs = rw (← worth-letters 0 bs) (read-digits 256 is_letter as_is as_name name-step (omega arith) bs)

pub read_number : (bs : List ℕ) → grown-all (Field.Number 0) bs ≡ as_number (counted bs)
read_number bs = rw (← worth-decimal 0 bs) (read-digits 10 is_digit from_zero as_number number_step (omega arith) bs)
