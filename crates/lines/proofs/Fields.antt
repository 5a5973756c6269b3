-- A field that was read byte by byte is the number or the name that its bytes are. Assumes nothing.
use Prim.Native.Nat.{ℕ}
use mathlib.Core.Bool.{Bool, true, false, cond, ◌&&◌}
use mathlib.Core.List.{List, [], ◌∷◌}
use mathlib.Core.Path.{◌≡◌, refl, sym, ap, subst⁻¹, ◌∙◌}
use native.Mathlib.Omega.{arith}
use lib.Dec.{eqb, leb, ltb}
use borrow.Author.Tests.{eq-eqb, eqb-true, le-leb, lt-leb}
use Rattle.units.proofs.Tests.{by, clash, and_left, and_right}
use Rattle.lines.specs.Requests.{word_limit, every, is_digit, number, same, value_from}
use Rattle.lines.specs.inner.Reading.{is_letter, as_name, as_number, name_with, number_with, pack_from, is_packed, name_in, number_in}
use Rattle.lines.specs.declared.Field.{Field}
use Rattle.std.specs.Prelude.{Option, Some, None}
use Rattle.lines.proofs.Numerals.{grown-all, named, counted, read_name, read_number}
use Rattle.lines.proofs.Packing.{pack-apart, same_refl, same-eq, letter-low}

-- the field that some bytes are
abbrev pub field_of : List ℕ → Field
field_of bs = grown-all Field.Empty bs

module _ (b : ℕ) (bs : List ℕ) where
  letter-first : is_letter b ≡ true → field_of (b ∷ bs) ≡ grown-all (Field.Name 0) (b ∷ bs)
  letter-first e = ap (λ (f : Field). grown-all f bs) (chosen (is_letter b) e)
    where
      chosen : (t : Bool) → t ≡ true → cond t (name_with 0 b) (number_with 0 b) ≡ name_with 0 b
      chosen t e = rw e

  other-first : is_letter b ≡ false → field_of (b ∷ bs) ≡ grown-all (Field.Number 0) (b ∷ bs)
  other-first e = ap (λ (f : Field). grown-all f bs) (chosen (is_letter b) e)
    where
      chosen : (t : Bool) → t ≡ false → cond t (name_with 0 b) (number_with 0 b) ≡ number_with 0 b
      chosen t e = rw e

-- what a name or a number that was read is not
name-no-number : (g : Option ℕ) → number_in (as_name g) ≡ None
name-no-number (Some w) = refl
name-no-number None = refl

number-no-name : (g : Option ℕ) (n : ℕ) → is_packed (as_number g) n ≡ false
number-no-name (Some v) n = refl
number-no-name None n = refl

number-as : (b : ℕ) (bs : List ℕ) → number_in (as_number (counted (b ∷ bs))) ≡ number (b ∷ bs)
number-as b bs =
    by (every is_digit (b ∷ bs))
    (λ d. by (ltb (value_from 0 (b ∷ bs)) word_limit) (λ t. rw (d, t)) (λ t. rw (d, t)))
    (λ d. rw d)

letter-no-digit : (b : ℕ) → is_letter b ≡ true → is_digit b ≡ false
letter-no-digit b e =
    let h : leb b 57 ≡ false = lt-leb b 57 (omega (arith, letter-low b e)) in
    let k : leb 48 b ≡ true = le-leb 48 b (omega (arith, letter-low b e)) in
    rw (k, h)

pub number_read : (bs : List ℕ) → number_in (field_of bs) ≡ number bs
number_read [] = refl
number_read (b ∷ bs) =
    by (is_letter b)
    (λ e.
    let h : number_in (field_of (b ∷ bs)) ≡ None = ap number_in (letter-first b bs e ∙ read_name (b ∷ bs)) ∙ name-no-number (named (b ∷ bs)) in
    h ∙ sym (no_number (letter-no-digit b e)))
    (λ e. ap number_in (other-first b bs e ∙ read_number (b ∷ bs)) ∙ number-as b bs)
  where
    no_number : is_digit b ≡ false → number (b ∷ bs) ≡ None
    no_number e = rw e

-- a text of letters that a name can be
abbrev pub nameable : List ℕ → Bool
nameable [] = false
nameable (b ∷ bs) = every is_letter (b ∷ bs) && ltb (pack_from 0 (b ∷ bs)) word_limit

is-as : (t : Bool) (w n : ℕ) → is_packed (as_name (cond t (Some w) None)) n ≡ (t && eqb w n)
is-as true w n = refl
is-as false w n = refl

name-letter : (b : ℕ) (bs : List ℕ) (n : ℕ) → is_letter b ≡ true → is_packed (field_of (b ∷ bs)) n ≡ (nameable (b ∷ bs) && eqb (pack_from 0 (b ∷ bs)) n)
name-letter b bs n e =
    ap (λ (f : Field). is_packed f n) (letter-first b bs e ∙ read_name (b ∷ bs)) ∙ is-as (nameable (b ∷ bs)) (pack_from 0 (b ∷ bs)) n

name-other : (b : ℕ) (bs : List ℕ) (n : ℕ) → is_letter b ≡ false → is_packed (field_of (b ∷ bs)) n ≡ false
name-other b bs n e = ap (λ (f : Field). is_packed f n) (other-first b bs e ∙ read_number (b ∷ bs)) ∙ number-no-name (counted (b ∷ bs)) n

-- letters of a nameable text
all-letters : (bs : List ℕ) → nameable bs ≡ true → every is_letter bs ≡ true
all-letters [] e = refl
all-letters (b ∷ bs) e = and_left (every is_letter (b ∷ bs)) _ e

both : {p q : Bool} → p ≡ true → q ≡ true → (p && q) ≡ true
both e f = rw (e, f)

name-is : (t : List ℕ) → nameable t ≡ true → name_in (field_of t) t ≡ true
name-is [] e = e
name-is (b ∷ bs) e =
    name-letter b bs (pack_from 0 (b ∷ bs)) (and_left (is_letter b) (every is_letter bs) (all-letters (b ∷ bs) e)) ∙
    both e (eq-eqb (pack_from 0 (b ∷ bs)) (pack_from 0 (b ∷ bs)) refl)

name-only : (bs t : List ℕ) → nameable t ≡ true → name_in (field_of bs) t ≡ true → bs ≡ t
name-only [] t e h = clash h refl
name-only (b ∷ bs) t e h =
    by (is_letter b)
    (λ f.
    let k : (nameable (b ∷ bs) && eqb (pack_from 0 (b ∷ bs)) (pack_from 0 t)) ≡ true = sym (name-letter b bs (pack_from 0 t) f) ∙ h in
    pack-apart (b ∷ bs) t (all-letters (b ∷ bs) (and_left (nameable (b ∷ bs)) _ k)) (all-letters t e)
    (eqb-true (pack_from 0 (b ∷ bs)) (pack_from 0 t) (and_right (nameable (b ∷ bs)) _ k)))
    (λ f. clash h (name-other b bs (pack_from 0 t) f))

sames : (bs t : List ℕ) → bs ≡ t → same bs t ≡ true
sames bs t e = rw e (same_refl t)

pub name-read : (bs t : List ℕ) → nameable t ≡ true → name_in (field_of bs) t ≡ same bs t
name-read bs t e =
    by (same bs t)
    (λ s. subst⁻¹ (λ (l : List ℕ). name_in (field_of l) t ≡ same bs t) (same-eq bs t s) (name-is t e ∙ sym s))
    (λ s. by (name_in (field_of bs) t) (λ h. clash (sames bs t (name-only bs t e h)) s) (λ h. h ∙ sym s))
