-- Letters as a number to the base 256: no two texts make the same number. Assumes nothing.
use Prim.Native.Nat.{ℕ, ◌+◌, ◌*◌, ◌≤◌}
use mathlib.Core.Bool.{Bool, true}
use mathlib.Core.List.{List, [], ◌∷◌, reverse_aux, reverse, reverse-reverse}
use mathlib.Core.Path.{◌≡◌, refl, sym, ap, ◌∙◌}
use native.Mathlib.Omega.{arith}
use lib.Dec.{eqb}
use borrow.Author.Tests.{eq-eqb, eqb-true}
use Rattle.units.proofs.Tests.{and_left, and_right, conj, clash}
use Rattle.lines.specs.Requests.{every, same}
use Rattle.lines.specs.inner.Reading.{is_letter, pack_from}

-- the last letter first
abbrev packed : List ℕ → ℕ
packed [] = 0
packed (b ∷ bs) = packed bs * 256 + b

turned : (done bs : List ℕ) → pack_from (packed done) bs ≡ packed (reverse_aux bs done)
turned done [] = refl
turned done (b ∷ bs) = turned (b ∷ done) bs

every-turned : (t : ℕ → Bool) (done bs : List ℕ) → every t done ≡ true → every t bs ≡ true → every t (reverse_aux bs done) ≡ true
every-turned t done [] d e = d
every-turned t done (b ∷ bs) d e =
    every-turned t (b ∷ done) bs (rw (and_left (t b) (every t bs) e) d) (and_right (t b) (every t bs) e)

pub letter-low : (b : ℕ) → is_letter b ≡ true → 97 ≤ b
letter-low b e = search conj

letter-high : (b : ℕ) → is_letter b ≡ true → b ≤ 122
letter-high b e = search conj

packed-apart : (xs ys : List ℕ) → every is_letter xs ≡ true → every is_letter ys ≡ true → packed xs ≡ packed ys → xs ≡ ys
packed-apart [] [] p q e = refl
packed-apart [] (y ∷ ys) p q e = absurd (omega (arith, letter-low y (and_left (is_letter y) (every is_letter ys) q)))
packed-apart (x ∷ xs) [] p q e = absurd (omega (arith, letter-low x (and_left (is_letter x) (every is_letter xs) p)))
packed-apart (x ∷ xs) (y ∷ ys) p q e =
    let a : x ≤ 122 = letter-high x (and_left (is_letter x) (every is_letter xs) p) in
    let b : y ≤ 122 = letter-high y (and_left (is_letter y) (every is_letter ys) q) in
    let h : x ≡ y = omega arith in
    let k : packed xs ≡ packed ys = omega arith in
    let t : xs ≡ ys = packed-apart xs ys (and_right (is_letter x) (every is_letter xs) p) (and_right (is_letter y) (every is_letter ys) q) k in
    rw (h, t)

pub pack-apart : (xs ys : List ℕ) → every is_letter xs ≡ true → every is_letter ys ≡ true → pack_from 0 xs ≡ pack_from 0 ys → xs ≡ ys
pack-apart xs ys p q e =
    let h : reverse xs ≡ reverse ys =
    packed-apart (reverse xs) (reverse ys) (every-turned is_letter [] xs refl p) (every-turned is_letter [] ys refl q)
    (sym (turned [] xs) ∙ (e ∙ turned [] ys)) in
    sym (reverse-reverse xs) ∙ (ap (λ (l : List ℕ). reverse l) h ∙ reverse-reverse ys)

-- the same text
pub same_refl : (xs : List ℕ) → same xs xs ≡ true
same_refl [] = refl
same_refl (x ∷ xs) = rw (eq-eqb x x refl) (same_refl xs)

pub same-eq : (xs ys : List ℕ) → same xs ys ≡ true → xs ≡ ys
same-eq [] [] e = refl
same-eq [] (y ∷ ys) e = clash e refl
same-eq (x ∷ xs) [] e = clash e refl
same-eq (x ∷ xs) (y ∷ ys) e =
    let h : x ≡ y = eqb-true x y (and_left (eqb x y) (same xs ys) e) in
    let t : xs ≡ ys = same-eq xs ys (and_right (eqb x y) (same xs ys) e) in
    rw (h, t)
