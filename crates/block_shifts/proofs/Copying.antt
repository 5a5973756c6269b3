-- Pairs of a table copied one pair up or down, and all pairs set to 0. Assumes nothing.
use Prim.Native.Nat.{ℕ, zero, suc, ◌+◌, ◌-◌, ◌*◌, ◌/◌, ◌≤◌, ◌<◌}
use mathlib.Core.Bool.{true}
use mathlib.Core.List.{List, [], ◌∷◌, ◌++◌}
use mathlib.Core.Path.{◌≡◌, refl, sym, ap, ◌∙◌}
use native.Mathlib.Omega.{arith}
use lib.ListN.{length, take, drop}
use lib.Seq.{paste, paste-zero}
use Rattle.units.proofs.Tests.{conj}
use Rattle.model.specs.Marks.{Range, rng}
use Rattle.block_words.specs.Words.{capacity, pairs, all_zero, fill}
use Rattle.block_words.proofs.Filling.{fill-clear}
use Rattle.block_words.proofs.Pairs.{clear_at}
use Rattle.block_shifts.specs.inner.Shifts.{spliced}

-- a copy, one element further on
paste-front : (x : ℕ) (xs : List ℕ) (at : ℕ) (ys : List ℕ) (n : ℕ) → paste (x ∷ xs) (suc at) ys n ≡ x ∷ paste xs at ys n
paste-front x xs at ys n = let e : suc at + n ≡ suc (at + n) = omega arith in rw e

paste-next : (x y : ℕ) (xs ys : List ℕ) (n : ℕ) → paste (x ∷ xs) 0 (y ∷ ys) (suc n) ≡ y ∷ paste xs 0 ys n
paste-next x y xs ys n = let e : 0 + suc n ≡ suc (0 + n) = omega arith in rw e

-- words with the first n pairs of others
pub copy-pairs : (us ws : List ℕ) (n : ℕ) → n ≤ capacity us → n ≤ capacity ws → all_zero (drop (2 * n) ws) ≡ true → paste ws 0 us (2 * n) ≡ fill (pairs us n) ws
copy-pairs us ws zero k f c = sym (paste-zero ws 0 us) ∙ sym (fill-clear ws c)
copy-pairs [] ws (suc n) k f c = absurd (omega arith)
copy-pairs (a ∷ []) ws (suc n) k f c = absurd (omega arith)
copy-pairs (a ∷ b ∷ us) [] (suc n) k f c = absurd (omega arith)
copy-pairs (a ∷ b ∷ us) (w ∷ []) (suc n) k f c = absurd (omega arith)
copy-pairs (a ∷ b ∷ us) (w ∷ v ∷ ws) (suc n) k f c =
    let e : 2 * suc n ≡ suc (suc (2 * n)) = omega arith in
    rw e
    (paste-next w a (v ∷ ws) (b ∷ us) (suc (2 * n)) ∙ ap (λ (x : List ℕ). a ∷ x) (paste-next v b ws us (2 * n))
    ∙ ap (λ (x : List ℕ). a ∷ b ∷ x) (copy-pairs us ws n (omega arith) (omega arith) (rw e at c)))

-- and with one pair behind them as it was
last-on : (w v a b : ℕ) (us ws : List ℕ) (n : ℕ) (q : Range) → paste ws 0 us (2 * n) ≡ fill (pairs us n ++ q ∷ []) ws →
    paste (w ∷ v ∷ ws) 0 (a ∷ b ∷ us) (2 * suc n) ≡ fill (pairs (a ∷ b ∷ us) (suc n) ++ q ∷ []) (w ∷ v ∷ ws)
last-on w v a b us ws n q p =
    let e : 2 * suc n ≡ suc (suc (2 * n)) = omega arith in
    rw e
    (paste-next w a (v ∷ ws) (b ∷ us) (suc (2 * n)) ∙ ap (λ (x : List ℕ). a ∷ x) (paste-next v b ws us (2 * n))
    ∙ ap (λ (x : List ℕ). a ∷ b ∷ x) p)

copy-last : (us ws : List ℕ) (n : ℕ) → n ≤ capacity us → n < capacity ws → all_zero (drop (2 * suc n) ws) ≡ true →
    (q : Range) × (paste ws 0 us (2 * n) ≡ fill (pairs us n ++ q ∷ []) ws)
copy-last us [] n k f c = absurd (omega arith)
copy-last us (w ∷ []) n k f c = absurd (omega arith)
copy-last us (w ∷ v ∷ ws) zero k f c =
    (rng w v, sym (paste-zero (w ∷ v ∷ ws) 0 us) ∙ ap (λ (x : List ℕ). w ∷ v ∷ x) (sym (fill-clear ws c)))
copy-last [] (w ∷ v ∷ ws) (suc n) k f c = absurd (omega arith)
copy-last (a ∷ []) (w ∷ v ∷ ws) (suc n) k f c = absurd (omega arith)
copy-last (a ∷ b ∷ us) (w ∷ v ∷ ws) (suc n) k f c =
    let d : 2 * suc (suc n) ≡ suc (suc (2 * suc n)) = omega arith in
    let p = copy-last us ws n (omega arith) (omega arith) (rw d at c) in
    (p.0, last-on w v a b us ws n p.0 p.1)

-- the pairs from i on, one pair up
up-on : (w v : ℕ) (ws : List ℕ) (n i : ℕ) (q : Range) → i ≤ n →
    paste ws (2 * i + 2) (drop (2 * i) ws) (2 * n - 2 * i) ≡ fill (take i (pairs ws n) ++ q ∷ drop i (pairs ws n)) ws →
    paste (w ∷ v ∷ ws) (2 * suc i + 2) (drop (2 * suc i) (w ∷ v ∷ ws)) (2 * suc n - 2 * suc i)
    ≡ fill (take (suc i) (pairs (w ∷ v ∷ ws) (suc n)) ++ q ∷ drop (suc i) (pairs (w ∷ v ∷ ws) (suc n))) (w ∷ v ∷ ws)
up-on w v ws n i q h p =
    let a : 2 * suc i + 2 ≡ suc (suc (2 * i + 2)) = omega arith in
    let b : 2 * suc i ≡ suc (suc (2 * i)) = omega arith in
    let e : 2 * suc n - suc (suc (2 * i)) ≡ 2 * n - 2 * i = omega arith in
    rw (a, b, e)
    (paste-front w (v ∷ ws) (suc (2 * i + 2)) (drop (2 * i) ws) (2 * n - 2 * i)
    ∙ ap (λ (x : List ℕ). w ∷ x) (paste-front v ws (2 * i + 2) (drop (2 * i) ws) (2 * n - 2 * i))
    ∙ ap (λ (x : List ℕ). w ∷ v ∷ x) p)

pub copied-up : (ws : List ℕ) (n i : ℕ) → i ≤ n → n < capacity ws → all_zero (drop (2 * n) ws) ≡ true →
    (q : Range) × (paste ws (2 * i + 2) (drop (2 * i) ws) (2 * n - 2 * i) ≡ fill (take i (pairs ws n) ++ q ∷ drop i (pairs ws n)) ws)
copied-up [] n i h f c = absurd (omega arith)
copied-up (w ∷ []) n i h f c = absurd (omega arith)
copied-up (w ∷ v ∷ ws) n zero h f c =
    let e : 2 * n - 0 ≡ 2 * n = omega arith in
    let d : 2 * (n + 1) ≡ suc (suc (2 * n)) = omega arith in
    let t = sym (clear_at (w ∷ v ∷ ws) n f) ∙ c in
    let g : all_zero (drop (2 * (n + 1)) (w ∷ v ∷ ws)) ≡ true = search conj depth 8 in
    let z : all_zero (drop (2 * n) ws) ≡ true = rw d at g in (
      rng w v,
      rw e
          (paste-front w (v ∷ ws) 1 (w ∷ v ∷ ws) (2 * n) ∙ ap (λ (x : List ℕ). w ∷ x) (paste-front v ws 0 (w ∷ v ∷ ws) (2 * n))
          ∙ ap (λ (x : List ℕ). w ∷ v ∷ x) (copy-pairs (w ∷ v ∷ ws) ws n (omega arith) (omega arith) z)),
    )
copied-up (w ∷ v ∷ ws) zero (suc i) h f c = absurd (omega arith)
copied-up (w ∷ v ∷ ws) (suc n) (suc i) h f c =
    let d : 2 * suc n ≡ suc (suc (2 * n)) = omega arith in
    let p = copied-up ws n i (omega arith) (omega arith) (rw d at c) in
    (p.0, up-on w v ws n i p.0 (omega arith) p.1)

-- the pairs behind i, one pair down
down-on : (w v : ℕ) (ws : List ℕ) (n i : ℕ) (q : Range) → i < n →
    paste ws (2 * i) (drop (2 * i + 2) ws) (2 * n - (2 * i + 2)) ≡ fill (spliced (pairs ws n) i 1 [] ++ q ∷ []) ws →
    paste (w ∷ v ∷ ws) (2 * suc i) (drop (2 * suc i + 2) (w ∷ v ∷ ws)) (2 * suc n - (2 * suc i + 2))
    ≡ fill (spliced (pairs (w ∷ v ∷ ws) (suc n)) (suc i) 1 [] ++ q ∷ []) (w ∷ v ∷ ws)
down-on w v ws n i q h p =
    let a : 2 * suc i + 2 ≡ suc (suc (2 * i + 2)) = omega arith in
    let b : 2 * suc i ≡ suc (suc (2 * i)) = omega arith in
    let e : 2 * suc n - suc (suc (2 * i + 2)) ≡ 2 * n - (2 * i + 2) = omega arith in
    let s : suc i + 1 ≡ suc (i + 1) = omega arith in
    rw (a, b, e, s)
    (paste-front w (v ∷ ws) (suc (2 * i)) (drop (2 * i + 2) ws) (2 * n - (2 * i + 2))
    ∙ ap (λ (x : List ℕ). w ∷ x) (paste-front v ws (2 * i) (drop (2 * i + 2) ws) (2 * n - (2 * i + 2)))
    ∙ ap (λ (x : List ℕ). w ∷ v ∷ x) p)

pub copied-down : (ws : List ℕ) (n i : ℕ) → i < n → n ≤ capacity ws → all_zero (drop (2 * n) ws) ≡ true →
    (q : Range) × (paste ws (2 * i) (drop (2 * i + 2) ws) (2 * n - (2 * i + 2)) ≡ fill (spliced (pairs ws n) i 1 [] ++ q ∷ []) ws)
copied-down [] n i h f c = absurd (omega arith)
copied-down (w ∷ []) n i h f c = absurd (omega arith)
copied-down (w ∷ v ∷ ws) zero i h f c = absurd (omega arith)
copied-down (w ∷ v ∷ ws) (suc n) zero h f c =
    let e : 2 * suc n - 2 ≡ 2 * n = omega arith in
    rw e (copy-last ws (w ∷ v ∷ ws) n (omega arith) (omega arith) c)
copied-down (w ∷ v ∷ ws) (suc n) (suc i) h f c =
    let d : 2 * suc n ≡ suc (suc (2 * n)) = omega arith in
    let p = copied-down ws n i (omega arith) (omega arith) (rw d at c) in
    (p.0, down-on w v ws n i p.0 (omega arith) p.1)
