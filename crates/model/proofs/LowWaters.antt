-- Low water, noted after each accepted call, is the least of the free bytes that count: one law on a list of numbers (`none_yet`,
-- `one_more`), and its instances. Assumes nothing.
use mathlib.Core.Path.{◌≡◌, refl, ap, ◌∙◌, subst}
use mathlib.Core.Bool.{Bool, true, false, cond}
use mathlib.Core.List.{List, [], ◌∷◌, ◌++◌, append-nil, append_assoc}
use mathlib.Core.Logic.{◌⊎◌, inl, inr}
use Prim.Native.Nat.{ℕ, ◌≤◌}
use native.Mathlib.Omega.{arith}
use lib.Dec.{ltb, eqb}
use borrow.Author.Tests.{eqb-true, eqb-false}
use Rattle.units.specs.declared.low_water.LowWater.{LowWater}
use Rattle.units.specs.LowWater.{unset, noted}
use Rattle.units.proofs.Tests.{by, tests}
use Rattle.units.proofs.LowWaters.{low-facts, same-sound, noted-same, sound-noted}
use Rattle.model.specs.Marks.{Range, total}
use Rattle.model.specs.Calls.{Call, Outcome}
use Rattle.model.specs.inner.Steps.{list_ops, step}
use Rattle.model.specs.Layouts.{holding, Rules}
use Rattle.model.specs.Histories.{note_after, expected}
use Rattle.model.specs.Lands.{Shown, land_answers, LandLayout, land_call}
use Rattle.model.specs.inner.Laws.{LandLaws}
use Rattle.model.specs.LowWater.{from_first, lesser, least_from, least, some_of, counted, LowNow, with_call, LowsTrue, Closings, begins, closes, LowOverClosings}

-- THE LEAST IS ONE OF THEM, AND NOT ABOVE ANY
abbrev pub Among : ℕ → List ℕ → Type 0
Among n [] = ⊥
Among n (m ∷ ms) = (n ≡ m) ⊎ Among n ms

pub record IsLeast (n : ℕ) (ns : List ℕ) : Type 0 where
  pub among : Among n ns
  pub below : (m : ℕ) → Among m ns → n ≤ m

lesser-below : (m n k : ℕ) → k ≤ lesser m n → (k ≤ m) × (k ≤ n)
lesser-below m n k e =
    by (ltb n m)
    (λ t. let z : k ≤ n = rw t at e in (omega tests, z))
    (λ t. let z : k ≤ m = rw t at e in (z, omega tests))

least-low : (m : ℕ) (ns : List ℕ) → (least_from m ns ≤ m) × ((k : ℕ) → Among k ns → least_from m ns ≤ k)
least-low m [] = (omega arith, λ k e. absurd e)
least-low m (n ∷ ns) =
    let r = least-low (lesser m n) ns in
    let b = lesser-below m n (least_from (lesser m n) ns) r.0 in
    (b.0, λ k e. up k e b.1 (r.1 k))
  where
    up : (k : ℕ) → (k ≡ n) ⊎ Among k ns → least_from (lesser m n) ns ≤ n → (Among k ns → least_from (lesser m n) ns ≤ k) → least_from (lesser m n) ns ≤ k
    up k (inl e) b r = omega arith
    up k (inr e) b r = r e

least-in : (m : ℕ) (ns : List ℕ) → Among (least_from m ns) (m ∷ ns)
least-in m [] = inl refl
least-in m (n ∷ ns) =
    by (ltb n m)
    (λ t. let z : least_from n ns ≡ least_from m (n ∷ ns) = rw t refl in subst (λ k. Among k (m ∷ n ∷ ns)) z (inr (least-in n ns)))
    (λ t. let z : least_from m ns ≡ least_from m (n ∷ ns) = rw t refl in subst (λ k. Among k (m ∷ n ∷ ns)) z (skip (least-in m ns)))
  where
    skip : {k : ℕ} → Among k (m ∷ ns) → Among k (m ∷ n ∷ ns)
    skip (inl e) = inl e
    skip (inr e) = inr (inr e)

pub least-is : (m : ℕ) (ns : List ℕ) → IsLeast (least (m ∷ ns)) (m ∷ ns)
least-is m ns = let r = least-low m ns in record { among = least-in m ns; below = λ k e. at k e r.0 (r.1 k) }
  where
    at : (k : ℕ) → (k ≡ m) ⊎ Among k ns → least_from m ns ≤ m → (Among k ns → least_from m ns ≤ k) → least_from m ns ≤ k
    at k (inl e) b r = omega arith
    at k (inr e) b r = r e

-- THE LAW
-- the mark and low water w are those of the free bytes ns, from q
pub record Holds (q : LowWater) (ns : List ℕ) (w : LowWater) : Type 0 where
  pub mark : w.filled ≡ some_of (counted q ns)
  pub low : w.low.0 ≡ least (counted q ns)

-- those that count, with one more
abbrev grown : List ℕ → ℕ → List ℕ
grown [] n = from_first (n ∷ [])
grown (m ∷ ms) n = m ∷ (ms ++ (n ∷ []))

first_more : (ns : List ℕ) (n : ℕ) → from_first (ns ++ (n ∷ [])) ≡ grown (from_first ns) n
first_more [] n = refl
first_more (m ∷ ms) n = by (eqb m 0) (λ e. rw e (first_more ms n)) (λ e. rw e)

counted-more : (q : LowWater) (ns : List ℕ) (n : ℕ) → counted q (ns ++ (n ∷ [])) ≡ grown (counted q ns) n
counted-more q ns n = by (eqb q.filled 0) (λ e. rw e (first_more ns n)) (λ e. rw e)

least_more : (m : ℕ) (ms : List ℕ) (n : ℕ) → least_from m (ms ++ (n ∷ [])) ≡ lesser (least_from m ms) n
least_more m [] n = refl
least_more m (k ∷ ks) n = least_more (lesser m k) ks n

grown-holds : (xs : List ℕ) (n : ℕ) (w : LowWater) → w.filled ≡ some_of xs → w.low.0 ≡ least xs →
    ((noted w n).filled ≡ some_of (grown xs n)) × ((noted w n).low.0 ≡ least (grown xs n))
grown-holds [] n w f l =
    by (eqb n 0)
    (λ e. (rw (f, e), rw (f, e) (eqb-true n 0 e)))
    (λ e. (rw (f, e), rw (f, e)))
grown-holds (m ∷ ms) n w f l = (rw f, rw (f, l, least_more m ms n))

pub none_yet : (q : LowWater) → q.filled ≤ 1 → (q.filled ≡ 0 → q.low.0 ≡ 0) → Holds q [] q
none_yet q b z =
    by (eqb q.filled 0)
    (λ e. let k = eqb-true q.filled 0 e in record { mark = rw e k; low = rw e (z k) })
    (λ e. record { mark = rw e (omega tests); low = rw e })

pub one_more : (q : LowWater) (ns : List ℕ) (w : LowWater) (n : ℕ) → Holds q ns w → Holds q (ns ++ (n ∷ [])) (noted w n)
one_more q ns w n h =
    let g = grown-holds (counted q ns) n w h.mark h.low in
    record { mark = rw (counted-more q ns n) g.0; low = rw (counted-more q ns n) g.1 }

-- a note that stays as it is beside n free bytes begins well
pub begins-well : (q : LowWater) (n : ℕ) → noted q n ≡ q → Holds q [] q
begins-well q n e =
    let w = low-facts q n (same-sound q n e) in
    none_yet q w.bit (λ z. let k = w.none_yet z in omega (arith, w.below))

-- ANY CLOSINGS
pub low-over-closings : {H : Type 0} (R : LandLayout H) → ((h : H) (rs : List Range) → R.noted (R.close h rs) ≡ noted (R.noted h) (total rs)) → LowOverClosings R
low-over-closings {H} R close h g ns b z c = let t = go g ns c in (t.low, t.mark)
  where
    go : (g : H) (ns : List ℕ) → Closings R h ns g → Holds (R.noted h) ns (R.noted g)
    go g ns begins = none_yet (R.noted h) b z
    go g ns (closes {g = g'} {ns = ns'} c rs) = rw (close g' rs) (one_more (R.noted h) ns' (R.noted g') (total rs) (go g' ns' c))

-- some closings after others
pub closings-then : {H : Type 0} (R : LandLayout H) {h g k : H} {ns ms : List ℕ} → Closings R h ns g → Closings R g ms k → Closings R h (ns ++ ms) k
closings-then R {h = h} {ns = ns} c begins = rw (append-nil ns) c
closings-then R {h = h} {ns = ns} c (closes {g = g'} {ns = ms'} d rs) =
    subst (λ (xs : List ℕ). Closings R h xs (R.close g' rs)) (append_assoc ns ms' (total rs ∷ [])) (closes (closings-then R c d) rs)

-- an accepted call of a land is one closing
pub call-closing : {H : Type 0} (R : LandLayout H) (c : Call) (h : H) (ws : List ℕ) (rs : List Range) → R.read h ws ≡ holding rs →
    (land_call R c h ws).out.answer ≡ 0 → Closings R h (total (step list_ops (R.arena h ws) c rs).next ∷ []) (land_call R c h ws).handle
call-closing R c h ws rs e z =
    let o = (step list_ops (R.arena h ws) c rs).out in
    by (eqb o.answer 0)
    (λ t. rw (e, t) (closes begins (step list_ops (R.arena h ws) c rs).next))
    (λ t. let k : o.answer ≡ 0 = rw (e, t) at z in absurd (eqb-false o.answer 0 t k))

-- a call that leaves the set as it is leaves the handle as it is, accepted or not
pub call_kept : {H : Type 0} (R : LandLayout H) → LandLaws R → (c : Call) (h : H) (ws : List ℕ) (rs : List Range) → R.read h ws ≡ holding rs →
    (step list_ops (R.arena h ws) c rs).next ≡ rs → (land_call R c h ws).handle ≡ h
call_kept R L c h ws rs e k =
    by (eqb (step list_ops (R.arena h ws) c rs).out.answer 0)
    (λ t. rw (e, t, k) (L.close_same h ws rs e))
    (λ t. rw (e, t))

-- two blocks of 8 bytes that a cache flushes into an empty land are two calls
cache-case : least (counted unset (8 ∷ 16 ∷ [])) ≡ 8
cache-case = refl

-- OVER A LIST OF CALLS
-- one land, of what is told: its note, and its free bytes
pub record Watched {A C M Q X : Type 0} (a : A) (J : Rules A C Outcome M Q X) (Good : M → Type 0) (land : X → Shown) (of : Q → LowWater) (free : M → ℕ) : Type 0 where
  pub bytes : (m : M) (q : Q) → (land (J.told a m q)).bytes ≡ free m
  pub mark : (m : M) (q : Q) → (land (J.told a m q)).mark ≡ (of q).filled
  pub low : (m : M) (q : Q) → (land (J.told a m q)).low ≡ (of q).low.0
  pub notes : (m : M) (q : Q) → of (J.note a m q) ≡ noted (of q) (free m)
  pub good-next : (c : C) (m : M) → Good m → Good (J.next a c m)
  pub kept : (c : C) (m : M) → Good m → eqb (J.out a c m).answer 0 ≡ false → free (J.next a c m) ≡ free m

record Turned (q : LowWater) (ns : List ℕ) (w : LowWater) (n : ℕ) (v : Shown) : Type 0 where
  holds : Holds q ns w
  same : noted w n ≡ w
  now : LowNow q ns v

low-now : (q : LowWater) (ns : List ℕ) (w : LowWater) (n : ℕ) (v : Shown) → Holds q ns w → noted w n ≡ w → v.bytes ≡ n → v.mark ≡ w.filled → v.low ≡ w.low.0 → Turned q ns w n v
low-now q ns w n v h s b m l =
    let k = low-facts w n (same-sound w n s) in
    record { holds = h; same = s; now = record { low_least = l ∙ h.low; mark_set = m ∙ h.mark; low_below = omega (arith, k.below) } }

turn : (t : Bool) (q : LowWater) (ns : List ℕ) (w w' : LowWater) (n n' : ℕ) (v : Shown) → Holds q ns w → noted w n ≡ w →
    (t ≡ false → n' ≡ n) → w' ≡ cond t (noted w n') w → v.bytes ≡ n' → v.mark ≡ w'.filled → v.low ≡ w'.low.0 →
    Turned q (cond t (ns ++ (v.bytes ∷ [])) ns) w' n' v
turn true q ns w w' n n' v h s k e b m l =
    low-now q (ns ++ (v.bytes ∷ [])) w' n' v (rw (e, b) (one_more q ns w n' h)) (rw e (noted-same (noted w n') n' (sound-noted w n'))) b m l
turn false q ns w w' n n' v h s k e b m l = low-now q ns w' n' v (rw e h) (rw (e, k refl) s) b m l

of-cond : {Q : Type 0} (of : Q → LowWater) (t : Bool) (x y : Q) → of (cond t x y) ≡ cond t (of x) (of y)
of-cond of true x y = refl
of-cond of false x y = refl

module _ {A C M Q X : Type 0} (a : A) (J : Rules A C Outcome M Q X) (Good : M → Type 0) (land : X → Shown) (of : Q → LowWater) (free : M → ℕ)
    (W : Watched a J Good land of free) where
  low-along : (cs : List C) (m : M) (q : Q) (q₀ : LowWater) (past : List ℕ) → Good m → noted (of q) (free m) ≡ of q → Holds q₀ past (of q) →
      LowsTrue land q₀ past (expected land_answers J a cs m q)
  low-along [] m q q₀ past g s h = tt
  low-along (c ∷ cs) m q q₀ past g s h =
      let t = eqb (J.out a c m).answer 0 in
      let next = J.next a c m in
      let q' = note_after land_answers J a c m q in
      let v = land (J.told a next q') in
      let e : of q' ≡ cond t (noted (of q) (free next)) (of q) =
      of-cond of t (J.note a next q) q ∙ ap (λ (w : LowWater). cond t w (of q)) (W.notes next q) in
      let u = turn t q₀ past (of q) (of q') (free m) (free next) v h s (λ z. W.kept c m g z) e (W.bytes next q') (W.mark next q') (W.low next q') in
      (u.now, low-along cs next q' q₀ (with_call past (J.out a c m) v.bytes) (W.good-next c m g) u.same u.holds)

  -- from a note that stays as it is beside the free bytes
  pub lows_true : (cs : List C) (m : M) (q : Q) → Good m → noted (of q) (free m) ≡ of q → LowsTrue land (of q) [] (expected land_answers J a cs m q)
  lows_true cs m q g s = low-along cs m q (of q) [] g s (begins-well (of q) (free m) s)
