-- Demand 3 of the list land: an instance of the theorem of `model`. Assumes nothing.
use Prim.Native.Nat.{ℕ, suc, ◌+◌, ◌*◌, ◌%◌, ◌≤◌}
use mathlib.Core.Bool.{true, false, not, ◌&&◌, or-true}
use mathlib.Core.List.{List, [], ◌∷◌}
use mathlib.Core.Path.{◌≡◌, refl}
use native.Mathlib.Omega.{arith}
use lib.Dec.{eqb}
use lib.ListN.{length, get_or}
use borrow.Author.Tests.{eqb-true, eqb-false, not-true}
use Rattle.units.specs.Words.{word_number}
use Rattle.units.proofs.Tests.{by, clash, and_left, and_right, or-second}
use Rattle.model.specs.Marks.{Range, size, marks_of}
use Rattle.model.specs.inner.Lists.{Apart, Aligned}
use Rattle.model.specs.Layouts.{Reading, fault, holding}
use Rattle.model.specs.Lands.{land_answers, list_rules}
use Rattle.model.proofs.Bytes.{in-yes}
use Rattle.model.proofs.Playing.{wider}
use Rattle.model.proofs.DemandMet.{demand-3}
use Rattle.model.proofs.LowWaters.{low-over-closings}
use Rattle.list_words.specs.Laying.{grain, described}
use Rattle.list_land.specs.Layout.{base, set_up, read_of, layout}
use Rattle.list_land.specs.Calls.{new_land, opened_of}
use Rattle.list_land.specs.Claims.{ListDemand3, free_kept, OwnDemand3, free_word, ListLow}
use Rattle.list_land.specs.declared.ListLand.{ListLand}
use Rattle.list_land.proofs.Sound.{placed, fine}
use Rattle.list_land.proofs.LayoutLaws.{reads, read-laid, list-laws}

pub opened-good : (b l a : ℕ) (ws : List ℕ) → (opened_of b l a ws).answer ≡ 0 → (set_up (new_land b l a) ws ≡ true) × ((opened_of b l a ws).land ≡ new_land b l a)
unfolding opened_of
opened-good b l a ws e =
    by (set_up (new_land b l a) ws)
    (λ g. (g, rw g))
    (λ g. let z : ◌≡◌ {A = ℕ} 5 0 = rw g at e in absurd (omega arith))

-- an opened land gives no ranges
opened-empty : (b l a : ℕ) (ws : List ℕ) → set_up (new_land b l a) ws ≡ true → read_of (new_land b l a) ws ≡ holding []
opened-empty b l a ws g = let h = new_land b l a in read-laid h ws [] (placed h ws g) g tt tt tt

pub list-demand-3 : ListDemand3
list-demand-3 b l a ws e cs os t =
    let g = opened-good b l a ws e in
    demand-3 layout list-laws (new_land b l a) ws [] (opened-empty b l a ws g.0) cs os (rw g.1 at t)

-- a word of a descriptor is free
described-free : (b lo hi : ℕ) (rs : List Range) (i : ℕ) → b ≤ lo → b % 8 ≡ 0 → Apart lo hi rs → Aligned 8 rs → described b rs i ≡ true →
    marks_of rs (b + 8 * i) ≡ true
described-free b lo hi [] i k z h a e = e
described-free b lo hi (r ∷ rs) i k z h a e =
    by (eqb i (word_number b r.base))
    (λ f. let u = eqb-true i (word_number b r.base) f in rw (in-yes r.base r.limit (b + 8 * i) (omega arith) (omega arith)))
    (λ f. by (not (grain r) && eqb i (word_number b (r.base + 8)))
    (λ g. let u = eqb-true i (word_number b (r.base + 8)) (and_right (not (grain r)) _ g) in
    let v = eqb-false (size r) 8 (not-true (grain r) (and_left _ _ g)) in
    rw (in-yes r.base r.limit (b + 8 * i) (omega arith) (omega arith)))
    (λ g. rw (described-free b (suc r.limit) hi rs i (omega arith) z h.3 a.2 (or-second _ _ (or-second _ _ e f) g), or-true)))

-- what the host may write in the wider claim includes every word that is not free
pub host-may-write : (h : ListLand) (ws ws' : List ℕ) (rs : List Range) → read_of h ws ≡ holding rs → length ws' ≡ length ws →
    ((i : ℕ) → free_word h rs i ≡ true → get_or ws' i 0 ≡ get_or ws i 0) → layout.host h ws ws'
host-may-write h ws ws' rs e n f =
    let p = reads h ws rs e in
    let g = fine h ws p.good p.whole in
    (n, λ i d. f i (described-free (base h) (base h) h.limit.0 rs i (omega arith) g.base8 (rw p.same at g.apart) (rw p.same at g.aligned) (rw e at d)))

-- DOCUMENT 01'S OWN HOST
pub own-host : (h : ListLand) (ws ws' : List ℕ) → free_kept h ws ws' → layout.host h ws ws'
own-host h ws ws' m = read_as (read_of h ws) refl
  where
    read_as : (g : Reading (List Range)) → read_of h ws ≡ g → layout.host h ws ws'
    read_as (fault n) e = (m.0, λ i d. let z : false ≡ true = rw e at d in clash z refl)
    read_as (holding rs) e = host-may-write h ws ws' rs e m.0 (λ i f. m.1 i (rw e f))

pub own-demand-3 : OwnDemand3
own-demand-3 b l a ws e cs os t =
    list-demand-3 b l a ws e cs os (wider land_answers list_rules layout free_kept own-host (opened_of b l a ws).land ws cs os t)

-- LOW WATER OVER CALLS OF ANY KIND
pub list-low : ListLow
list-low = low-over-closings layout (λ h rs. refl)
