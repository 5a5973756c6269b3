-- The list land's layout keeps the laws of a layout. Assumes nothing.
use Prim.Native.Nat.{ℕ}
use mathlib.Core.Bool.{true, false}
use mathlib.Core.List.{List}
use mathlib.Core.Path.{◌≡◌, refl, sym, ap, subst, ◌∙◌}
use native.Mathlib.Omega.{arith}
use lib.ListN.{length}
use borrow.Author.Tests.{eq-eqb}
use Rattle.units.specs.Words.{addr}
use Rattle.units.specs.declared.Addr.{Addr}
use Rattle.units.specs.declared.Size.{Size}
use Rattle.units.specs.declared.low_water.LowWater.{LowWater}
use Rattle.units.proofs.LowWaters.{noted-same, sound-noted}
use Rattle.model.specs.Marks.{Range, total}
use Rattle.model.specs.inner.Lists.{Apart, Aligned}
use Rattle.model.specs.Layouts.{fault, holding}
use Rattle.model.specs.inner.Laws.{LandLaws}
use Rattle.model.proofs.Outcomes.{read_whole}
use Rattle.list_words.specs.Words.{sound_walk, walk_from}
use Rattle.list_words.specs.Laying.{head_of, lay}
use Rattle.list_words.proofs.Laid.{Laid, length-lay, laid-lay, laid-host}
use Rattle.list_words.proofs.Meeting.{walk-laid, aligned-8, few_words}
use Rattle.list_land.specs.Layout.{base, limit, align, set_up, walk_of, sound, read_of, closed_with, closed, layout}
use Rattle.list_land.specs.declared.ListLand.{ListLand}
use Rattle.list_land.proofs.Sound.{SetUpFacts, fine, sound-low}

-- what is read as rs
pub record Reads (h : ListLand) (ws : List ℕ) (rs : List Range) : Type 0 where
  pub good : set_up h ws ≡ true
  pub whole : sound h ws ≡ true
  pub same : (walk_of h ws).met ≡ rs

pub reads : (h : ListLand) (ws : List ℕ) (rs : List Range) → read_of h ws ≡ holding rs → Reads h ws rs
unfolding read_of
reads h ws rs e = let p = read_whole (set_up h ws) (sound h ws) (walk_of h ws).met rs e in record { good = p.0; whole = p.1; same = p.2 }

-- and the other way round: 5, 6, or the ranges met
module _ (h : ListLand) (ws : List ℕ) where
  pub reads-5 : set_up h ws ≡ false → read_of h ws ≡ fault 5
  unfolding read_of
  reads-5 g = rw g

  pub reads-6 : set_up h ws ≡ true → sound h ws ≡ false → read_of h ws ≡ fault 6
  unfolding read_of
  reads-6 g s = rw (g, s)

  pub held : set_up h ws ≡ true → sound h ws ≡ true → read_of h ws ≡ holding (walk_of h ws).met
  unfolding read_of
  held g s = rw (g, s)

-- descriptors in place are read
pub read-laid : (h : ListLand) (ws : List ℕ) (rs : List Range) → SetUpFacts h (length ws) → set_up h ws ≡ true → Laid (base h) rs ws →
    Apart (base h) (limit h) rs → Aligned (align h) rs → read_of (closed h rs) ws ≡ holding rs
unfolding read_of set_up sound sound_walk walk_from
read-laid h ws rs p g d a s =
    let f = p.arena in
    let a8 = aligned-8 (align h) f.align rs s in
    let m = few_words (base h) (limit h) (length ws) rs p.words a a8 in
    let w = walk-laid (base h) (limit h) (align h) ws rs (length ws) (base h) m f.above a s a8 d in
    rw (g, w, eq-eqb (length rs) (length rs) refl, eq-eqb (total rs) (total rs) refl, sound-noted h.water (total rs))

-- a handle closed with the head and the counts of its ranges
pub closed-as : (h : ListLand) (rs : List Range) (hd : Addr) (n : ℕ) (s : Size) → hd.0 ≡ head_of rs → n ≡ length rs → s.0 ≡ total rs →
    closed_with h hd n s ≡ closed h rs
closed-as h rs hd n s p c b = λ i. closed_with h (addr (p i)) (c i) (record { 0 = b i })

-- the handle of a sound list is the one that closes its ranges
handle-back : (h : ListLand) (ws : List ℕ) (rs : List Range) → Reads h ws rs → closed h rs ≡ h
handle-back h ws rs p =
    let f = fine h ws p.good p.whole in
    let hd : head_of rs ≡ h.head.0 = rw p.same at f.head in
    let c : h.ranges ≡ length rs = rw p.same at f.count in
    let b : h.bytes.0 ≡ total rs = rw p.same at f.bytes in
    sym (closed-as h rs h.head h.ranges h.bytes (sym hd) c b) ∙ with-water h (noted-same h.water h.bytes.0 (sound-low h ws p.whole))
  where
    with-water : (h : ListLand) {w : LowWater} → w ≡ h.water →
        record { base = h.base; limit = h.limit; align = h.align; head = h.head; ranges = h.ranges; bytes = h.bytes; water = w } ≡ h
    with-water h e = λ i. record { base = h.base; limit = h.limit; align = h.align; head = h.head; ranges = h.ranges; bytes = h.bytes; water = e i }

-- other words of the same number are set up as well
same-set-up : (h : ListLand) (ws ws' : List ℕ) → length ws' ≡ length ws → set_up h ws ≡ true → set_up h ws' ≡ true
unfolding set_up
same-set-up h ws ws' n g = rw n g

same-placed : (h : ListLand) (ws ws' : List ℕ) → length ws' ≡ length ws → SetUpFacts h (length ws) → SetUpFacts h (length ws')
same-placed h ws ws' n p = rw n p

pub list-laws : LandLaws layout
list-laws = record {
  sound = λ h ws rs e.
      let p = reads h ws rs e in
      let f = fine h ws p.good p.whole in
      let c = f.count ∙ ap length p.same in
      let b = f.bytes ∙ ap total p.same in (
        record {
          order = f.place.arena.order;
          canon = record { apart = rw p.same at f.apart; aligned = rw p.same at f.straight };
          room = refl;
        },
        λ i. record { reads = e i; count = c i; bytes = b i; mark = h.water.filled; low = h.water.low.0 },
      );
  read_write = λ h ws rs rs' e g.
      let p = reads h ws rs e in
      let f = fine h ws p.good p.whole in
      let c = g.canon in
      let n = length-lay (base h) rs' ws in
      let a8 = aligned-8 (align h) f.place.arena.align rs' c.aligned in
      read-laid h (lay (base h) rs' ws) rs' (same-placed h ws (lay (base h) rs' ws) n f.place) (same-set-up h ws (lay (base h) rs' ws) n p.good)
      (laid-lay (base h) (base h) (limit h) rs' ws (omega arith) (sym f.place.words) f.base8 c.apart a8) c.apart c.aligned;
  note_write = λ h ws rs. refl;
  close_same = λ h ws rs e. handle-back h ws rs (reads h ws rs e);
  arena_write = λ h ws rs. refl;
  read_host = λ h ws ws' rs e m.
      let p = reads h ws rs e in
      let f = fine h ws p.good p.whole in
      subst (λ (g : ListLand). read_of g ws' ≡ holding rs) (handle-back h ws rs p)
      (read-laid h ws' rs (same-placed h ws ws' m.0 f.place) (same-set-up h ws ws' m.0 p.good)
      (laid-host (base h) rs ws ws' (λ i d. m.1 i (rw e d)) (rw p.same at f.laid))
      (rw p.same at f.apart) (rw p.same at f.straight));
  arena_host = λ h ws ws' m. refl;
  host_idle = λ h ws. (refl, λ i d. refl);
}
