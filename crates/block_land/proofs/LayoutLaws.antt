-- The block land's layout keeps the laws of a layout. Assumes nothing.
use Prim.Native.Nat.{ℕ, zero, suc, ◌+◌, ◌*◌, ◌≤◌}
use mathlib.Core.Bool.{true}
use mathlib.Core.List.{List, [], ◌∷◌}
use mathlib.Core.Path.{◌≡◌, refl, sym, ap, ◌∙◌}
use native.Mathlib.Omega.{arith}
use lib.ListN.{length, drop, length-drop}
use lib.Seq.{get_or-drop}
use borrow.Author.Tests.{eq-eqb, le-leb, leb-true}
use Rattle.units.specs.declared.Size.{Size}
use Rattle.units.specs.declared.low_water.LowWater.{LowWater}
use Rattle.units.proofs.LowWaters.{noted-same, sound-noted}
use Rattle.model.specs.Marks.{Range, total}
use Rattle.model.specs.inner.Lists.{Apart, Aligned}
use Rattle.model.specs.Layouts.{holding}
use Rattle.model.specs.inner.Laws.{LandLaws}
use Rattle.model.proofs.Outcomes.{read_whole}
use Rattle.block_words.specs.Words.{capacity, pairs, all_zero, sound_table, fill}
use Rattle.block_words.proofs.Filling.{length-fill, pairs-fill, clear-fill, fill-pairs}
use Rattle.block_words.proofs.Canonical.{apart-canonical}
use Rattle.block_land.specs.Layout.{base, limit, align, set_up, sound, table_of, read_of, closed_with, closed, SamePairs, layout}
use Rattle.block_land.specs.declared.BlockLand.{BlockLand}
use Rattle.block_land.proofs.Sound.{Fine, fine}

-- what is read as rs
pub record Reads (h : BlockLand) (ws : List ℕ) (rs : List Range) : Type 0 where
  pub good : set_up h ws ≡ true
  pub whole : sound h ws ≡ true
  pub same : table_of h ws ≡ rs

pub reads : (h : BlockLand) (ws : List ℕ) (rs : List Range) → read_of h ws ≡ holding rs → Reads h ws rs
unfolding read_of
reads h ws rs e = let p = read_whole (set_up h ws) (sound h ws) (table_of h ws) rs e in record { good = p.0; whole = p.1; same = p.2 }

-- and the other way round
module _ (h : BlockLand) (ws : List ℕ) where
  pub held : set_up h ws ≡ true → sound h ws ≡ true → read_of h ws ≡ holding (table_of h ws)
  unfolding read_of
  held g s = rw (g, s)

-- ranges that were filled in are read
set-up-fill : (h : BlockLand) (ws : List ℕ) (rs : List Range) → set_up h ws ≡ true → set_up (closed h rs) (fill rs ws) ≡ true
unfolding set_up
set-up-fill h ws rs g = rw (length-fill rs ws) g

pub read-filled : (h : BlockLand) (ws : List ℕ) (rs : List Range) → set_up h ws ≡ true → Apart (base h) (limit h) rs → Aligned (align h) rs →
    length rs ≤ capacity ws → read_of (closed h rs) (fill rs ws) ≡ holding rs
unfolding read_of sound sound_table
read-filled h ws rs g p a k =
    rw (
      set-up-fill h ws rs g,
      length-fill rs ws,
      le-leb (length rs) (capacity ws) k,
      clear-fill rs ws,
      pairs-fill rs ws k,
      apart-canonical (base h) (limit h) (align h) rs p a,
      eq-eqb (total rs) (total rs) refl,
      sound-noted h.water (total rs),
    )

-- a handle closed with the counts of its ranges
pub closed-as : (h : BlockLand) (rs : List Range) (n : ℕ) (s : Size) → n ≡ length rs → s.0 ≡ total rs → closed_with h n s ≡ closed h rs
closed-as h rs n s c b = λ i. closed_with h (c i) (record { 0 = b i })

-- the handle and the words of a sound table are those that close its ranges
pub handle-back : (h : BlockLand) (ws : List ℕ) → Fine h ws → closed h (table_of h ws) ≡ h
handle-back h ws f =
    sym (closed-as h (table_of h ws) h.ranges h.bytes f.count f.bytes) ∙ with-water h (noted-same h.water h.bytes.0 f.low)
  where
    with-water : (h : BlockLand) {w : LowWater} → w ≡ h.water →
        record { base = h.base; limit = h.limit; align = h.align; ranges = h.ranges; bytes = h.bytes; water = w } ≡ h
    with-water h e = λ i. record { base = h.base; limit = h.limit; align = h.align; ranges = h.ranges; bytes = h.bytes; water = e i }

pub words_back : (h : BlockLand) (ws : List ℕ) → Fine h ws → fill (table_of h ws) ws ≡ ws
words_back h ws f = fill-pairs ws h.ranges f.fits f.clean

-- the same pair words are read alike
same_next : (w w' v v' : ℕ) (ws vs : List ℕ) → SamePairs (w ∷ w' ∷ ws) (v ∷ v' ∷ vs) → (v ≡ w) × (v' ≡ w') × SamePairs ws vs
same_next w w' v v' ws vs m =
    let n : suc (suc (length vs)) ≡ suc (suc (length ws)) = m.0 in
    (m.1 0 (omega arith), m.1 1 (omega arith), (omega arith, λ i k. m.1 (suc (suc i)) (omega arith)))

longer : {P : Type 0} {n : ℕ} → suc n ≡ 0 → P
longer e = absurd (omega arith)

less_one : {m n : ℕ} → suc m ≡ suc n → m ≡ n
less_one e = omega arith

same-table : (ws vs : List ℕ) (n : ℕ) → SamePairs ws vs → pairs vs n ≡ pairs ws n
same-table ws vs zero m = refl
same-table [] [] (suc n) m = refl
same-table [] (v ∷ vs) (suc n) m = longer m.0
same-table (w ∷ ws) [] (suc n) m = longer (sym m.0)
same-table (w ∷ []) (v ∷ []) (suc n) m = refl
same-table (w ∷ []) (v ∷ v' ∷ vs) (suc n) m = longer (less_one m.0)
same-table (w ∷ w' ∷ ws) (v ∷ []) (suc n) m = longer (less_one (sym m.0))
same-table (w ∷ w' ∷ ws) (v ∷ v' ∷ vs) (suc n) m = let s = same_next w w' v v' ws vs m in rw (s.0, s.1, same-table ws vs n s.2)

same-zero : (ws vs : List ℕ) → SamePairs ws vs → all_zero vs ≡ all_zero ws
same-zero [] [] m = refl
same-zero [] (v ∷ vs) m = longer m.0
same-zero (w ∷ ws) [] m = longer (sym m.0)
same-zero (w ∷ []) (v ∷ []) m = refl
same-zero (w ∷ []) (v ∷ v' ∷ vs) m = longer (less_one m.0)
same-zero (w ∷ w' ∷ ws) (v ∷ []) m = longer (less_one (sym m.0))
same-zero (w ∷ w' ∷ ws) (v ∷ v' ∷ vs) m = let s = same_next w w' v v' ws vs m in rw (s.0, s.1, same-zero ws vs s.2)

same_drop : (ws vs : List ℕ) (n : ℕ) → SamePairs ws vs → SamePairs (drop (2 * n) ws) (drop (2 * n) vs)
same_drop ws vs n m =
    let lv = length-drop (2 * n) vs in
    let lw = length-drop (2 * n) ws in
    let l = m.0 in
    (omega arith, λ i k. get_or-drop (2 * n) vs i 0 ∙ m.1 (2 * n + i) (omega arith) ∙ sym (get_or-drop (2 * n) ws i 0))

same_read : (h : BlockLand) (ws vs : List ℕ) → SamePairs ws vs → read_of h vs ≡ read_of h ws
unfolding read_of set_up sound sound_table
same_read h ws vs m = rw (m.0, same-table ws vs h.ranges m, same-zero (drop (2 * h.ranges) ws) (drop (2 * h.ranges) vs) (same_drop ws vs h.ranges m))

pub block-laws : LandLaws layout
block-laws = record {
  sound = λ h ws rs e.
      let p = reads h ws rs e in
      let f = fine h ws p.good p.whole in
      let c = f.count ∙ ap length p.same in
      let b = f.bytes ∙ ap total p.same in (
        record {
          order = f.place.arena.order;
          canon = record { apart = rw p.same at f.apart; aligned = rw p.same at f.aligned };
          room = le-leb (length rs) (capacity ws) (rw c at f.fits);
        },
        λ i. record { reads = e i; count = c i; bytes = b i; mark = h.water.filled; low = h.water.low.0 },
      );
  read_write = λ h ws rs rs' e f.
      let p = reads h ws rs e in
      let c = f.canon in
      read-filled h ws rs' p.good c.apart c.aligned (leb-true (length rs') (capacity ws) f.room);
  note_write = λ h ws rs. refl;
  close_same = λ h ws rs e.
      let p = reads h ws rs e in
      rw p.same at (handle-back h ws (fine h ws p.good p.whole));
  arena_write = λ h ws rs. rw (length-fill rs ws);
  read_host = λ h ws ws' rs e m. same_read h ws ws' m ∙ e;
  arena_host = λ h ws ws' m. rw m.0;
  host_idle = λ h ws. (refl, λ i k. refl);
}
