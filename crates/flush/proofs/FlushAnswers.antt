-- The ways out of a flush: a refusal, and the handles closed after the transfer. Assumes nothing.
use Prim.Native.Nat.{ℕ, ◌+◌, ◌-◌, ◌^◌, ◌≤◌, ◌<◌}
use mathlib.Core.Bool.{true}
use mathlib.Core.List.{List}
use mathlib.Core.Logic.{◌⊎◌, inl, inr}
use mathlib.Core.Path.{◌≡◌, refl, sym, ap, ◌∙◌}
use native.Mathlib.Omega.{arith}
use lib.ListN.{length, length-append}
use Rattle.std.specs.Prelude.{Result, Ok, Err}
use Rattle.units.specs.Words.{addr}
use Rattle.units.specs.declared.Size.{Size}
use Rattle.units.specs.declared.rules.Arena as units
use Rattle.units.proofs.Tests.{and_left}
use Rattle.model.specs.Marks.{Range, total}
use Rattle.model.specs.Calls.{Arena}
use Rattle.model.specs.Flushing.{Flush, flush}
use Rattle.model.proofs.Places.{total-append}
use Rattle.model.proofs.Totals.{total-small}
use Rattle.list_words.specs.Words.{is_clean, sound_walk}
use Rattle.list_words.specs.Laying.{head_of}
use Rattle.list_words.specs.inner.Surveys.{walk_of}
use Rattle.block_words.specs.Words.{fill}
use Rattle.block_words.proofs.Canonical.{apart-canonical}
use Rattle.list_land.specs.Layout as list
use Rattle.list_land.specs.inner.Parts as list-parts
use Rattle.list_land.specs.declared.ListLand.{ListLand}
use Rattle.list_land.proofs.LayoutLaws as list-laws
use Rattle.list_land.proofs.Sound as list-sound
use Rattle.block_land.specs.Layout as block
use Rattle.block_land.specs.declared.BlockLand.{BlockLand}
use Rattle.block_land.proofs.LayoutLaws as block-laws
use Rattle.flush.specs.Flush.{refusal, check_number, check_of, moves, done, flushed}
use Rattle.transfers.specs.inner.Transfers.{Going, table_arena, flush_of, transfer_of, transfer_words, stop_of, stop_number}
use Rattle.flush.specs.declared.FlushError.{FlushError}
use Rattle.flush.specs.declared.Flushed.{Flushed}
use Rattle.transfers.specs.declared.Moved.{Moved}
use Rattle.flush.proofs.FlushKeeps.{Checked, checked, is-accepted, list_fine, block_fine, one, keeps, same-apart, same-aligned}

-- A REFUSAL
pub refused : (h : ListLand) (ws : List ℕ) (k : BlockLand) (vs : List ℕ) (c : Result (Unit {0}) FlushError) → c ≡ check_of h ws k vs → (x : FlushError) → c ≡ Err x →
    (w : Flushed) → w ≡ refusal h k (check_number (Err x)) → (w ≡ (flushed h ws k vs).result) × (vs ≡ (flushed h ws k vs).nodes)
unfolding flushed
refused h ws k vs c ec x ex w ew =
    let e : done h ws k vs (check_of h ws k vs) ≡ record { result = refusal h k (check_number (Err x)); nodes = vs } = ap (done h ws k vs) (sym ec ∙ ex) in
    (rw e ew, rw e)

-- the number of what stopped a flush
stop-back : (n : ℕ) → (n ≡ 0) ⊎ ((n ≡ 1) ⊎ (n ≡ 3)) → stop_number (stop_of n) ≡ n
stop-back n (inl e) = rw e refl
stop-back n (inr (inl e)) = rw e refl
stop-back n (inr (inr e)) = rw e refl

-- A FLUSH WHOSE CHECKS ARE GOOD
module _ (h : ListLand) (ws : List ℕ) (k : BlockLand) (vs : List ℕ) (g : check_of h ws k vs ≡ Ok tt) where
  c : Checked h ws k vs
  c = checked h ws k vs g

  clean : is_clean (list.walk_of h ws).end ≡ true
  unfolding sound_walk
  clean = and_left _ _ (list-sound.sound-walk h ws c.list-sound)

  pub going : (a : units.Arena) → a ≡ list-parts.arena_in h → Going a ws h.head.0 vs k.ranges
  going a ea =
      let f = block_fine h ws k vs c in
      let o = one h ws k vs c in
      rw ea (record {
        ready = (list_fine h ws k vs c).place.ready;
        clean = clean;
        fits = f.fits;
        zeros = f.clean;
        ranges = apart-canonical h.base.0 h.limit.0 h.align.0 (block.table_of k vs)
            (same-apart k.base.0 h.base.0 k.limit.0 h.limit.0 (block.table_of k vs) (sym o.base) (sym o.limit) f.apart)
            (same-aligned k.align.0 h.align.0 (block.table_of k vs) (sym o.align) f.aligned);
      })

  abbrev met : List Range
  met = (list.walk_of h ws).met

  abbrev fl : Flush
  fl = moves h ws k vs

  -- the two arenas are one
  arenas : table_arena (list-parts.arena_in h) vs ≡ block.arena_of k vs
  arenas =
      let o = one h ws k vs c in
      let b = o.base in
      let l = o.limit in
      let a = o.align in
      λ i. record { base = b i; limit = l i; align = a i; room = (block.arena_of k vs).room }

  module _ (a : units.Arena) (ea : a ≡ list-parts.arena_in h) (m : Moved) (vs' : List ℕ)
      (e : (m ≡ transfer_of a ws h.head.0 vs k.ranges) × (vs' ≡ transfer_words a ws h.head.0 vs k.ranges)) where
    same-flush : flush_of a ws h.head.0 vs k.ranges ≡ moves h ws k vs
    same-flush =
        ap (λ (x : units.Arena). flush_of x ws h.head.0 vs k.ranges) ea
        ∙ ap (λ (x : Arena). flush x met (block.table_of k vs)) arenas

    is : m ≡ record {
      at = addr (head_of (moves h ws k vs).left);
      moved = (moves h ws k vs).moved;
      bytes = record { 0 = total (list.walk_of h ws).met - total (moves h ws k vs).left };
      count = length (moves h ws k vs).into;
      stop = stop_of (moves h ws k vs).stop;
    }
    unfolding transfer_of
    is =
        e.0
        ∙ ap (λ (f : Flush). record { at = addr (head_of f.left); moved = f.moved; bytes = record { 0 = total (walk_of a ws h.head.0).met - total f.left }; count = length f.into; stop = stop_of f.stop }) same-flush
        ∙ ap (λ (x : units.Arena). record { at = addr (head_of fl.left); moved = fl.moved; bytes = record { 0 = total (walk_of x ws h.head.0).met - total fl.left }; count = length fl.into; stop = stop_of fl.stop }) ea

    counts : (h.ranges ≡ m.moved + length (moves h ws k vs).left) × (h.bytes.0 ≡ m.bytes.0 + total (moves h ws k vs).left) × (m.bytes.0 ≤ 1099511627777) × (k.bytes.0 ≤ 1099511627777)
    counts =
        let f = keeps h ws k vs c in
        let n = (list_fine h ws k vs c).count in
        let b = (list_fine h ws k vs c).bytes in
        let kb = (block_fine h ws k vs c).bytes in
        let la : length met ≡ length f.gone + length fl.left = ap length f.split ∙ length-append f.gone fl.left in
        let ta : total met ≡ total f.gone + total fl.left = ap total f.split ∙ total-append f.gone fl.left in
        let mv : m.moved ≡ fl.moved = ap (λ (x : Moved). x.moved) is in
        let mb : m.bytes.0 ≡ total met - total fl.left = ap (λ (x : Moved). x.bytes.0) is in
        let p = (list_fine h ws k vs c).place.arena in
        let q = (block_fine h ws k vs c).place.arena in
        let s = total-small h.base.0 h.limit.0 met (omega (arith, p.order)) (list_fine h ws k vs c).apart in
        let t = total-small k.base.0 k.limit.0 (block.table_of k vs) (omega (arith, q.order)) (block_fine h ws k vs c).apart in
        (omega (arith, f.moved), omega arith, omega (arith, p.top), omega (arith, q.top))

    pub fewer : m.moved ≤ h.ranges
    fewer = let n = counts.0 in omega arith

    pub less : m.bytes.0 ≤ h.bytes.0
    less = let n = counts.1 in omega arith

    pub room : k.bytes.0 + m.bytes.0 < 2 ^ 64
    room = let n = counts.2 in let j = counts.3 in omega arith

    words : vs' ≡ fill (moves h ws k vs).into vs
    unfolding transfer_words
    words = e.1 ∙ ap (λ (x : Flush). fill x.into vs) same-flush

    pub accepted : (lb : Size) → lb.0 ≡ h.bytes.0 - m.bytes.0 → (h' : ListLand) → h' ≡ list.closed_with h m.at (h.ranges - m.moved) lb →
        (kb : Size) → kb.0 ≡ k.bytes.0 + m.bytes.0 → (k' : BlockLand) → k' ≡ block.closed_with k m.count kb →
        (z : ℕ) → z ≡ stop_number m.stop → (record { list = h'; block = k'; answer = 0; moved = m.moved; stop = z } ≡ (flushed h ws k vs).result) × (vs' ≡ (flushed h ws k vs).nodes)
    accepted lb elb h' eh kb ekb k' ek z ez =
        let d = is-accepted h ws k vs c in
        let n = counts in
        let f = keeps h ws k vs c in
        let hb = (list_fine h ws k vs c).bytes in
        let bb = (block_fine h ws k vs c).bytes in
        let p1 : m.at.0 ≡ head_of fl.left = ap (λ (x : Moved). x.at.0) is in
        let p2 : h.ranges - m.moved ≡ length fl.left = let y = n.0 in omega arith in
        let p3 : lb.0 ≡ total fl.left = let y = n.1 in omega arith in
        let p4 : m.count ≡ length fl.into = ap (λ (x : Moved). x.count) is in
        let p5 : kb.0 ≡ total fl.into = let y = n.1 in let s = f.sum in omega arith in
        let p6 : m.moved ≡ fl.moved = ap (λ (x : Moved). x.moved) is in
        let p7 : z ≡ fl.stop = ez ∙ ap (λ (x : Moved). stop_number x.stop) is ∙ stop-back fl.stop f.stops in
        let q1 : h' ≡ list.closed h fl.left = eh ∙ list-laws.closed-as h fl.left m.at (h.ranges - m.moved) lb p1 p2 p3 in
        let q2 : k' ≡ block.closed k fl.into = ek ∙ block-laws.closed-as k fl.into m.count kb p4 p5 in
        (rw d (λ i. record { list = q1 i; block = q2 i; answer = 0; moved = p6 i; stop = p7 i }), rw d words)
