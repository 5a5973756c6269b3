-- An insertion in a sound list: the stores and the chain are those of the list with the range in it. Assumes nothing.
use Prim.Native.Nat.{ℕ, ◌+◌, ◌-◌, ◌<◌, ◌≤◌}
use mathlib.Core.Bool.{false}
use mathlib.Core.List.{List, ◌∷◌, ◌++◌}
use mathlib.Core.Path.{◌≡◌, sym, ap, ◌∙◌}
use native.Mathlib.Omega.{arith}
use lib.ListN.{length, length-append}
use borrow.Author.Tests.{lt-ltb, le-ltb}
use Rattle.units.specs.declared.Range as units
use Rattle.units.specs.Words.{addr}
use Rattle.units.specs.declared.rules.Arena.{Arena}
use Rattle.units.proofs.Alignments.{multiple-8}
use Rattle.units.proofs.Facts.{GoodRange}
use Rattle.model.specs.Marks.{Range, struct, total}
use Rattle.model.specs.inner.Lists.{overlaps, holder, insert_in, plain}
use Rattle.model.proofs.Inserting.{insert-apart, insert-aligned}
use Rattle.model.proofs.Places.{insert-front, overlaps-front, holder-front, holder-here}
use Rattle.model.proofs.Totals.{total-insert}
use Rattle.list_words.specs.Laying.{head_of, lay}
use Rattle.list_edits.specs.inner.Edits.{store_head, store_words}
use Rattle.list_words.specs.declared.Spot.{Spot}
use Rattle.list_words.proofs.Laid.{Laid}
use Rattle.list_edits.proofs.Editing.{edited, Stored, stored}
use Rattle.list_words.specs.declared.Chain.{Chain}
use Rattle.std.specs.Prelude.{Option, Some, is_some, not}
use Rattle.list_edits.specs.inner.Places.{place_of}
use Rattle.list_edits.specs.inner.Joins.{join_edit, Putting, join_done}
use Rattle.list_edits.specs.inner.Chains.{met_of, joined_of}
use Rattle.list_edits.specs.declared.Join.{Join}
use Rattle.list_edits.proofs.Sound.{Fine, small}
use Rattle.list_edits.proofs.Joining.{ChainJoined, joins-free, joins-meets}
use Rattle.list_edits.proofs.Standing.{Stand}

module _ (a : Arena) (ws : List ℕ) (c : Chain) (f : Fine a ws c) (y : units.Range) (s : Spot) (rules : GoodRange a.base.0 a.limit.0 a.align.0 y.base.0 y.limit.0)
    (t : Stand a ws c y s) where
  abbrev b : ℕ
  b = y.base.0

  abbrev l : ℕ
  l = y.limit.0

  abbrev met : List Range
  met = met_of a ws c

  -- whether the request overlaps a range of the list
  pub insert-meets : overlaps y.base.0 y.limit.0 (met_of a ws c) ≡ not (is_some (place_of a ws y s))
  insert-meets =
      rw t.split (overlaps-front b l rules.order t.front t.old t.below
      ∙ t.meets
      ∙ joins-meets a.base.0 t.x b l ws s.prev t.joins t.start rules.order t.lo a.limit.0 t.ups t.above t.apart t.at-ups t.over
      ∙ ap (λ (v : Option Join). not (is_some v)) (sym t.place))

  -- no byte of the request is free
  module _ (j : Join) (e : Some j ≡ place_of a ws y s) where
    disjoint : overlaps y.base.0 y.limit.0 (met_of a ws c) ≡ false
    disjoint = insert-meets ∙ rw (← e)

    joined : ChainJoined a.base.0 t.x b l ws s.prev t.joins t.ups j
    joined = joins-free a.base.0 t.x b l ws s.prev t.joins t.start rules.order t.lo a.limit.0 t.ups t.above t.apart t.laid t.at-ups j (sym t.place ∙ sym e)

    fresh : Range
    fresh = plain j.fresh

    insert-new : insert_in b l met ≡ t.front ++ plain j.fresh ∷ joined.tail
    insert-new =
        ap (insert_in b l) t.split
        ∙ insert-front b l rules.order t.front t.old t.below
        ∙ ap (λ (xs : List Range). t.front ++ xs) (t.into ∙ joined.into)

    fresh-proper : j.fresh.base.0 < j.fresh.limit.0
    fresh-proper = let u = joined.low in let v = joined.high in let w = t.start in let o = rules.order in omega arith

    insert-edited : edited (join_edit j) joined.tail ≡ plain j.fresh ∷ joined.tail
    insert-edited =
        rw (lt-ltb j.fresh.base.0 j.fresh.limit.0 fresh-proper, le-ltb j.fresh.limit.0 j.fresh.limit.0 (omega arith))

    insert-stored : Stored a.base.0 a.limit.0 (length ws) f.base8 f.place.words f.place.arena.top (join_edit j) joined.tail joined.next ws c.head t.front
    insert-stored =
        let g = f.place.arena in
        let laid : Laid a.base.0 (t.front ++ t.old) ws = rw t.split at f.laid in
        let b8 = multiple-8 a.align.0 b g.align rules.base_aligned in
        let l8 = multiple-8 a.align.0 l g.align rules.limit_aligned in
        stored a.base.0 a.limit.0 (length ws) f.base8 f.place.words g.top (join_edit j) joined.tail joined.next ws c.head t.old
        g.above joined.laid t.front (rw joined.prev t.last)
        (let u : head_of (t.front ++ t.old) ≡ c.head.0 = rw t.split at f.head in ap addr (sym u)) laid
        (rw (insert-edited, ← insert-new) (insert-apart b l a.base.0 a.limit.0 met rules.from rules.order rules.upto disjoint f.apart))
        (rw (insert-edited, ← insert-new) (insert-aligned 8 b l met b8 l8 f.aligned))

    insert-count : (c.ranges + 1 - j.joins ≡ length (insert_in b l met)) × (j.joins ≤ c.ranges + 1)
    insert-count =
        let n : c.ranges ≡ length (t.front ++ t.old) = f.count ∙ ap length t.split in
        let m = length-append t.front t.old in
        let u = t.count in
        let v = joined.count in
        let w = joined.joined in
        (rw (insert-new, length-append) (omega arith), omega arith)

    insert-bytes : c.bytes.0 + (l - b) ≡ total (insert_in b l met)
    insert-bytes = let n = f.bytes in let t' = total-insert b l a.base.0 a.limit.0 met rules.order f.apart in omega arith

    -- the range that then contains the request
    insert-holder : holder b l (insert_in b l met) ≡ plain j.fresh
    insert-holder =
        let u = joined.low in
        let v = t.start in
        rw insert-new (holder-front b l rules.order t.front (plain j.fresh ∷ joined.tail) t.below
        ∙ holder-here b l (plain j.fresh) joined.tail (omega arith) joined.high)

    -- what an insertion comes to
    pub record Landed : Type 0 where
      pub ready : Putting a.base.0 (length ws) c y j
      pub gives : join_done c y j ≡ joined_of met y
      pub words : store_words a.base.0 ws (join_edit j) ≡ lay a.base.0 (insert_in b l met) ws

    pub landed : Landed
    landed =
        let q = insert-stored in
        let k = small a ws c f in
        let n = insert-count in
        let d = insert-bytes in
        let u : t.front ++ edited (join_edit j) joined.tail ≡ insert_in b l met = rw (insert-edited, insert-new) in
        let hd : store_head c.head (join_edit j) ≡ addr (head_of (insert_in b l met)) = q.new-head ∙ ap (λ (xs : List Range). addr (head_of xs)) u in
        let r : j.fresh ≡ struct (holder b l (insert_in b l met)) = sym (ap struct insert-holder) in
        let o = rules.order in
        let top = f.place.arena.top in
        let upto = rules.upto in
        record {
          ready = record { room = q.room; order = omega arith; count = omega (arith, k.count); joins = n.1; bytes = omega (arith, k.bytes) };
          gives = λ i. record { chain = record { head = hd i; ranges = n.0 i; bytes = record { 0 = d i } }; range = r i };
          words = q.words ∙ ap (λ (xs : List Range). lay a.base.0 xs ws) u;
        }
