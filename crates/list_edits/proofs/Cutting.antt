-- A part taken out of a range of a sound list: the stores and the chain are those of the list without it. Assumes nothing.
use Prim.Native.Nat.{ℕ, ◌+◌, ◌-◌, ◌%◌, ◌<◌, ◌≤◌}
use mathlib.Core.Bool.{true}
use mathlib.Core.List.{List, ◌∷◌, ◌++◌}
use mathlib.Core.Option.{Option, none, some}
use mathlib.Core.Path.{◌≡◌, sym, ap, ◌∙◌}
use native.Mathlib.Omega.{arith}
use lib.ListN.{length, length-append}
use Rattle.units.specs.declared.Range as units
use Rattle.units.specs.Words.{addr, range_of}
use Rattle.units.specs.inner.Parts.{one}
use Rattle.units.specs.declared.rules.Arena.{Arena}
use Rattle.units.proofs.Alignments.{multiple-8}
use Rattle.model.specs.Marks.{Range, total}
use Rattle.model.specs.inner.Lists.{Apart, holds, piece, delete_from}
use Rattle.model.proofs.Aiming.{pick-by}
use Rattle.model.proofs.Best.{in-middle}
use Rattle.model.proofs.Deleting.{delete-apart, delete-aligned}
use Rattle.model.proofs.Parts.{mem-stands}
use Rattle.model.proofs.Places.{total-append, remains, delete-at, length-piece}
use Rattle.model.proofs.Totals.{total-delete}
use Rattle.list_words.specs.Laying.{head_of, lay}
use Rattle.list_edits.specs.inner.Edits.{EditRoom, store_head, store_words}
use Rattle.list_words.specs.declared.Spot.{Spot}
use Rattle.list_words.proofs.Laid.{Laid, laid-rest}
use Rattle.list_words.proofs.Keeping.{At, SpotOf, kept-placed}
use Rattle.list_edits.proofs.Editing.{edited, Stored, stored}
use Rattle.list_words.specs.declared.Chain.{Chain}
use Rattle.list_edits.specs.inner.Chains.{met_of, Holding, remaining}
use Rattle.list_edits.specs.declared.Edit.{Edit}
use Rattle.list_edits.proofs.Sound.{Fine, fine, small}

-- what is left of the range at a spot, on both sides of a part
abbrev pub cut_edit : Spot → units.Range → Edit
cut_edit s y = record {
  prev = s.prev;
  low = range_of s.here.base.0 y.base.0;
  high = range_of y.limit.0 s.here.limit.0;
  next = s.next;
}

-- what a cut comes to
pub record Cut (a : Arena) (ws : List ℕ) (c : Chain) (s : Spot) (y : units.Range) : Type 0 where
  pub room : EditRoom a.base.0 (length ws) (cut_edit s y)
  pub some : 1 ≤ c.ranges
  pub count : c.ranges < 1099511627778
  pub bytes : y.limit.0 - y.base.0 ≤ c.bytes.0
  pub head : store_head c.head (cut_edit s y) ≡ addr (head_of (remaining (met_of a ws c) y))
  pub ranges : c.ranges - 1 + one (cut_edit s y).low + one (cut_edit s y).high ≡ length (remaining (met_of a ws c) y)
  pub left : c.bytes.0 - (y.limit.0 - y.base.0) ≡ total (remaining (met_of a ws c) y)
  pub words : store_words a.base.0 ws (cut_edit s y) ≡ lay a.base.0 (remaining (met_of a ws c) y) ws

-- a part [b, l) of the range q at a spot
module _ (a : Arena) (ws : List ℕ) (c : Chain) (f : Fine a ws c) (q : Range) (s : Spot) (p : At (met_of a ws c) q s) (y : units.Range)
    (low : q.base ≤ y.base.0) (proper : y.base.0 < y.limit.0) (high : y.limit.0 ≤ q.limit)
    (b8 : y.base.0 % 8 ≡ 0) (l8 : y.limit.0 % 8 ≡ 0) where
  abbrev b : ℕ
  b = y.base.0

  abbrev l : ℕ
  l = y.limit.0

  abbrev met : List Range
  met = met_of a ws c

  apart : Apart a.base.0 a.limit.0 (p.front ++ q ∷ p.rest)
  apart = rw p.split at f.apart

  pub cut-new : delete_from b l met ≡ p.front ++ remains b l q p.rest
  cut-new = ap (delete_from b l) p.split ∙ delete-at b l a.base.0 a.limit.0 p.front q p.rest proper low high apart

  cut-held : holds b l met ≡ true
  cut-held =
      rw p.split ((mem-stands a.align.0 a.base.0 a.limit.0 (p.front ++ q ∷ p.rest) q apart (rw p.split at f.straight)
      (in-middle p.front q p.rest)).holds-part b l low high)

  cut-edited : edited (cut_edit s y) p.rest ≡ remains b l q p.rest
  cut-edited = rw p.here

  cut-stored : Stored a.base.0 a.limit.0 (length ws) f.base8 f.place.words f.place.arena.top (cut_edit s y) p.rest p.next ws c.head p.front
  cut-stored =
      let laid : Laid a.base.0 (p.front ++ q ∷ p.rest) ws = rw p.split at f.laid in
      stored a.base.0 a.limit.0 (length ws) f.base8 f.place.words f.place.arena.top (cut_edit s y) p.rest p.next ws c.head (q ∷ p.rest)
      f.place.arena.above (laid-rest a.base.0 ws p.front (q ∷ p.rest) laid).1 p.front p.last
      (let e : head_of (p.front ++ q ∷ p.rest) ≡ c.head.0 = rw p.split at f.head in ap addr (sym e)) laid
      (rw (cut-edited, ← cut-new) (delete-apart b l a.base.0 a.limit.0 met proper f.apart cut-held))
      (rw (cut-edited, ← cut-new) (delete-aligned 8 b l met b8 l8 f.aligned))

  -- the counts of what is left
  cut-count : c.ranges - 1 + one (cut_edit s y).low + one (cut_edit s y).high ≡ length (delete_from b l met)
  cut-count =
      let n : c.ranges ≡ length (p.front ++ q ∷ p.rest) = f.count ∙ ap length p.split in
      let m = length-append p.front (q ∷ p.rest) in
      let u = length-piece q.base b (piece l q.limit p.rest) in
      let v = length-piece l q.limit p.rest in
      rw (p.here, cut-new, length-append) (omega arith)

  cut-bytes : c.bytes.0 - (l - b) ≡ total (delete_from b l met)
  cut-bytes = let n = f.bytes in let t = total-delete b l a.base.0 a.limit.0 met proper f.apart cut-held in omega arith

  pub cut-done : Cut a ws c s y
  cut-done =
      let t = cut-stored in
      let n : c.ranges ≡ length (p.front ++ q ∷ p.rest) = f.count ∙ ap length p.split in
      let m = length-append p.front (q ∷ p.rest) in
      let n' : c.bytes.0 ≡ total (p.front ++ q ∷ p.rest) = f.bytes ∙ ap total p.split in
      let m' = total-append p.front (q ∷ p.rest) in
      let e : p.front ++ edited (cut_edit s y) p.rest ≡ delete_from b l met = rw (cut-edited, cut-new) in
      record {
        room = t.room;
        some = omega arith;
        count = (small a ws c f).count;
        bytes = omega arith;
        head = t.new-head ∙ ap (λ (xs : List Range). addr (head_of xs)) e;
        ranges = cut-count;
        left = cut-bytes;
        words = t.words ∙ ap (λ (xs : List Range). lay a.base.0 xs ws) e;
      }

module _ (a : Arena) (ws : List ℕ) (c : Chain) (s : Spot) (y : units.Range) (k : Holding a ws c s y) where
  whole : Fine a ws c
  whole = fine a ws c k.held.ready k.held.whole

  -- the range at the spot is one of the list
  record Here : Type 0 where
    range : Range
    at : At (met_of a ws c) range s

  here : Here
  here =
      go (pick-by k.aim none (met_of a ws c))
      (rw (← k.held.kept) at (kept-placed k.aim a.base.0 a.limit.0 (met_of a ws c) whole.place.arena.above whole.apart))
    where
      go : (o : Option Range) → SpotOf (met_of a ws c) o s → Here
      go none p =
          let e : s.here.limit.0 ≡ 0 = ap (λ (v : units.Range). v.limit.0) p.here in
          absurd (omega (arith, k.proper, k.high))
      go (some q) p = record { range = q; at = p }

  pub held_cut : Cut a ws c s y
  held_cut =
      let g = whole.place.arena in
      cut-done a ws c whole here.range s here.at y (rw here.at.here at k.low) k.proper (rw here.at.here at k.high)
      (multiple-8 a.align.0 y.base.0 g.align k.base_aligned) (multiple-8 a.align.0 y.limit.0 g.align k.limit_aligned)
