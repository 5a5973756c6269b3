-- The ways out of the edits of a chain: a range put in or refused, and a part taken out. Assumes nothing.
use Prim.Native.Nat.{ℕ, ◌+◌, ◌-◌}
use mathlib.Core.Bool.{Bool, true, false}
use mathlib.Core.List.{List, [], append-nil}
use mathlib.Core.Path.{◌≡◌, sym, ap, ap₂, ◌∙◌}
use lib.Dec.{eqb}
use lib.ListN.{length}
use Rattle.units.specs.Words.{range_of}
use Rattle.units.specs.inner.Parts.{one}
use Rattle.units.specs.declared.Addr.{Addr}
use Rattle.units.specs.declared.Range.{Range}
use Rattle.units.specs.declared.Size.{Size}
use Rattle.units.specs.declared.aims.Aim.{Aim}
use Rattle.units.specs.declared.rules.Arena.{Arena}
use Rattle.units.proofs.Facts.{GoodRange, range-facts}
use borrow.Author.Tests.{not-false}
use Rattle.model.specs.inner.Lists.{overlaps}
use Rattle.model.proofs.Places.{overlaps-front}
use Rattle.model.proofs.Reaching.{reach, reach-none}
use Rattle.list_words.proofs.Keeping.{SpotOf, none-there, kept-reach}
use Rattle.list_words.specs.declared.Chain.{Chain}
use Rattle.list_words.specs.declared.Spot.{Spot}
use Rattle.list_edits.specs.inner.Chains.{met_of, Held, may_ask, Holding, joined_of, joined_words, put_of, put_words, cut_chain, cut_words}
use Rattle.list_edits.specs.inner.Edits.{EditRoom, store_head, store_words}
use Rattle.list_edits.specs.inner.Joins.{join_edit, Putting, join_done}
use Rattle.list_edits.specs.inner.Places.{Placing, place_of}
use Rattle.units.specs.declared.refusals.Refusal.{Refusal}
use Rattle.std.specs.Prelude.{Ok, Err, Option, Some, None, is_some, not}
use Rattle.list_edits.specs.declared.Join.{Join}
use Rattle.list_edits.specs.declared.ChainJoined.{ChainJoined}
use Rattle.list_edits.proofs.Cutting.{cut_edit, held_cut}
use Rattle.list_edits.proofs.Following.{follows-placed}
use Rattle.list_edits.proofs.Inserting.{insert-meets, Landed, landed}
use Rattle.list_edits.proofs.Sound.{Fine, fine}
use Rattle.list_edits.proofs.Standing.{Stand, stand}

turned : (r q : Bool) → q ≡ not r → r ≡ not q
turned true q e = rw e
turned false q e = rw e

-- A RANGE PUT IN
module _ (a : Arena) (ws : List ℕ) (c : Chain) (y : Range) (s : Spot) (k : Held a ws c (Aim.Reach y.base) s) (g : may_ask a y ≡ true) where
  fit : Fine a ws c
  fit = fine a ws c k.ready k.whole

  rules : GoodRange a.base.0 a.limit.0 a.align.0 y.base.0 y.limit.0
  rules = range-facts a.base.0 a.limit.0 a.align.0 y.base.0 y.limit.0 g

  stands : Stand a ws c y s
  stands = stand a ws c fit y s rules.from rules.order k

  -- the spot is that of the first range that reaches the base
  reached : SpotOf (met_of a ws c) (reach y.base.0 (met_of a ws c)) s
  reached = rw (← k.kept) at (kept-reach a.base.0 a.limit.0 (met_of a ws c) fit.place.arena.above fit.apart y.base)

  -- the spot after the one given can be read
  pub put-placing : Placing a ws y s
  put-placing = record { following = λ e. follows-placed a ws c fit s (reach y.base.0 (met_of a ws c)) reached }

  -- no range reaches the base
  pub at_none : (r : Bool) → r ≡ eqb s.here.base.0 0 → r ≡ true → false ≡ overlaps y.base.0 y.limit.0 (met_of a ws c)
  at_none r er t =
      let b = y.base.0 in
      let met = met_of a ws c in
      let f = reach-none b a.base.0 a.limit.0 met fit.apart (none-there met (reach b met) s reached r er t) in
      sym (ap (overlaps b y.limit.0) (sym (append-nil met)) ∙ overlaps-front b y.limit.0 rules.order met [] f)

  module _ (o : Option Join) (eo : o ≡ place_of a ws y s) where
    meets : not (is_some o) ≡ overlaps y.base.0 y.limit.0 (met_of a ws c)
    meets = ap (λ (v : Option Join). not (is_some v)) eo ∙ sym (insert-meets a ws c fit y s rules stands)

    pub at_place : (r : Bool) → is_some o ≡ not r → r ≡ overlaps y.base.0 y.limit.0 (met_of a ws c)
    at_place r e = turned r (is_some o) e ∙ meets

    pub put_refused : o ≡ None → (Err Refusal.Overlap ≡ put_of (met_of a ws c) y) × (ws ≡ put_words (met_of a ws c) y a.base.0 ws)
    unfolding put_of put_words
    put_refused f = let u : overlaps y.base.0 y.limit.0 (met_of a ws c) ≡ true = sym meets ∙ rw f in (rw u, rw u)

    -- it overlaps none
    pub join-there : overlaps y.base.0 y.limit.0 (met_of a ws c) ≡ false → is_some o ≡ true
    join-there d = not-false (is_some o) (meets ∙ d)

    module _ (j : Join) (ej : o ≡ Some j) where
      disjoint : overlaps y.base.0 y.limit.0 (met_of a ws c) ≡ false
      disjoint = sym meets ∙ rw ej

      done : Landed a ws c fit y s rules stands j (sym ej ∙ eo)
      done = landed a ws c fit y s rules stands j (sym ej ∙ eo)

      pub put-putting : Putting a.base.0 (length ws) c y j
      put-putting = done.ready

      pub join-done : (w : ChainJoined) (ws' : List ℕ) → (w ≡ join_done c y j) × (ws' ≡ store_words a.base.0 ws (join_edit j)) →
          (w ≡ joined_of (met_of a ws c) y) × (ws' ≡ joined_words (met_of a ws c) y a.base.0 ws)
      join-done w ws' q = (q.0 ∙ done.gives, q.1 ∙ done.words)

      pub put-done : (w : ChainJoined) (ws' : List ℕ) → (w ≡ join_done c y j) × (ws' ≡ store_words a.base.0 ws (join_edit j)) →
          (Ok w ≡ put_of (met_of a ws c) y) × (ws' ≡ put_words (met_of a ws c) y a.base.0 ws)
      unfolding put_of put_words
      put-done w ws' q =
          let d = join-done w ws' q in
          (rw disjoint (ap (λ (v : ChainJoined). Ok v) d.0), rw disjoint d.1)

-- A PART TAKEN OUT
module _ (a : Arena) (ws : List ℕ) (c : Chain) (s : Spot) (y : Range) (k : Holding a ws c s y) (u v : Range)
    (eu : u ≡ range_of s.here.base.0 y.base.0) (ev : v ≡ range_of y.limit.0 s.here.limit.0) where
  cut-same : record { prev = s.prev; low = u; high = v; next = s.next } ≡ cut_edit s y
  cut-same = ap₂ (λ (x z : Range). record { prev = s.prev; low = x; high = z; next = s.next }) eu ev

  pub cut-room : EditRoom a.base.0 (length ws) (record { prev = s.prev; low = u; high = v; next = s.next })
  cut-room = rw cut-same (held_cut a ws c s y k).room

  pub cut-chain : (m n : ℕ) → m ≡ one u → n ≡ one v → (z t : Size) → z.0 ≡ y.limit.0 - y.base.0 → t.0 ≡ c.bytes.0 - z.0 →
      (hd : Addr) → hd ≡ store_head c.head (record { prev = s.prev; low = u; high = v; next = s.next }) →
      record { head = hd; ranges = c.ranges - 1 + m + n; bytes = t } ≡ cut_chain (met_of a ws c) y
  cut-chain m n em en z t ez et hd p =
      let d = held_cut a ws c s y k in
      let b = et ∙ ap (λ (x : ℕ). c.bytes.0 - x) ez ∙ d.left in
      let g = p ∙ ap (store_head c.head) cut-same ∙ d.head in
      let r = ap₂ (λ (x w : ℕ). c.ranges - 1 + x + w) (em ∙ ap one eu) (en ∙ ap one ev) ∙ d.ranges in
      λ i. record { head = g i; ranges = r i; bytes = record { 0 = b i } }

  pub cut-words : (ws' : List ℕ) → ws' ≡ store_words a.base.0 ws (record { prev = s.prev; low = u; high = v; next = s.next }) →
      ws' ≡ cut_words (met_of a ws c) y a.base.0 ws
  cut-words ws' p = p ∙ ap (store_words a.base.0 ws) cut-same ∙ (held_cut a ws c s y k).words

pub ruleset cut-ways = (cut-room, cut-chain, cut-words)
