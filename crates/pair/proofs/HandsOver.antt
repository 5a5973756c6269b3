-- A delete in the block land that has no room: the lower fragment stays there, and the upper goes to the list. Assumes nothing.
use Prim.Native.Nat.{ℕ, ◌<◌}
use mathlib.Core.Bool.{true, false}
use mathlib.Core.List.{List}
use mathlib.Core.Logic.{inr}
use mathlib.Core.Path.{◌≡◌, sym, ap, subst, ◌∙◌}
use native.Mathlib.Omega.{arith}
use borrow.Author.Tests.{ne_eqb}
use Rattle.units.specs.inner.Aims.{is_none}
use Rattle.units.specs.Words.{range_of}
use Rattle.units.specs.declared.Range as units
use Rattle.units.specs.declared.rules.Arena as arenas
use Rattle.units.proofs.Tests.{by, clash}
use Rattle.model.specs.Answers.{RangeRules}
use Rattle.model.specs.Calls.{Arena, good_range_in}
use Rattle.model.specs.Marks.{Range, struct, marks_of}
use Rattle.model.specs.inner.Lists.{overlaps, holds, holder, insert_in, delete_from}
use Rattle.model.specs.inner.Picks.{here_of}
use Rattle.model.proofs.Bytes.{mem-from, mem-upto}
use Rattle.model.proofs.Bytewise.{holds-all}
use Rattle.model.proofs.Parts.{Stands, mem-stands}
use Rattle.model.proofs.lands.Looking.{kept-reach}
use Rattle.model.proofs.Requests.{range-rules, rules-range}
use Rattle.model.proofs.Surrounding.{Held, held}
use Rattle.list_words.specs.Laying.{lay}
use Rattle.list_words.specs.declared.Chain.{Chain}
use Rattle.list_words.specs.declared.Spot.{Spot}
use Rattle.list_land.specs.Layout as list
use Rattle.list_land.specs.inner.Parts.{arena_in, chain_in, reach_limit}
use Rattle.list_land.specs.declared.ListLand.{ListLand}
use Rattle.block_words.specs.Words.{fill}
use Rattle.block_words.specs.declared.Entry.{Entry}
use Rattle.block_edits.specs.inner.Places.{Holding}
use Rattle.block_edits.proofs.Entering.{Numbered, kept-numbered}
use Rattle.block_land.specs.Layout as block
use Rattle.block_land.specs.declared.BlockLand.{BlockLand}
use Rattle.block_land.proofs.Land.{block_land}
use Rattle.block_land.proofs.Requests.{sorted}
use Rattle.block_land.proofs.Sound.{Fine}
use Rattle.flush.proofs.FlushKeeps.{checked, list-canon, block-canon}
use Rattle.pair_model.specs.Pairs.{both}
use Rattle.pair_model.specs.PairLayouts.{PairFine}
use Rattle.pair_model.proofs.HandingOver.{upper}
use Rattle.pair_model.proofs.InsertTurns.{no-overlap}
use Rattle.pair_model.proofs.PairLaws.{meet-disjoint}
use Rattle.pair.specs.inner.Deletes.{Asked, Spilling}
use Rattle.pair.specs.inner.Editing.{list_more, table_less, TakingTabled}
use Rattle.pair.specs.declared.Pair.{Pair}
use Rattle.pair.proofs.Calling.{apart, list-looked, flush-checked}
use Rattle.pair.proofs.Checking.{same_up}
use Rattle.pair.proofs.Asking.{block_fine, readable, order}
use Rattle.pair.proofs.DeleteAnswers.{Deletes, does}
use Rattle.pair.proofs.LandEdits.{JoinAsks, join-asks}
use Rattle.pair.proofs.ReachedHere.{reach-holder}

module _ (p : Pair) (ws vs : List ℕ) (y : units.Range) (s : Spot) (e : Entry) (k : Spilling p ws vs y s e) where
  abbrev b : ℕ
  b = y.base.0

  abbrev l : ℕ
  l = y.limit.0

  abbrev rs : List Range
  rs = (list.walk_of p.list ws).met

  abbrev qs : List Range
  qs = block.table_of p.block vs

  abbrev a : Arena
  a = block.arena_of p.block vs

  abbrev q : Range
  q = holder b l qs

  asked : Asked p ws vs y s e
  asked = k.asked.asked

  fine : Fine p.block vs
  fine = block_fine p ws vs y s e asked

  both-fine : PairFine a (both rs qs)
  both-fine =
      let c = checked p.list ws p.block vs (flush-checked p ws vs (reach_limit y) s e asked.checked) in
      record {
        list_fine = list-canon p.list ws p.block vs c;
        block_fine = block-canon p.list ws p.block vs c;
        disjoint = meet-disjoint rs qs (apart p ws vs (reach_limit y) s e asked.checked);
      }

  in-q : Held b l qs
  in-q = held b l qs k.held

  stands : Stands a.align qs q
  stands = mem-stands a.align a.base a.limit qs q fine.apart fine.aligned in-q.mem

  -- an upper fragment is left
  above : l < q.limit
  above = upper a b l asked.good (both rs qs) both-fine k.held (rw (asked.good, k.held, k.full))

  low : b < q.limit
  low = let o = order p ws vs y s e asked in let u = above in omega arith

  -- the entry is the range that holds the request
  q-here : e.here ≡ struct q
  q-here =
      kept-reach block_land y.limit a.base a.limit qs fine.place.arena.above fine.apart e asked.checked.entry
      ∙ ap here_of (reach-holder b l a.base a.limit qs (order p ws vs y s e asked) fine.apart k.held)

  rules : RangeRules a l q.limit
  rules =
      let r = range-rules a b l asked.good in
      record {
        order = above;
        base_aligned = r.limit_aligned;
        limit_aligned = stands.limit_aligned;
        from = omega (arith, r.from, r.order);
        upto = mem-upto a.base a.limit qs q fine.apart in-q.mem;
      }

  upper-good : good_range_in (list.arena_of p.list) l q.limit ≡ true
  upper-good = let o = same_up p ws vs asked.checked.good in rw (o.base, o.limit, o.align) (rules-range a l q.limit rules)

  holds-rest : holds b q.limit qs ≡ true
  holds-rest = stands.holds-part b q.limit in-q.low (omega arith)

  upper-apart : overlaps l q.limit rs ≡ false
  upper-apart =
      no-overlap l q.limit a.base a.limit rs above both-fine.list_fine.canon.apart
      (λ x i j. by (marks_of rs x)
      (λ m. clash (holds-all b q.limit qs holds-rest x (omega (arith, order p ws vs y s e asked)) j) (both-fine.disjoint x m))
      (λ m. m))

  -- its number in the table
  numbered : Numbered vs p.block.ranges e
  numbered =
      let f = mem-from a.base a.limit qs q fine.apart in-q.mem in
      let z = fine.place.arena.above in
      let n : is_none e.here ≡ false = rw q-here (ne_eqb q.base 0 (λ w. omega arith)) in
      let en = asked.checked.entry in
      subst (λ (x : Entry). Numbered vs p.block.ranges x) (sym en)
      (kept-numbered vs p.block.ranges (reach_limit y) fine.fits (rw en at n))

  module _ (u : units.Range) (eu : u ≡ range_of y.limit.0 e.here.limit.0) where
    is-upper : u ≡ range_of l q.limit
    is-upper = eu ∙ ap (λ (r : units.Range). range_of l r.limit.0) q-here

    pub over-asks : (t : arenas.Arena) → t ≡ arena_in p.list → (c : Chain) → c ≡ chain_in p.list → JoinAsks t ws c u s
    over-asks t et c ec =
        join-asks p.list ws u t et c ec s
        (rw is-upper (list-looked p ws vs (reach_limit y) s e asked.checked)) (rw is-upper upper-good) (rw is-upper upper-apart)

    module _ (m : units.Range) (em : m ≡ range_of y.base.0 e.here.limit.0) where
      is-above : m ≡ range_of b q.limit
      is-above = em ∙ ap (λ (r : units.Range). range_of b r.limit.0) q-here

      at_pair : Holding vs p.block.ranges e.number (range_of b q.limit)
      at_pair =
          let h = sym q-here ∙ numbered.here in
          let lo = ap (λ (r : units.Range). r.base.0) h in
          let hi = ap (λ (r : units.Range). r.limit.0) h in
          let g = in-q.low in
          record {
            sorted = sorted p.block vs (readable p ws vs y s e asked);
            inside = numbered.inside;
            low = omega arith;
            proper = low;
            high = omega arith;
          }

      pub over-takes : TakingTabled p.block vs e.number m
      over-takes =
          subst (λ (x : units.Range). TakingTabled p.block vs e.number x) (sym is-above)
          (record {
            readable = readable p ws vs y s e asked;
            at_pair = at_pair;
            held = holds-rest;
            at_end = inr (ap (λ (r : units.Range). r.limit.0) (sym q-here ∙ numbered.here));
          })

      pub over-0 : (h : ListLand) (ws' : List ℕ) → (h ≡ list.closed p.list (list_more p.list ws u)) × (ws' ≡ lay (list.base p.list) (list_more p.list ws u) ws) →
          (n : BlockLand) (vs' : List ℕ) → (n ≡ block.closed p.block (table_less p.block vs m)) × (vs' ≡ fill (table_less p.block vs m) vs) →
          Deletes p ws vs y (record { pair = record { list = h; block = n }; answer = 0; range = e.here }) ws' vs'
      over-0 h ws' f n vs' g =
          let c : (h ≡ list.closed p.list (insert_in l q.limit rs)) × (ws' ≡ lay (list.base p.list) (insert_in l q.limit rs) ws) = rw is-upper at f in
          let d : (n ≡ block.closed p.block (delete_from b q.limit qs)) × (vs' ≡ fill (delete_from b q.limit qs) vs) = rw is-above at g in
          does p ws vs y s e asked q (insert_in l q.limit rs) (delete_from b q.limit qs) (rw (asked.good, k.asked.unlisted, k.held, k.full))
          e.here q-here h c.0 n d.0 ws' vs' c.1 d.1
