-- The ways out of a find of a pair: 5, 6, 4, 2, the find in the list, the find in the block land. Assumes nothing.
use Prim.Native.Nat.{ℕ, ◌<◌}
use mathlib.Core.Bool.{Bool, true, cond}
use mathlib.Core.List.{List}
use mathlib.Core.Path.{◌≡◌, refl, sym, ap, ap₂, subst, ◌∙◌}
use Rattle.std.specs.Prelude.{Result, Ok, Err}
use Rattle.std.specs.Prelude.{Option as Maybe, Some, None}
use Rattle.units.specs.declared.refusals.Refusal.{Refusal}
use Rattle.units.specs.inner.Aims as units-aims
use Rattle.units.specs.Rules.{good_align, find_check, find_size, refusal_number}
use Rattle.units.specs.declared.Mode.{Mode}
use Rattle.units.specs.declared.Range as units
use Rattle.units.specs.declared.Size.{Size}
use Rattle.units.specs.declared.Which.{Which}
use Rattle.units.specs.declared.aims.Aim.{Aim}
use Rattle.units.specs.declared.rules.Arena as units-arena
use Rattle.units.specs.declared.rules.SizeError.{SizeError}
use Rattle.units.proofs.Alignments.{align-positive}
use Rattle.model.specs.Calls as land
use Rattle.model.specs.Calls.{Arena, Step, good_size_in, size_number_in, find_size_in, unbounded}
use Rattle.model.specs.Marks.{Range}
use Rattle.model.specs.inner.Steps.{list_ops, choose, step}
use Rattle.model.proofs.Checks.{size-bad, size-good}
use Rattle.model.proofs.lands.FindAnswers.{chosen, chosen-above, chosen-order}
use Rattle.model.proofs.lands.Looking.{handle-back}
use Rattle.model.proofs.Requests.{size-refused}
use Rattle.list_words.specs.declared.Spot.{Spot}
use Rattle.list_land.specs.Calls as list-calls
use Rattle.list_land.specs.Layout as list
use Rattle.list_land.specs.inner.Parts as list-parts
use Rattle.list_land.proofs.Land.{list_land}
use Rattle.block_words.specs.declared.Entry.{Entry}
use Rattle.block_land.specs.Calls as block-calls
use Rattle.block_land.specs.Layout as block
use Rattle.block_land.specs.inner.Parts as block-parts
use Rattle.block_land.proofs.Land.{block_land}
use Rattle.block_land.proofs.Sound as block-sound
use Rattle.flush.proofs.FlushKeeps.{OneArena}
use Rattle.pair_model.specs.Pairs.{both, Sets, find, keep, in_list, in_block, find_in, pair_step}
use Rattle.pair.specs.Calls.{called, found, found_of}
use Rattle.pair.specs.inner.Finding.{Sought, find_aim, Ordered, side_of, ListChosen, BlockChosen, list_found, block_found}
use Rattle.pair.specs.inner.Parts.{aim_in, check_of, Checked, found_none}
use Rattle.pair.specs.declared.Found.{Found}
use Rattle.pair.specs.declared.Pair.{Pair}
use Rattle.pair.specs.declared.find.Side.{Side}
use Rattle.pair.proofs.Checking.{block_up, same_up}
use Rattle.pair.proofs.Calling.{Hands, answers-err, list-looked, block-looked, refuses, accepts, refuse}
use Rattle.pair.proofs.FindLands.{find-accepts, find-done}
use Rattle.pair.proofs.Sides.{list-there, block-there, by_side, side-step}

pub is_found : (p : Pair) (ws vs : List ℕ) (w : Which) (n : ℕ) (mode : Mode) → found p ws vs w n mode ≡ called (find w n mode) p ws vs
unfolding found
is_found p ws vs w n mode = refl

module _ (p : Pair) (ws vs : List ℕ) (w : Which) (n : Size) (mode : Mode) (s : Spot) (e : Entry) (k : Checked p ws vs (find_aim p w n) s e) where
  abbrev rs : List Range
  rs = (list.walk_of p.list ws).met

  abbrev qs : List Range
  qs = block.table_of p.block vs

  abbrev sets : Sets
  sets = both rs qs

  abbrev a : Arena
  a = block.arena_of p.block vs

  abbrev c : land.Call
  c = land.find w n.0 mode

  abbrev Gives : Found → List ℕ → List ℕ → Type 0
  Gives = Hands found_of (found p ws vs w n.0 mode)

  one : OneArena p.list p.block
  one = same_up p ws vs k.good

  in-list-kept : list-parts.Looked p.list ws (list-parts.find_aim p.list w n) s
  in-list-kept =
      subst (λ (x : ℕ). list-parts.Looked p.list ws (Aim.Find w (record { 0 = find_size x n.0 })) s) (sym one.align)
      (list-looked p ws vs (find_aim p w n) s e k)

  in-block-kept : block-parts.Looked p.block vs (block-parts.find_aim p.block w n) e
  in-block-kept = block-looked p ws vs (find_aim p w n) s e k

  pub find-ordered : Ordered s.here e.here
  find-ordered = record { list = chosen-order list_land p.list ws w n s in-list-kept; block = chosen-order block_land p.block vs w n e in-block-kept }

  module _ (g : good_size_in (block.arena_of p.block vs) w n.0 ≡ true) (t : Maybe Side) (et : t ≡ side_of w s.here e.here) where
    -- the step is the one of the side that the code takes
    stepped : pair_step (block.arena_of p.block vs) (find w n.0 mode) (both (list.walk_of p.list ws).met (block.table_of p.block vs))
        ≡ by_side (block.arena_of p.block vs) (land.find w n.0 mode) w (both (list.walk_of p.list ws).met (block.table_of p.block vs)) t
    stepped =
        ap (λ (x : Bool). cond x (find_in a c w sets (choose w (find_size_in a n.0) rs) (choose w (find_size_in a n.0) qs)) (keep (size_number_in a w n.0) sets)) g
        ∙ side-step a c w sets (choose w (find_size_in a n.0) rs) (choose w (find_size_in a n.0) qs)
        (chosen-above list_land p.list ws w n s in-list-kept) (chosen-above block_land p.block vs w n e in-block-kept)
        ∙ ap₂ (λ (x y : units.Range). by_side a c w sets (side_of w x y)) (sym (chosen list_land p.list ws w n s in-list-kept)) (sym (chosen block_land p.block vs w n e in-block-kept))
        ∙ ap (by_side a c w sets) (sym et)

    pub find-2 : t ≡ None → (v : Found) → v ≡ found_none p 2 → Gives v ws vs
    find-2 h v ev =
        refuse found_of p ws vs 2 (found p ws vs w n.0 mode)
        (is_found p ws vs w n.0 mode
        ∙ refuses p ws vs (find_aim p w n) s e k (find w n.0 mode) 2 refl (stepped ∙ ap (by_side a c w sets) h)) v ev

    module _ (h : t ≡ Some Side.List) where
      pub list-chosen : ListChosen p.list ws w n s
      list-chosen = record {
        looked = in-list-kept;
        good = rw (one.base, one.limit, one.align) g;
        there = list-there w s.here e.here (sym et ∙ h);
      }

      list-arena : unbounded (block.arena_of p.block vs) ≡ list.arena_of p.list
      list-arena = rw (one.base, one.limit, one.align)

      list-is : found p ws vs w n.0 mode ≡ record {
        out = (list-calls.found p.list ws w n.0 mode).out;
        handle = both (list-calls.found p.list ws w n.0 mode).handle p.block;
        words = both (list-calls.found p.list ws w n.0 mode).words vs;
      }
      list-is =
          let u = find-accepts list_land p.list ws w n mode s list-chosen in
          let d = sym (find-done list_land p.list ws w n mode s list-chosen) in
          let b = handle-back block_land p.block vs in-block-kept.good in-block-kept.whole in
          let v = block_land.words_back p.block vs in-block-kept.good in-block-kept.whole in
          is_found p ws vs w n.0 mode
          ∙ accepts p ws vs (find_aim p w n) s e k (find w n.0 mode) u.part u.old u.next qs
          (stepped ∙ ap (by_side a c w sets) h ∙ ap (λ (x : Arena). in_list (step list_ops x c rs) qs) list-arena ∙ ap (λ (x : Step (List Range)). in_list x qs) u.step)
          ∙ (λ i. record { out = (d i).out; handle = both (d i).handle (b i); words = both (d i).words (v i) })

      pub find-list : (v : Found) (ws' : List ℕ) →
          (v ≡ list_found p (list-calls.found p.list ws w n.0 mode)) × (ws' ≡ (list-calls.found p.list ws w n.0 mode).words) → Gives v ws' vs
      find-list v ws' u = (rw list-is u.0, rw list-is u.1, rw list-is)

    module _ (h : t ≡ Some Side.Block) where
      pub block-chosen : BlockChosen p.block vs w n e
      block-chosen = record { looked = in-block-kept; good = g; there = block-there w s.here e.here (sym et ∙ h) }

      block-is : found p ws vs w n.0 mode ≡ record {
        out = (block-calls.found p.block vs w n.0 mode).out;
        handle = both p.list (block-calls.found p.block vs w n.0 mode).handle;
        words = both ws (block-calls.found p.block vs w n.0 mode).words;
      }
      block-is =
          let u = find-accepts block_land p.block vs w n mode e block-chosen in
          let d = sym (find-done block_land p.block vs w n mode e block-chosen) in
          let b = handle-back list_land p.list ws in-list-kept.good in-list-kept.whole in
          let v = list_land.words_back p.list ws in-list-kept.good in-list-kept.whole in
          is_found p ws vs w n.0 mode
          ∙ accepts p ws vs (find_aim p w n) s e k (find w n.0 mode) u.part u.old rs u.next
          (stepped ∙ ap (by_side a c w sets) h ∙ ap (in_block rs) u.step)
          ∙ (λ i. record { out = (d i).out; handle = both (b i) (d i).handle; words = both (v i) (d i).words })

      pub find-block : (v : Found) (vs' : List ℕ) →
          (v ≡ block_found p (block-calls.found p.block vs w n.0 mode)) × (vs' ≡ (block-calls.found p.block vs w n.0 mode).words) → Gives v ws vs'
      find-block v vs' u = (rw block-is u.0, rw block-is, rw block-is u.1)

-- WHAT A CHECK FOR A FIND SAYS
module _ (p : Pair) (ws vs : List ℕ) (w : Which) (n : Size) (mode : Mode) (v : Result (Spot × Entry) Refusal) (ev : v ≡ check_of p ws vs (Aim.Find w n)) where
  pub find-err : (x : Refusal) → v ≡ Err x → (r : Found) → r ≡ found_none p (refusal_number x) → Hands found_of (found p ws vs w n.0 mode) r ws vs
  find-err = answers-err p ws vs (Aim.Find w n) v ev found_of (find w n.0 mode) (found p ws vs w n.0 mode) (is_found p ws vs w n.0 mode)

-- THE SIZE
module _ (p : Pair) (ws vs : List ℕ) (w : Which) (n : Size) (s : Spot) (e : Entry) (k : Checked p ws vs (aim_in p (Aim.Find w n)) s e)
    (x : units-arena.Arena) (ex : x ≡ block-parts.arena_in p.block) where
  pub find-align : good_align x.align.0 ≡ true
  find-align = rw ex (block-sound.placed p.block vs (block_up p ws vs k.good)).arena.align

  pub find-positive : 0 < x.align.0
  find-positive = align-positive x.align.0 find-align

  -- the arena of the block land is that of the list
  one-arena : list-parts.arena_in p.list ≡ block-parts.arena_in p.block
  one-arena =
      let o = same_up p ws vs k.good in
      λ i. record { base = record { 0 = o.base i }; limit = record { 0 = o.limit i }; align = record { 0 = o.align i } }

  module _ (c : Result (Unit {0}) SizeError) (ec : c ≡ find_check w x.base.0 x.limit.0 x.align.0 n.0) where
    pub find-4 : (c ≡ Ok tt → ⊥) → (mode : Mode) (r : Found) → r ≡ found_none p 4 → Hands found_of (found p ws vs w n.0 mode) r ws vs
    find-4 o mode =
        let z = size-refused (block.arena_of p.block vs) w n.0 (size-bad (block.arena_of p.block vs) x ex w n.0 c ec o) in
        refuse found_of p ws vs 4 (found p ws vs w n.0 mode)
        (is_found p ws vs w n.0 mode ∙ refuses p ws vs (aim_in p (Aim.Find w n)) s e k (find w n.0 mode) 4 refl (rw z))

    pub find-ready : c ≡ Ok tt → Sought p ws vs w n s e
    find-ready g =
        let a = block-parts.arena_in p.block in
        let f : find_check w a.base.0 a.limit.0 a.align.0 n.0 ≡ Ok tt =
        ap (λ (y : units-arena.Arena). find_check w y.base.0 y.limit.0 y.align.0 n.0) (sym ex) ∙ sym ec ∙ g in
        let q : aim_in p (Aim.Find w n) ≡ find_aim p w n =
        ap (λ (y : units-arena.Arena). units-aims.aim_of y (Aim.Find w n)) one-arena
        ∙ ap (λ (y : Result (Unit {0}) SizeError). units-aims.find_aim y w (record { 0 = find_size a.align.0 n.0 })) f in
        (rw q at k, size-good (block.arena_of p.block vs) x ex w n.0 c ec g)
