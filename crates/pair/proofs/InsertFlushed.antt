-- A range that has no free byte enters the flushed pair: that is the insert. Assumes nothing.
use Prim.Native.Nat.{ℕ, ◌≤◌, ◌<◌}
use mathlib.Core.Bool.{true, false, ◌||◌}
use mathlib.Core.List.{List, ◌++◌}
use mathlib.Core.Path.{◌≡◌, sym, ap, ap₂, subst, ◌∙◌}
use native.Mathlib.Omega.{arith}
use lib.Dec.{leb}
use lib.ListN.{length}
use Rattle.std.specs.Prelude.{Ok}
use Rattle.units.specs.declared.Range as units
use Rattle.units.proofs.Tests.{by, or_left, or_right, and_left}
use Rattle.model.specs.Marks.{Range, rng, struct, marks_of}
use Rattle.model.specs.inner.Lists.{Apart, overlaps, holder, insert_in}
use Rattle.model.specs.Flushing.{Flush}
use Rattle.model.proofs.Bytewise.{overlaps-none}
use Rattle.model.proofs.Requests.{range-rules}
use Rattle.list_words.specs.Laying.{lay}
use Rattle.list_words.specs.inner.Surveys.{kept_of}
use Rattle.list_words.specs.Words.{is_clean, sound_walk}
use Rattle.list_words.specs.declared.Spot.{Spot}
use Rattle.block_words.specs.declared.Entry.{Entry}
use Rattle.list_land.specs.Layout as list
use Rattle.list_land.specs.inner.Parts.{reach_base}
use Rattle.list_land.specs.declared.ListLand.{ListLand}
use Rattle.list_land.proofs.Sound as list-sound
use Rattle.block_words.specs.Words.{capacity, fill}
use Rattle.block_words.proofs.Filling.{length-fill, fill-fill}
use Rattle.block_land.specs.Layout as block
use Rattle.flush.specs.Flush.{check_of}
use Rattle.pair_model.specs.Pairs.{insert}
use Rattle.pair_model.proofs.InsertTurns.{no-overlap}
use Rattle.pair.specs.inner.Inserts.{counts_of, flush_of, flushed_counts, flushed_nodes, closed_by, entered, entered_words, entered_nodes, Open, Bare, Preparable}
use Rattle.pair.specs.declared.Changed.{Changed}
use Rattle.pair.specs.declared.Pair.{Pair}
use Rattle.pair.specs.declared.insert.Counts.{Counts}
use Rattle.pair.specs.declared.insert.Entered.{Entered}
use Rattle.pair.proofs.AfterFlush.{flushed_pair, After, after}
use Rattle.pair.proofs.Asking.{order, list-good}
use Rattle.pair.proofs.Calling.{flush-checked, accepts}
use Rattle.pair.proofs.Inserting.{is-insert, Inserts, table-asks}

-- a sound list ends clean
sound-clean : (h : ListLand) (ws : List ℕ) → list.sound h ws ≡ true → is_clean (list.walk_of h ws).end ≡ true
unfolding sound_walk
sound-clean h ws s = and_left _ _ (list-sound.sound-walk h ws s)

module _ (p : Pair) (ws vs : List ℕ) (y : units.Range) (s : Spot) (e : Entry) (k : Bare p ws vs y s e) where
  abbrev b : ℕ
  b = y.base.0

  abbrev l : ℕ
  l = y.limit.0

  abbrev fl : Flush
  fl = flush_of p ws vs

  good : check_of p.list ws p.block vs ≡ Ok tt
  good = flush-checked p ws vs (reach_base y) s e k.wanted.checked

  known : After p ws vs
  known = after p ws vs good

  pub bare-placed : Preparable p ws vs y e
  bare-placed = record { good = good; place = (table-asks p ws vs y s e k.wanted).1.1 }

  -- the flushed pair has no byte of the range
  none_free : (x : ℕ) → y.base.0 ≤ x → x < y.limit.0 → (marks_of fl.left x || marks_of fl.into x) ≡ false
  none_free x i j =
      let rs = (list.walk_of p.list ws).met in
      let qs = block.table_of p.block vs in
      known.moved.bytes x
      ∙ ap₂ ◌||◌ (overlaps-none b l rs (or_left (overlaps b l rs) (overlaps b l qs) k.none) x i j)
      (overlaps-none b l qs (or_right (overlaps b l rs) (overlaps b l qs) k.none) x i j)

  proper : y.base.0 < y.limit.0
  proper = order p ws vs y s e k.wanted

  list-disjoint : overlaps y.base.0 y.limit.0 fl.left ≡ false
  list-disjoint =
      no-overlap b l (block.base p.block) (block.limit p.block) fl.left proper known.moved.left_fine.canon.apart
      (λ x i j. or_left (marks_of fl.left x) (marks_of fl.into x) (none_free x i j))

  block-disjoint : overlaps y.base.0 y.limit.0 fl.into ≡ false
  block-disjoint =
      no-overlap b l (block.base p.block) (block.limit p.block) fl.into proper known.moved.into_fine.canon.apart
      (λ x i j. or_right (marks_of fl.left x) (marks_of fl.into x) (none_free x i j))

  -- the list before is what went and the list that is left
  whole : (list.walk_of p.list ws).met ≡ known.moved.gone ++ (list.walk_of (flushed_pair p ws vs).list ws).met
  whole = known.moved.split ∙ ap (λ (x : List Range). known.moved.gone ++ x) (sym known.in_list.same)

  opens : Open (flushed_pair p ws vs) ws (flushed_nodes p ws vs) y s
  opens = record {
    in_list = record {
      good = known.in_list.good;
      whole = known.in_list.whole;
      asked = list-good p ws vs y s e k.wanted;
      disjoint = rw known.in_list.same list-disjoint;
      left = record {
        listed = record {
          ready = (list-sound.placed (flushed_pair p ws vs).list ws known.in_list.good).ready;
          clean = sound-clean (flushed_pair p ws vs).list ws known.in_list.whole;
        };
        gone = known.moved.gone;
        apart = subst (λ (x : List Range). Apart (list.base p.list) (list.limit p.list) x) whole known.list_fine.apart;
        spot = k.wanted.checked.spot ∙ ap (λ (x : List Range). kept_of (reach_base y) x) whole;
      };
    };
    good = known.in_block.good;
    whole = known.in_block.whole;
    proper = proper;
    upto =
        let u = (range-rules (block.arena_of p.block vs) b l k.wanted.good).upto in
        let t = known.block_fine.place.arena.top in
        omega arith;
    disjoint = rw known.in_block.same block-disjoint;
  }

  -- IT ENTERS, AND BOTH LANDS ARE CLOSED
  abbrev Enters : Counts → List ℕ → Entered → List ℕ → List ℕ → Type 0
  Enters c vs' w ws₂ vs₂ = (w ≡ entered (closed_by p c) ws vs' y) × (ws₂ ≡ entered_words (closed_by p c) ws vs' y) × (vs₂ ≡ entered_nodes (closed_by p c) vs' y)

  abbrev closing : Entered → Changed
  closing w = record { pair = closed_by p w.counts; answer = 0; range = w.range }

  module _ (w : Entered) (ws₂ vs₂ : List ℕ) (f : Enters (flushed_counts p ws vs) (flushed_nodes p ws vs) w ws₂ vs₂) where
    -- told by the ranges
    into_block : leb (length (insert_in y.base.0 y.limit.0 fl.into)) (capacity vs) ≡ true → Inserts p ws vs y (closing w) ws₂ vs₂
    into_block t =
        let new = insert_in b l fl.into in
        let d = is-insert p ws vs y
        ∙ accepts p ws vs (reach_base y) s e k.wanted.checked (insert b l) (holder b l new) (rng 0 0) fl.left new (rw (k.wanted.good, k.none, block-disjoint, t)) in
        let x : w ≡ record { counts = counts_of fl.left new; range = struct (holder b l new) } = rw (known.in_block.same, length-fill fl.into vs, t) at f.0 in
        let u : ws₂ ≡ ws = rw (known.in_block.same, length-fill fl.into vs, t) at f.1 in
        let v : vs₂ ≡ fill new (flushed_nodes p ws vs) = rw (known.in_block.same, length-fill fl.into vs, t) at f.2 in
        (rw d (ap closing x), rw d (u ∙ sym known.same-words), rw d (v ∙ fill-fill new fl.into vs))

    into-list : leb (length (insert_in y.base.0 y.limit.0 fl.into)) (capacity vs) ≡ false → Inserts p ws vs y (closing w) ws₂ vs₂
    into-list t =
        let new = insert_in b l fl.left in
        let d = is-insert p ws vs y
        ∙ accepts p ws vs (reach_base y) s e k.wanted.checked (insert b l) (holder b l new) (rng 0 0) new fl.into (rw (k.wanted.good, k.none, block-disjoint, t, list-disjoint)) in
        let x : w ≡ record { counts = counts_of new fl.into; range = struct (holder b l new) } =
        rw (known.in_block.same, known.in_list.same, length-fill fl.into vs, t) at f.0 in
        let u : ws₂ ≡ lay (list.base p.list) new ws = rw (known.in_block.same, known.in_list.same, length-fill fl.into vs, t) at f.1 in
        let v : vs₂ ≡ flushed_nodes p ws vs = rw (known.in_block.same, length-fill fl.into vs, t) at f.2 in
        (rw d (ap closing x), rw d u, rw d v)

    enters : Inserts p ws vs y (closing w) ws₂ vs₂
    enters = by (leb (length (insert_in b l fl.into)) (capacity vs)) into_block into-list

  module _ (c : Counts) (vs' : List ℕ) (f : (c ≡ flushed_counts p ws vs) × (vs' ≡ flushed_nodes p ws vs)) where
    pub bare-open : Open (closed_by p c) ws vs' y s
    bare-open =
        subst (λ (x : Counts). Open (closed_by p x) ws vs' y s) (sym f.0)
        (subst (λ (x : List ℕ). Open (flushed_pair p ws vs) ws x y s) (sym f.1) opens)

    pub bare-0 : (w : Entered) (ws₂ vs₂ : List ℕ) → (w ≡ entered (closed_by p c) ws vs' y) × (ws₂ ≡ entered_words (closed_by p c) ws vs' y) × (vs₂ ≡ entered_nodes (closed_by p c) vs' y) →
        (z : Pair) → z ≡ closed_by p w.counts → Inserts p ws vs y (record { pair = z; answer = 0; range = w.range }) ws₂ vs₂
    bare-0 w ws₂ vs₂ g z ez =
        subst (λ (x : Pair). Inserts p ws vs y (record { pair = x; answer = 0; range = w.range }) ws₂ vs₂) (sym ez)
        (enters w ws₂ vs₂
        (subst (λ (x : List ℕ). Enters (flushed_counts p ws vs) x w ws₂ vs₂) f.1
        (subst (λ (x : Counts). Enters x vs' w ws₂ vs₂) f.0 g)))
