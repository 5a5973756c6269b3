-- A flush, and a range that enters the flushed pair: the ways out of `Pair::flushed`, `Pair::enter_list` and `Pair::enter`. Assumes nothing.
use Prim.Native.Nat.{ℕ, ◌+◌, ◌-◌, ◌<◌}
use mathlib.Core.Bool.{Bool, true, false, cond}
use mathlib.Core.List.{List}
use mathlib.Core.Path.{◌≡◌, refl, sym, ap, ◌∙◌}
use native.Mathlib.Omega.{arith}
use lib.ListN.{length}
use Rattle.std.specs.Prelude.{Result, Ok, Err}
use Rattle.units.specs.declared.refusals.Refusal.{Refusal}
use Rattle.units.specs.declared.Range as units
use Rattle.units.specs.declared.Size.{Size}
use Rattle.units.specs.declared.aims.Aim.{Aim}
use Rattle.units.specs.declared.rules.Arena.{Arena}
use Rattle.model.specs.Marks.{Range, struct, total}
use Rattle.model.specs.inner.Lists.{overlaps, holder}
use Rattle.model.proofs.Totals.{total-insert}
use Rattle.list_words.specs.inner.Surveys.{walk_of, kept_of}
use Rattle.list_words.specs.declared.Spot as list-spot
use Rattle.list_edits.specs.declared.ChainJoined as list-joined
use Rattle.block_words.specs.inner.Surveys.{FirstReach}
use Rattle.list_land.specs.Layout as list
use Rattle.list_land.specs.inner.Parts as list-parts
use Rattle.list_land.specs.declared.ListLand.{ListLand}
use Rattle.block_edits.specs.inner.Edits as edits
use Rattle.block_edits.specs.inner.Edits.{Sorted, done_by}
use Rattle.block_edits.specs.declared.TableEdited.{TableEdited}
use Rattle.block_edits.proofs.Answered.{Did}
use Rattle.block_land.specs.Layout as block
use Rattle.block_land.specs.inner.Parts as block-parts
use Rattle.block_land.specs.declared.BlockLand.{BlockLand}
use Rattle.block_land.proofs.Requests.{whole, sorted, few_bytes}
use Rattle.flush.specs.Flush.{Done, check_of, flushed}
use Rattle.flush.specs.declared.Flushed.{Flushed}
use Rattle.flush.proofs.FlushKeeps.{checked, is-accepted}
use Rattle.pair_words.specs.inner.Lefts.{Left}
use Rattle.pair.specs.inner.Inserts.{flushed_counts, flushed_nodes, enter_list, enter_words, Roomless, blocked, roomy, entered_nodes, entered, entered_words, Open}
use Rattle.pair.specs.declared.Pair.{Pair}
use Rattle.pair.specs.declared.insert.Counts.{Counts}
use Rattle.pair.specs.declared.insert.Entered.{Entered}
use Rattle.pair.proofs.LandEdits.{JoinAsks, JoinGives, join-asks, join-done}

-- THE FLUSH
abbrev counts_in : ListLand → BlockLand → Counts
counts_in h k = record { chain = list-parts.chain_in h; ranges = k.ranges; bytes = k.bytes }

pub flushed-counts : (p : Pair) (ws vs : List ℕ) → check_of p.list ws p.block vs ≡ Ok tt → (vs' : List ℕ) (h : ListLand) (k : BlockLand) (m s : ℕ) →
    (record { list = h; block = k; answer = 0; moved = m; stop = s } ≡ (flushed p.list ws p.block vs).result) × (vs' ≡ (flushed p.list ws p.block vs).nodes) →
    (counts_in h k ≡ flushed_counts p ws vs) × (vs' ≡ flushed_nodes p ws vs)
flushed-counts p ws vs g vs' h k m s e =
    let d = is-accepted p.list ws p.block vs (checked p.list ws p.block vs g) in
    (ap (λ (f : Flushed). counts_in f.list f.block) (e.0 ∙ ap (λ (x : Done). x.result) d), e.1 ∙ ap (λ (x : Done). x.nodes) d)

-- INTO THE LIST
module _ (p : Pair) (ws : List ℕ) (y : units.Range) (s : list-spot.Spot) (k : Roomless p ws y s) where
  module _ (a : Arena) (ea : a ≡ list-parts.arena_in p.list) where
    pub enter-left : Left a ws p.list.head y.base s
    enter-left = rw ea k.left

    pub enter-asks : (t : list-spot.Spot) → t ≡ kept_of (Aim.Reach y.base) (walk_of a ws p.list.head.0).met → JoinAsks a ws (list-parts.chain_in p.list) y t
    enter-asks t et =
        let u : t ≡ kept_of (Aim.Reach y.base) (list.walk_of p.list ws).met = rw ea at et in
        join-asks p.list ws y a ea (list-parts.chain_in p.list) refl t (record { good = k.good; whole = k.whole; kept = u }) k.asked k.disjoint

    abbrev listed : list-joined.ChainJoined → Entered
    listed j = record { counts = record { chain = j.chain; ranges = p.block.ranges; bytes = p.block.bytes }; range = j.range }

    pub enter-listed : (j : list-joined.ChainJoined) (ws' : List ℕ) → JoinGives a ws (list-parts.chain_in p.list) y j ws' →
        (listed j ≡ enter_list p ws y) × (ws' ≡ enter_words p ws y)
    enter-listed j ws' e = let d = join-done p.list ws y a ea (list-parts.chain_in p.list) refl j ws' e in (ap listed d.0, d.1)

-- INTO THE BLOCK LAND
module _ (r : Range) (n : ℕ) where
  joined-full : (room : Bool) (x : Refusal) → cond room (Ok (done_by (struct r) n)) (Err Refusal.Full) ≡ Err x → room ≡ false
  joined-full true x e = let z : ◌≡◌ {A = ℕ} 0 1 = cc in absurd (omega arith)
  joined-full false x e = refl

  joined-done : (room : Bool) (x : TableEdited) → cond room (Ok (done_by (struct r) n)) (Err Refusal.Full) ≡ Ok x → Did false room r n x.range x.count
  joined-done true x e =
      let q : done_by (struct r) n ≡ x = cc in
      record { good = refl; fits = refl; range = ap (λ (v : TableEdited). v.range) (sym q); count = ap (λ (v : TableEdited). v.count) (sym q) }
  joined-done false x e = let z : ◌≡◌ {A = ℕ} 0 1 = cc in absurd (omega arith)

module _ (p : Pair) (ws vs : List ℕ) (y : units.Range) (s : list-spot.Spot) (k : Open p ws vs y s) where
  read : block-parts.Readable p.block vs
  read = record { good = k.good; whole = k.whole }

  pub enter-sorted : (i : ℕ) → FirstReach vs p.block.ranges y.base.0 i →
      Sorted vs p.block.ranges × ((y.base.0 < y.limit.0) × (FirstReach vs p.block.ranges y.base.0 i × (overlaps y.base.0 y.limit.0 (block.table_of p.block vs) ≡ false)))
  enter-sorted i t = (sorted p.block vs read, (k.proper, (t, k.disjoint)))

  abbrev Enters : Entered → List ℕ → List ℕ → Type 0
  Enters w ws' vs' = (w ≡ entered p ws vs y) × (ws' ≡ entered_words p ws vs y) × (vs' ≡ entered_nodes p vs y)

  module _ (d : Result TableEdited Refusal) (vs' : List ℕ) (ed : (d ≡ edits.joined_of vs p.block.ranges y) × (vs' ≡ edits.joined_words vs p.block.ranges y)) where
    pub enter-full : (x : Refusal) → d ≡ Err x → (w : Entered) (ws' : List ℕ) → (w ≡ enter_list p ws y) × (ws' ≡ enter_words p ws y) → Enters w ws' vs'
    enter-full x f w ws' q =
        let o = joined-full (holder y.base.0 y.limit.0 (blocked p vs y)) (length (blocked p vs y)) (roomy p vs y) x (sym ed.0 ∙ f) in
        (rw o q.0, rw o q.1, ed.1)

    module _ (x : TableEdited) (f : d ≡ Ok x) (z : Size) (ez : z.0 ≡ y.limit.0 - y.base.0) where
      pub enter-room : p.block.bytes.0 + z.0 < 18446744073709551616
      enter-room = let t = few_bytes p.block vs read in let u = k.upto in omega arith

      pub enter-blocked : (t : Size) → t.0 ≡ p.block.bytes.0 + z.0 →
          Enters (record { counts = record { chain = list-parts.chain_in p.list; ranges = x.count; bytes = t }; range = x.range }) ws vs'
      enter-blocked t et =
          let o = joined-done (holder y.base.0 y.limit.0 (blocked p vs y)) (length (blocked p vs y)) (roomy p vs y) x (sym ed.0 ∙ f) in
          let u = total-insert y.base.0 y.limit.0 (block.base p.block) (block.limit p.block) (block.table_of p.block vs) k.proper (whole p.block vs read).apart in
          let n = (whole p.block vs read).bytes in
          let e : t.0 ≡ total (blocked p vs y) = omega arith in
          let c = o.count in
          let v = o.range in (
            rw o.fits (λ i. record { counts = record { chain = list-parts.chain_in p.list; ranges = c i; bytes = record { 0 = e i } }; range = v i }),
            rw o.fits,
            ed.1,
          )
