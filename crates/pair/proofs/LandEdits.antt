-- The edits of one land of a pair: a range put into the list, and the ways out of `take_listed` and `take_tabled`. Assumes nothing.
use Prim.Native.Nat.{ℕ, ◌+◌, ◌-◌, ◌≤◌}
use mathlib.Core.Bool.{true, false}
use mathlib.Core.List.{List}
use mathlib.Core.Path.{◌≡◌, sym, ap, ◌∙◌}
use native.Mathlib.Omega.{arith}
use lib.ListN.{length}
use Rattle.units.specs.declared.Range as units
use Rattle.units.specs.declared.Size.{Size}
use Rattle.units.specs.declared.rules.Arena.{Arena}
use Rattle.model.specs.Marks.{Range, total}
use Rattle.model.specs.inner.Lists.{overlaps}
use Rattle.model.specs.Calls.{good_range_in}
use Rattle.model.proofs.Totals.{total-delete}
use Rattle.list_words.specs.Laying.{lay}
use Rattle.list_words.specs.declared.Chain.{Chain}
use Rattle.list_words.specs.declared.Spot.{Spot}
use Rattle.list_edits.specs.inner.Chains as chains
use Rattle.list_edits.specs.inner.Chains.{met_of, Held, Holding, may_ask, joined_of, joined_words, cut_chain}
use Rattle.list_edits.specs.declared.ChainJoined.{ChainJoined}
use Rattle.list_land.specs.Layout as list
use Rattle.list_land.specs.inner.Parts.{arena_in, chain_in, Looked, reach_base}
use Rattle.list_land.specs.Layout.{closed_with}
use Rattle.list_land.specs.declared.ListLand.{ListLand}
use Rattle.list_land.proofs.Requests as list-requests
use Rattle.block_words.specs.Words.{fill}
use Rattle.block_land.specs.Layout as block
use Rattle.block_land.specs.declared.BlockLand.{BlockLand}
use Rattle.block_land.proofs.LayoutLaws.{closed-as}
use Rattle.block_land.proofs.Requests.{whole}
use Rattle.pair.specs.inner.Editing.{list_less, list_more, table_less, TakingListed, TakingTabled}

-- what `join_at` of the list's edits requires and ensures
abbrev pub JoinAsks : Arena → List ℕ → Chain → units.Range → Spot → Type 0
JoinAsks a ws c y s = Held a ws c (reach_base y) s × ((may_ask a y ≡ true) × (overlaps y.base.0 y.limit.0 (met_of a ws c) ≡ false))

abbrev pub JoinGives : Arena → List ℕ → Chain → units.Range → ChainJoined → List ℕ → Type 0
JoinGives a ws c y j ws' = (j ≡ joined_of (met_of a ws c) y) × (ws' ≡ joined_words (met_of a ws c) y a.base.0 ws)

-- the arena and the chain that the code passes on are those of the list
module _ (h : ListLand) (ws : List ℕ) (y : units.Range) (a : Arena) (ea : a ≡ arena_in h) (c : Chain) (ec : c ≡ chain_in h) where
  abbrev met : List Range
  met = (list.walk_of h ws).met

  -- A RANGE PUT INTO THE LIST
  pub join-asks : (s : Spot) → Looked h ws (reach_base y) s → good_range_in (list.arena_of h) y.base.0 y.limit.0 ≡ true →
      overlaps y.base.0 y.limit.0 (list.walk_of h ws).met ≡ false → JoinAsks a ws c y s
  join-asks s k g o = (list-requests.looked-held h ws (reach_base y) s k a ea c ec, (rw ea g, rw (ea, ec) o))

  pub join-done : (j : ChainJoined) (ws' : List ℕ) → JoinGives a ws c y j ws' → (j ≡ joined_of (list.walk_of h ws).met y) × (ws' ≡ lay (list.base h) (list_more h ws y) ws)
  join-done j ws' e = rw (ea, ec) at e

  -- and the list closed
  pub join-closed : (j : ChainJoined) (ws' : List ℕ) → JoinGives a ws c y j ws' →
      (z : ListLand) → z ≡ closed_with h j.chain.head j.chain.ranges j.chain.bytes →
      (z ≡ list.closed h (list_more h ws y)) × (ws' ≡ lay (list.base h) (list_more h ws y) ws)
  join-closed j ws' e z ez =
      let d = join-done j ws' e in
      (list-requests.closes h (list_more h ws y) j.chain (ap (λ (x : ChainJoined). x.chain) d.0) z ez, d.1)

  -- A PART TAKEN OUT OF IT
  pub take-listed-holding : (s : Spot) → TakingListed h ws y s → Holding a ws c s y
  take-listed-holding s k = rw (ea, ec) k

  pub take-listed-done : (n : Chain) (ws' : List ℕ) → (n ≡ cut_chain (met_of a ws c) y) × (ws' ≡ chains.cut_words (met_of a ws c) y a.base.0 ws) →
      (z : ListLand) → z ≡ closed_with h n.head n.ranges n.bytes →
      (z ≡ list.closed h (list_less h ws y)) × (ws' ≡ lay (list.base h) (list_less h ws y) ws)
  take-listed-done n ws' e z ez =
      let q : (n ≡ cut_chain met y) × (ws' ≡ chains.cut_words met y (list.base h) ws) = rw (ea, ec) at e in
      (list-requests.closes h (list_less h ws y) n q.0 z ez, q.1)

-- A PART TAKEN OUT OF THE TABLE
module _ (k : BlockLand) (vs : List ℕ) (i : ℕ) (y : units.Range) (w : TakingTabled k vs i y) where
  take-tabled-bytes : total (table_less k vs y) + (y.limit.0 - y.base.0) ≡ k.bytes.0
  take-tabled-bytes =
      let f = whole k vs w.readable in
      total-delete y.base.0 y.limit.0 (block.base k) (block.limit k) (block.table_of k vs) w.at_pair.proper f.apart w.held ∙ sym f.bytes

  pub take-tabled-room : (s : Size) → s.0 ≡ y.limit.0 - y.base.0 → s.0 ≤ k.bytes.0
  take-tabled-room s es = let u = take-tabled-bytes in omega arith

  pub take-tabled-done : (m : ℕ) (vs' : List ℕ) → (m ≡ length (table_less k vs y)) × (vs' ≡ fill (table_less k vs y) vs) →
      (s : Size) → s.0 ≡ y.limit.0 - y.base.0 → (t : Size) → t.0 ≡ k.bytes.0 - s.0 →
      (z : BlockLand) → z ≡ block.closed_with k m t → (z ≡ block.closed k (table_less k vs y)) × (vs' ≡ fill (table_less k vs y) vs)
  take-tabled-done m vs' e s es t et z ez = let u = take-tabled-bytes in (ez ∙ closed-as k (table_less k vs y) m t e.0 (omega arith), e.1)
