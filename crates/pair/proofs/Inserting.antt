-- The ways out of an insert in a pair that was checked: 1, and the range put in after the flush. Assumes nothing.
use Prim.Native.Nat.{ℕ, ◌<◌}
use mathlib.Core.Bool.{Bool, true, false}
use mathlib.Core.List.{List}
use mathlib.Core.Path.{◌≡◌, refl, sym, ◌∙◌}
use Rattle.units.specs.declared.Range as units
use Rattle.units.specs.declared.rules.Arena as units-arena
use Rattle.model.specs.Marks.{Range}
use Rattle.model.specs.inner.Lists.{overlaps}
use Rattle.list_words.specs.declared.Chain.{Chain}
use Rattle.list_words.specs.declared.Spot.{Spot}
use Rattle.list_edits.specs.inner.Chains.{met_of, Held, may_ask}
use Rattle.list_land.specs.Layout as list
use Rattle.list_land.specs.inner.Parts as list-parts
use Rattle.list_land.specs.inner.Parts.{reach_base}
use Rattle.list_land.proofs.Requests as list-requests
use Rattle.block_words.specs.inner.Surveys as places
use Rattle.block_words.specs.declared.Entry.{Entry}
use Rattle.block_edits.specs.inner.Edits.{Sorted}
use Rattle.block_land.specs.Layout as block
use Rattle.block_land.proofs.Requests as block-requests
use Rattle.pair_model.specs.Pairs.{insert}
use Rattle.pair.specs.inner.Parts.{refused_by}
use Rattle.pair.specs.Calls.{called, changed, inserted}
use Rattle.pair.specs.inner.Inserts.{taken_in, Wanted, Bare}
use Rattle.pair.specs.declared.Changed.{Changed}
use Rattle.pair.specs.declared.Pair.{Pair}
use Rattle.pair.proofs.Asking.{readable, order, list-good}
use Rattle.pair.proofs.Calling.{Hands, list-looked, block-looked, refuses, refuse}

pub is-insert : (p : Pair) (ws vs : List ℕ) (y : units.Range) → inserted p ws vs y ≡ called (insert y.base.0 y.limit.0) p ws vs
unfolding inserted
is-insert p ws vs y = refl

-- what an insert hands back
abbrev pub Inserts : Pair → List ℕ → List ℕ → units.Range → Changed → List ℕ → List ℕ → Type 0
Inserts p ws vs y = Hands changed (inserted p ws vs y)

module _ (p : Pair) (ws vs : List ℕ) (y : units.Range) (s : Spot) where
  abbrev b : ℕ
  b = y.base.0

  abbrev l : ℕ
  l = y.limit.0

  abbrev rs : List Range
  rs = (list.walk_of p.list ws).met

  abbrev qs : List Range
  qs = block.table_of p.block vs

  -- WHETHER A BYTE IS FREE
  module _ (e : Entry) (k : Wanted p ws vs y s e) where
    pub table-asks : Sorted vs p.block.ranges × ((y.base.0 < y.limit.0) × places.FirstReach vs p.block.ranges y.base.0 e.number)
    table-asks =
        let m = block-looked p ws vs (reach_base y) s e k.checked in
        (block-requests.sorted p.block vs (readable p ws vs y s e k), (order p ws vs y s e k, block-requests.looked-spot p.block vs y.base e m))

    module _ (a : units-arena.Arena) (ea : a ≡ list-parts.arena_in p.list) (c : Chain) (ec : c ≡ list-parts.chain_in p.list) where
      pub list-asks : Held a ws c (reach_base y) s × (may_ask a y ≡ true)
      list-asks = (list-requests.looked-held p.list ws (reach_base y) s (list-looked p ws vs (reach_base y) s e k.checked) a ea c ec, rw ea (list-good p ws vs y s e k))

      module _ (t : Bool) (et : t ≡ overlaps y.base.0 y.limit.0 (met_of a ws c)) where
        in_list : t ≡ overlaps b l rs
        in_list = rw (ea, ec) at et

        pub taken-list : t ≡ true → true ≡ taken_in p ws vs y
        taken-list f = rw (sym in_list ∙ f)

        pub taken-table : t ≡ false → (u : Bool) → u ≡ overlaps y.base.0 y.limit.0 (block.table_of p.block vs) → u ≡ taken_in p ws vs y
        taken-table f u eu = rw (sym in_list ∙ f) eu

    module _ (t : Bool) (et : t ≡ taken_in p ws vs y) where
      pub taken-1 : t ≡ true → (w : Changed) → w ≡ refused_by p 1 → Inserts p ws vs y w ws vs
      taken-1 f w ew =
          refuse changed p ws vs 1 (inserted p ws vs y)
          (is-insert p ws vs y ∙ refuses p ws vs (reach_base y) s e k.checked (insert b l) 1 refl (rw (k.good, sym et ∙ f))) w ew

      pub not_taken : t ≡ false → Bare p ws vs y s e
      not_taken f = record { wanted = k; none = sym et ∙ f }

pub ruleset inserts = (taken-list, taken-table)
