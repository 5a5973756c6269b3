-- A request to a pair that was checked: the range rule, and what a request that keeps it says with both lands. Assumes nothing.
use Prim.Native.Nat.{ℕ, ◌≤◌, ◌<◌}
use mathlib.Core.Bool.{true, false}
use mathlib.Core.List.{List}
use mathlib.Core.Path.{◌≡◌, refl, ap, ◌∙◌}
use Rattle.std.specs.Prelude.{Result, Ok}
use Rattle.units.specs.Rules.{good_align, range_check}
use Rattle.units.specs.declared.Range as units
use Rattle.units.specs.declared.aims.Aim.{Aim}
use Rattle.units.specs.declared.rules.Arena as units-arena
use Rattle.units.specs.declared.rules.RangeError.{RangeError}
use Rattle.model.specs.Calls.{good_range_in, range_number_in}
use Rattle.model.proofs.Checks.{range-bad, range-good}
use Rattle.model.proofs.Requests.{range-refused}
use Rattle.list_words.specs.declared.Spot.{Spot}
use Rattle.list_land.specs.Layout as list
use Rattle.list_land.proofs.Sound as list-sound
use Rattle.block_words.specs.declared.Entry.{Entry}
use Rattle.block_land.specs.Layout as block
use Rattle.block_land.specs.inner.Parts as block-parts
use Rattle.block_land.proofs.Requests as block-requests
use Rattle.block_land.proofs.Sound as block-sound
use Rattle.pair_model.specs.Pairs.{PairCall, both, keep, pair_step}
use Rattle.pair.specs.Calls.{PairDone, called}
use Rattle.pair.specs.inner.Parts.{Checked, Ranged}
use Rattle.pair.specs.declared.Pair.{Pair}
use Rattle.pair.proofs.Calling.{Hands, refusal, refuse, list-looked, block-looked, refuses}
use Rattle.pair.proofs.Checking.{same_up}

module _ (p : Pair) (ws vs : List ℕ) {aim : Aim} (y : units.Range) (s : Spot) (e : Entry) where
  -- THE RANGE RULE
  module _ (k : Checked p ws vs aim s e) (a : units-arena.Arena) (ea : a ≡ block-parts.arena_in p.block) where
    pub asked-align : good_align a.align.0 ≡ true
    asked-align = rw ea (block-requests.looked-align p.block vs aim e (block-looked p ws vs aim s e k))

    module _ (a' : units-arena.Arena) (ea' : a' ≡ a) where
      pub asked-positive : 0 < a'.align.0
      asked-positive = block-requests.looked-positive p.block vs aim e (block-looked p ws vs aim s e k) a' (ea' ∙ ea)

      module _ (r : Result (Unit {0}) RangeError) (er : r ≡ range_check a'.base.0 a'.limit.0 a'.align.0 y.base.0 y.limit.0) where
        -- of any call that answers 4 where the rule is broken
        pub asked-4 : {R : Type 0} (g : PairDone → R) (c : PairCall) (d : PairDone) → d ≡ called c p ws vs →
            (good_range_in (block.arena_of p.block vs) y.base.0 y.limit.0 ≡ false → pair_step (block.arena_of p.block vs) c (both (list.walk_of p.list ws).met (block.table_of p.block vs))
            ≡ keep (range_number_in (block.arena_of p.block vs) y.base.0 y.limit.0) (both (list.walk_of p.list ws).met (block.table_of p.block vs))) →
            (r ≡ Ok tt → ⊥) → (w : R) → w ≡ g (refusal p ws vs 4) → Hands g d w ws vs
        asked-4 g c d ed f t =
            let bad = range-bad (block.arena_of p.block vs) a' (ea' ∙ ea) y r er t in
            let four = range-refused (block.arena_of p.block vs) y.base.0 y.limit.0 bad in
            refuse g p ws vs 4 d
            (ed ∙ refuses p ws vs aim s e k c 4 refl (f bad ∙ ap (λ (n : ℕ). keep n (both (list.walk_of p.list ws).met (block.table_of p.block vs))) four))

        pub asked-good : r ≡ Ok tt → Ranged p ws vs aim y s e
        asked-good f = record { checked = k; good = range-good (block.arena_of p.block vs) a' (ea' ∙ ea) y r er f }

  -- A REQUEST THAT KEEPS IT
  module _ (k : Ranged p ws vs aim y s e) where
    pub list_fine : list-sound.Fine p.list ws
    list_fine = let f = list-looked p ws vs aim s e k.checked in list-sound.fine p.list ws f.good f.whole

    pub block_fine : block-sound.Fine p.block vs
    block_fine = let f = block-looked p ws vs aim s e k.checked in block-sound.fine p.block vs f.good f.whole

    pub readable : block-parts.Readable p.block vs
    readable = block-requests.readable p.block vs aim e (block-looked p ws vs aim s e k.checked)

    pub order : y.base.0 < y.limit.0
    order = block-requests.edit-order p.block vs y k.good

    pub order_le : y.base.0 ≤ y.limit.0
    order_le = block-requests.edit-order-le p.block vs y k.good

    pub list-good : good_range_in (list.arena_of p.list) y.base.0 y.limit.0 ≡ true
    list-good = let o = same_up p ws vs k.checked.good in rw (o.base, o.limit, o.align) k.good
