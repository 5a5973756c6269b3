-- A delete of a range that neither land of a pair holds: 7 where all its bytes are free, else 1. Assumes nothing.
use Prim.Native.Nat.{ℕ, ◌+◌, ◌-◌, ◌^◌, ◌≤◌, ◌<◌}
use mathlib.Core.Bool.{Bool, true, false}
use mathlib.Core.List.{List}
use mathlib.Core.Path.{◌≡◌, refl, sym, ap₂, ◌∙◌}
use native.Mathlib.Omega.{arith}
use lib.Dec.{eqb}
use Rattle.units.specs.declared.Range as units
use Rattle.units.specs.declared.Size.{Size}
use Rattle.units.specs.declared.rules.Arena as units-arena
use Rattle.model.specs.Marks.{Range}
use Rattle.list_words.specs.inner.Surveys.{walk_of}
use Rattle.list_words.specs.declared.Spot.{Spot}
use Rattle.list_edits.proofs.Sound.{small}
use Rattle.list_land.specs.Layout as list
use Rattle.list_land.specs.inner.Parts.{arena_in, chain_in, reach_limit}
use Rattle.block_words.specs.Words.{pairs}
use Rattle.block_words.specs.declared.Entry.{Entry}
use Rattle.block_land.specs.Layout as block
use Rattle.block_land.proofs.Requests.{few_bytes}
use Rattle.flush.proofs.FlushAnswers.{going}
use Rattle.pair_model.specs.Pairs.{both, delete, inside, all_inside}
use Rattle.pair_words.specs.inner.Shares as shares
use Rattle.pair_words.proofs.Sharing.{inside-total}
use Rattle.pair.specs.inner.Parts.{refused_by}
use Rattle.pair.specs.Calls.{changed, deleted}
use Rattle.pair.specs.inner.Deletes.{Asked, Nowhere}
use Rattle.pair.specs.declared.Changed.{Changed}
use Rattle.pair.specs.declared.Pair.{Pair}
use Rattle.pair.proofs.Calling.{flush-checked, refuses, refuse}
use Rattle.pair.proofs.Asking.{list_fine, block_fine, readable, order_le}
use Rattle.pair.proofs.DeleteAnswers.{is-delete, Deletes}

module _ (p : Pair) (ws vs : List ℕ) (y : units.Range) (k : Nowhere p ws vs y) where
  abbrev s : Spot
  s = k.spot

  abbrev e : Entry
  e = k.entry

  abbrev b : ℕ
  b = y.base.0

  abbrev l : ℕ
  l = y.limit.0

  abbrev rs : List Range
  rs = (list.walk_of p.list ws).met

  abbrev qs : List Range
  qs = block.table_of p.block vs

  asked : Asked p ws vs y s e
  asked = k.asked.asked

  pub nowhere-order : y.base.0 ≤ y.limit.0
  nowhere-order = order_le p ws vs y s e asked

  pub nowhere-tabled : shares.Tabled vs p.block.ranges
  nowhere-tabled =
      let f = block_fine p ws vs y s e asked in
      let n = few_bytes p.block vs (readable p ws vs y s e asked) in
      let t = f.bytes in
      record { fits = f.fits; few = omega arith }

  module _ (a : units-arena.Arena) (ea : a ≡ arena_in p.list) where
    pub nowhere-listed : shares.Listed a ws p.list.head.0
    nowhere-listed =
        let g = going p.list ws p.block vs (flush-checked p ws vs (reach_limit y) s e asked.checked) a ea in
        record { ready = g.ready; clean = g.clean }

    module _ (n : Size) (en : n.0 ≡ inside y.base.0 y.limit.0 (walk_of a ws p.list.head.0).met)
        (m : Size) (em : m.0 ≡ inside y.base.0 y.limit.0 (pairs vs p.block.ranges)) where
      in_list : n.0 ≡ inside b l rs
      in_list = rw ea at en

      pub nowhere-sum : n.0 + m.0 < 2 ^ 64
      nowhere-sum =
          let f = list_fine p ws vs y s e asked in
          let c = (small (arena_in p.list) ws (chain_in p.list) f).bytes in
          let t = f.bytes in
          let i = inside-total y rs in
          let j = inside-total y qs in
          let d = nowhere-tabled.few in
          let u = in_list in
          omega arith

      module _ (z : Size) (ez : z.0 ≡ n.0 + m.0) (x : Size) (ex : x.0 ≡ y.limit.0 - y.base.0) (t : Bool) (et : t ≡ eqb z.0 x.0) where
        all_there : all_inside b l (both rs qs) ≡ t
        all_there = sym (et ∙ ap₂ eqb (ez ∙ ap₂ ◌+◌ in_list em) ex)

        pub nowhere-7 : t ≡ true → (w : Changed) → w ≡ refused_by p 7 → Deletes p ws vs y w ws vs
        nowhere-7 f w ew =
            refuse changed p ws vs 7 (deleted p ws vs y)
            (is-delete p ws vs y
            ∙ refuses p ws vs (reach_limit y) s e asked.checked (delete b l) 7 refl (rw (asked.good, k.asked.unlisted, k.none, all_there ∙ f))) w ew

        pub nowhere-1 : t ≡ false → (w : Changed) → w ≡ refused_by p 1 → Deletes p ws vs y w ws vs
        nowhere-1 f w ew =
            refuse changed p ws vs 1 (deleted p ws vs y)
            (is-delete p ws vs y
            ∙ refuses p ws vs (reach_limit y) s e asked.checked (delete b l) 1 refl (rw (asked.good, k.asked.unlisted, k.none, all_there ∙ f))) w ew
