-- The flush and the place behind it: where the first range of the list stays, nothing was moved. Assumes nothing.
use Prim.Native.Nat.{ℕ, suc, ◌<◌}
use mathlib.Core.Bool.{Bool, true}
use mathlib.Core.List.{List, [], ◌∷◌, ◌++◌}
use mathlib.Core.Path.{◌≡◌, refl, sym, ap, subst, ◌∙◌}
use native.Mathlib.Omega.{arith}
use lib.Dec.{eqb}
use lib.ListN.{length}
use borrow.Author.Tests.{eqb-true}
use Rattle.units.specs.declared.Range as units
use Rattle.model.specs.Marks.{Range}
use Rattle.model.specs.inner.Lists.{Apart}
use Rattle.model.specs.Flushing.{Flush}
use Rattle.model.proofs.Flushing.{flush-still}
use Rattle.model.proofs.Places.{apart-rest}
use Rattle.list_words.specs.Laying.{head_of}
use Rattle.list_land.specs.Layout as list
use Rattle.block_words.specs.inner.Surveys.{Ordered, FirstReach}
use Rattle.block_words.specs.Words.{fill}
use Rattle.block_words.specs.declared.Entry.{Entry}
use Rattle.block_land.specs.Layout as block
use Rattle.block_land.specs.declared.BlockLand.{BlockLand}
use Rattle.block_land.proofs.Requests.{sorted}
use Rattle.block_land.proofs.LayoutLaws.{words_back, handle-back}
use Rattle.pair.specs.inner.Inserts.{flush_of, flushed_counts, flushed_nodes, Preparable}
use Rattle.pair.specs.declared.Pair.{Pair}
use Rattle.pair.specs.declared.insert.Counts.{Counts}
use Rattle.pair.proofs.AfterFlush.{flushed_pair, After, after}

-- where the head of a sorted list is that of its rest, nothing is before it
none-gone : (lo hi : ℕ) (gone left : List Range) → 0 < lo → Apart lo hi (gone ++ left) → head_of left ≡ head_of (gone ++ left) → gone ≡ []
none-gone lo hi [] left z a e = refl
none-gone lo hi (g ∷ gone) [] z a e = absurd (omega (arith, a.0))
none-gone lo hi (g ∷ gone) (r ∷ rs) z a e = let b = apart-rest (suc g.limit) hi gone r rs a.3 in absurd (omega (arith, a.1, b.0))

module _ (p : Pair) (ws vs : List ℕ) (y : units.Range) (e : Entry) (k : Preparable p ws vs y e)
    (c : Counts) (vs' : List ℕ) (f : (c ≡ flushed_counts p ws vs) × (vs' ≡ flushed_nodes p ws vs)) where
  abbrev fl : Flush
  fl = flush_of p ws vs

  known : After p ws vs
  known = after p ws vs k.good

  count : c.ranges ≡ length fl.into
  count = ap (λ (x : Counts). x.ranges) f.0

  pub prepare-ordered : Ordered vs' c.ranges
  prepare-ordered =
      let t = sorted (flushed_pair p ws vs).block (flushed_nodes p ws vs) (record { good = known.in_block.good; whole = known.in_block.whole }) in
      rw (count, f.1) (record { low = t.low; high = t.high; fits = t.fits; apart = t.apart })

  module _ (t : Bool) (et : t ≡ eqb c.chain.head.0 p.list.head.0) (g : t ≡ true) where
    same_head : head_of fl.left ≡ head_of (known.moved.gone ++ fl.left)
    same_head =
        sym (ap (λ (x : Counts). x.chain.head.0) f.0) ∙ eqb-true c.chain.head.0 p.list.head.0 (sym et ∙ g)
        ∙ sym known.list_fine.head ∙ ap head_of known.moved.split

    nothing : (fl.left ≡ (list.walk_of p.list ws).met) × (fl.into ≡ block.table_of p.block vs)
    nothing =
        let n = none-gone (list.base p.list) (list.limit p.list) known.moved.gone fl.left known.list_fine.place.arena.above
        (subst (Apart (list.base p.list) (list.limit p.list)) known.moved.split known.list_fine.apart) same_head in
        flush-still (block.arena_of p.block vs) (list.walk_of p.list ws).met (block.table_of p.block vs) (known.moved.moved ∙ ap length n)

    pub prepare-same : FirstReach vs' c.ranges y.base.0 e.number
    prepare-same =
        let v : vs' ≡ vs = f.1 ∙ ap (λ (x : List Range). fill x vs) nothing.1 ∙ words_back p.block vs known.block_fine in
        let n : c.ranges ≡ p.block.ranges = count ∙ ap length nothing.1 ∙ ap (λ (x : BlockLand). x.ranges) (handle-back p.block vs known.block_fine) in
        rw (v, n) k.place
