-- What a look at a sound table says to the steps that follow, and the next handle. Assumes nothing.
use Prim.Native.Nat.{ℕ, ◌≤◌, ◌<◌}
use mathlib.Core.Bool.{true}
use mathlib.Core.List.{List}
use mathlib.Core.Path.{◌≡◌}
use native.Mathlib.Omega.{arith}
use Rattle.units.specs.Rules.{good_align}
use Rattle.units.specs.declared.Addr.{Addr}
use Rattle.units.specs.declared.Range.{Range}
use Rattle.units.specs.declared.aims.Aim.{Aim}
use Rattle.units.specs.declared.rules.Arena.{Arena}
use Rattle.model.specs.Calls.{good_range_in}
use Rattle.model.proofs.Requests.{range-rules}
use Rattle.model.proofs.Totals.{total-small}
use Rattle.block_words.specs.inner.Surveys.{FirstReach}
use Rattle.block_words.specs.declared.Entry.{Entry}
use Rattle.block_edits.specs.inner.Edits.{Sorted}
use Rattle.block_edits.proofs.Entering.{reach-spot}
use Rattle.block_land.specs.Layout.{base, limit, arena_of, table_of}
use Rattle.block_land.specs.inner.Parts.{arena_in, Readable, Looked}
use Rattle.block_land.specs.declared.BlockLand.{BlockLand}
use Rattle.block_land.proofs.Sound.{Fine, fine, placed}

module _ (h : BlockLand) (ws : List ℕ) (aim : Aim) (d : Entry) (k : Looked h ws aim d) where
  pub readable : Readable h ws
  readable = record { good = k.good; whole = k.whole }

  pub looked-positive : (a : Arena) → a ≡ arena_in h → 0 < a.align.0
  looked-positive a e = rw e (placed h ws k.good).positive

  pub looked-align : good_align h.align.0 ≡ true
  looked-align = (placed h ws k.good).arena.align

-- the first range that reaches an address
pub looked-spot : (h : BlockLand) (ws : List ℕ) (x : Addr) (d : Entry) → Looked h ws (Aim.Reach x) d → FirstReach ws h.ranges x.0 d.number
looked-spot h ws x d k =
    let f = fine h ws k.good k.whole in
    rw k.kept (reach-spot ws h.ranges (base h) (limit h) x f.fits f.place.arena.above f.apart)

module _ (h : BlockLand) (ws : List ℕ) (k : Readable h ws) where
  pub whole : Fine h ws
  whole = fine h ws k.good k.whole

  pub sorted : Sorted ws h.ranges
  sorted = let f = whole in record { low = base h; high = limit h; fits = f.fits; clean = f.clean; apart = f.apart }

  -- the free bytes are no more than those of the arena
  pub few_bytes : h.bytes.0 ≤ 1099511627777
  few_bytes =
      let f = whole in
      let a = f.place.arena in
      let t = total-small (base h) (limit h) (table_of h ws) (omega (arith, a.order)) f.apart in
      let n = f.bytes in
      omega (arith, a.top)

-- a request that keeps the rules is not empty
module _ (h : BlockLand) (ws : List ℕ) (y : Range) (g : good_range_in (arena_of h ws) y.base.0 y.limit.0 ≡ true) where
  pub edit-order : y.base.0 < y.limit.0
  edit-order = (range-rules (arena_of h ws) y.base.0 y.limit.0 g).order

  pub edit-order-le : y.base.0 ≤ y.limit.0
  edit-order-le = let o = edit-order in omega arith
