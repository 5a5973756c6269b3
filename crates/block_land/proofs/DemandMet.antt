-- Demand 3 of the block land, its finds and node space, and low water: instances of theorems of `model`. Assumes nothing.
use Prim.Native.Nat.{ℕ}
use mathlib.Core.Bool.{true}
use mathlib.Core.List.{List, []}
use mathlib.Core.Path.{◌≡◌, refl}
use native.Mathlib.Omega.{arith}
use Rattle.units.proofs.Tests.{by}
use Rattle.model.proofs.DemandMet.{demand-3}
use Rattle.model.proofs.LowWaters.{low-over-closings}
use Rattle.model.proofs.NodeSpace.{land-finds-no-more, histories-as-01}
use Rattle.block_words.specs.Words.{fill}
use Rattle.block_words.proofs.Filling.{length-fill}
use Rattle.block_land.specs.Layout.{set_up, layout}
use Rattle.block_land.specs.Calls.{new_land, opened_of, opened_words}
use Rattle.block_land.specs.Claims.{BlockDemand3, BlockFindsNoMore, BlockAs01, BlockLow}
use Rattle.block_land.proofs.LayoutLaws.{read-filled, block-laws}

pub record Opens (b l a : ℕ) (ws : List ℕ) : Type 0 where
  pub good : set_up (new_land b l a) ws ≡ true
  pub land : (opened_of b l a ws).land ≡ new_land b l a
  pub words : opened_words b l a ws ≡ fill [] ws

pub opens : (b l a : ℕ) (ws : List ℕ) → (opened_of b l a ws).answer ≡ 0 → Opens b l a ws
unfolding opened_of opened_words
opens b l a ws e =
    by (set_up (new_land b l a) ws)
    (λ g. record { good = g; land = rw g; words = rw g })
    (λ g. let z : ◌≡◌ {A = ℕ} 5 0 = rw g at e in absurd (omega arith))

pub block-demand-3 : BlockDemand3
block-demand-3 b l a ws e cs os t =
    let g = opens b l a ws e in
    let h = new_land b l a in
    rw (length-fill [] ws) at
    (demand-3 layout block-laws h (fill [] ws) [] (read-filled h ws [] g.good tt tt (omega arith)) cs os (rw (g.land, g.words) at t))

-- FINDS AND NODE SPACE
pub block-finds-no-more : BlockFindsNoMore
block-finds-no-more = land-finds-no-more layout block-laws

pub block-as-01 : BlockAs01
block-as-01 = histories-as-01 layout block-laws

-- LOW WATER OVER CALLS OF ANY KIND
pub block-low : BlockLow
block-low = low-over-closings layout (λ h rs. refl)
