-- Demand 3 of a pair of newly opened lands: an instance of the theorem of `pair_model`. Assumes nothing.
use Prim.Native.Nat.{ℕ}
use mathlib.Core.List.{List, []}
use mathlib.Core.Path.{◌≡◌, refl}
use native.Mathlib.Omega.{arith}
use borrow.Author.Tests.{eq-eqb}
use Rattle.units.proofs.Tests.{or-first}
use Rattle.model.specs.Layouts.{holding}
use Rattle.model.specs.Lands.{land_answers}
use Rattle.model.proofs.Playing.{wider}
use Rattle.list_land.specs.Layout as list
use Rattle.list_land.specs.Calls as list-calls
use Rattle.list_land.specs.declared.ListLand.{ListLand}
use Rattle.list_land.proofs.DemandMet as list-demand
use Rattle.list_land.proofs.DemandMet.{opened-good}
use Rattle.list_land.proofs.LayoutLaws.{read-laid, list-laws}
use Rattle.list_land.proofs.Sound.{placed}
use Rattle.block_words.specs.Words.{fill}
use Rattle.block_words.proofs.Filling.{length-fill}
use Rattle.block_land.specs.Layout as block
use Rattle.block_land.specs.Calls as block-calls
use Rattle.block_land.specs.declared.BlockLand.{BlockLand}
use Rattle.block_land.proofs.DemandMet.{opens}
use Rattle.block_land.proofs.LayoutLaws.{read-filled, block-laws}
use Rattle.pair_model.specs.Pairs.{Both, both}
use Rattle.pair_model.specs.PairLayouts.{pair_rules, pair_read, pair_layout}
use Rattle.pair_model.proofs.PairDemandMet.{pair-demand-3}
use Rattle.pair.specs.Demand.{OpenedDemand3, FreeKept, OwnDemand3}

pub opened-demand-3 : OpenedDemand3
opened-demand-3 b l a ws vs e f cs os t =
    let g = opened-good b l a ws e in
    let k = opens b l a vs f in
    let h = list-calls.new_land b l a in
    let i = block-calls.new_land b l a in
    let x : (list.layout).read h ws ≡ holding [] = read-laid h ws [] (placed h ws g.0) g.0 tt tt tt in
    let y : (block.layout).read i (fill [] vs) ≡ holding [] = read-filled i vs [] k.good tt tt (omega arith) in
    let both_read : pair_read list.layout block.layout (both h i) (both ws (fill [] vs)) ≡ holding (both [] []) =
    rw (x, y, eq-eqb b b refl, eq-eqb l l refl, eq-eqb a a refl) in
    rw (length-fill [] vs) at
    (pair-demand-3 list.layout list-laws block.layout block-laws (λ p w. refl) (both h i) (both ws (fill [] vs)) (both [] []) both_read cs os
    (rw (g.1, k.land, k.words) at t))

-- THE REQUEST'S OWN HOST
own-host : (h : Both ListLand BlockLand) (w w' : Both (List ℕ) (List ℕ)) → FreeKept h w w' → (pair_layout list.layout block.layout).host h w w'
own-host h w w' m =
    (list-demand.own-host h.list w.list w'.list (m.number, λ i f. m.arena i (or-first _ _ f)), m.nodes)

pub own-demand-3 : OwnDemand3
own-demand-3 b l a ws vs e f cs os t =
    opened-demand-3 b l a ws vs e f cs os
    (wider land_answers pair_rules (pair_layout list.layout block.layout) FreeKept own-host
    (both (list-calls.opened_of b l a ws).land (block-calls.opened_of b l a vs).land) (both ws (block-calls.opened_words b l a vs)) cs os t)
