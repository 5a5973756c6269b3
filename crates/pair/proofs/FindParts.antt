-- The ways out of a find in one land of a pair: the range as it stands, and a part of it taken out. Assumes nothing.
use Prim.Native.Nat.{ℕ}
use mathlib.Core.List.{List}
use mathlib.Core.Path.{◌≡◌, refl, ap, ◌∙◌}
use Rattle.units.specs.Rules.{find_size}
use Rattle.units.specs.declared.Mode.{Mode}
use Rattle.units.specs.declared.Range as units
use Rattle.units.specs.declared.Size.{Size}
use Rattle.units.specs.declared.Which.{Which}
use Rattle.units.specs.declared.rules.Arena.{Arena}
use Rattle.model.specs.Marks.{struct}
use Rattle.model.specs.inner.Lists.{plain}
use Rattle.model.specs.inner.Steps.{part}
use Rattle.model.proofs.lands.FindAnswers.{find-kept, find-part, find-0}
use Rattle.finds.specs.inner.Parts.{Within}
use Rattle.list_words.specs.Laying.{lay}
use Rattle.list_words.specs.declared.Spot.{Spot}
use Rattle.list_land.specs.Calls as list-calls
use Rattle.list_land.specs.Layout as list
use Rattle.list_land.specs.inner.Parts as list-parts
use Rattle.list_land.specs.declared.Found as list-found
use Rattle.list_land.specs.declared.ListLand.{ListLand}
use Rattle.list_land.proofs.FindAnswers as list-finds
use Rattle.list_land.proofs.Land.{list_land}
use Rattle.block_words.specs.Words.{fill}
use Rattle.block_words.specs.declared.Entry.{Entry}
use Rattle.block_land.specs.Calls as block-calls
use Rattle.block_land.specs.Layout as block
use Rattle.block_land.specs.inner.Parts as block-parts
use Rattle.block_land.specs.declared.BlockLand.{BlockLand}
use Rattle.block_land.specs.declared.Found as block-found
use Rattle.block_land.proofs.FindAnswers as block-finds
use Rattle.block_land.proofs.Land.{block_land}
use Rattle.block_land.proofs.Requests.{readable}
use Rattle.pair.specs.inner.Editing.{list_less, table_less, TakingListed, TakingTabled}
use Rattle.pair.specs.inner.Finding.{ListChosen, BlockChosen, list_found, block_found}
use Rattle.pair.specs.declared.Found.{Found}
use Rattle.pair.specs.declared.Pair.{Pair}

-- IN THE LIST
module _ (p : Pair) (ws : List ℕ) (w : Which) (n : Size) (mode : Mode) (s : Spot) (k : ListChosen p.list ws w n s) where
  abbrev L : list-calls.LandDone
  L = list-calls.found p.list ws w n.0 mode

  abbrev InList : Found → List ℕ → Type 0
  InList v ws' = (v ≡ list_found p L) × (ws' ≡ L.words)

  abbrev as-list : list-found.Found → Found
  as-list v = record { pair = record { list = v.land; block = p.block }; answer = v.answer; range = v.range; old = v.old }

  pub list-within : (a : Arena) → a ≡ list-parts.arena_in p.list → (m : Size) → m.0 ≡ find_size a.align.0 n.0 → Within m s.here
  list-within = list-finds.find-within p.list ws w n mode s k.looked k.good _ refl k.there

  pub list-kept : mode ≡ Mode.None → InList (record { pair = p; answer = 0; range = s.here; old = s.here }) ws
  list-kept m = let u = find-kept list_land p.list ws w n mode s k.looked k.good _ refl k.there m in (ap as-list u.0, u.1)

  module _ (a : Arena) (ea : a ≡ list-parts.arena_in p.list) (m : Size) (em : m.0 ≡ find_size a.align.0 n.0)
      (o : (mode ≡ Mode.None → ⊥)) (y : units.Range) (ey : y ≡ struct (part w mode m.0 (plain s.here))) where
    sized : m.0 ≡ find_size p.list.align.0 n.0
    sized = em ∙ ap (λ (x : Arena). find_size x.align.0 n.0) ea

    pub list-takes : TakingListed p.list ws y s
    list-takes =
        list-finds.find-holding p.list ws w n mode s k.looked k.good _ refl k.there
        (list-parts.arena_in p.list) refl m sized o y ey (list-parts.chain_in p.list) refl

    pub list-0 : (z : ListLand) (ws' : List ℕ) → (z ≡ list.closed p.list (list_less p.list ws y)) × (ws' ≡ lay (list.base p.list) (list_less p.list ws y) ws) →
        InList (record { pair = record { list = z; block = p.block }; answer = 0; range = y; old = s.here }) ws'
    list-0 z ws' q =
        let u = find-0 list_land p.list ws w n mode s k.looked k.good _ refl k.there a ea m em o y ey z q.0 ws' q.1 in
        (ap as-list u.0, u.1)

-- IN THE BLOCK LAND
module _ (p : Pair) (vs : List ℕ) (w : Which) (n : Size) (mode : Mode) (e : Entry) (k : BlockChosen p.block vs w n e) where
  abbrev B : block-calls.LandDone
  B = block-calls.found p.block vs w n.0 mode

  abbrev InBlock : Found → List ℕ → Type 0
  InBlock v vs' = (v ≡ block_found p B) × (vs' ≡ B.words)

  abbrev as-block : block-found.Found → Found
  as-block v = record { pair = record { list = p.list; block = v.land }; answer = v.answer; range = v.range; old = v.old }

  pub block_within : (a : Arena) → a ≡ block-parts.arena_in p.block → (m : Size) → m.0 ≡ find_size a.align.0 n.0 → Within m e.here
  block_within = block-finds.find-within p.block vs w n mode e k.looked k.good _ refl k.there

  pub block-kept : mode ≡ Mode.None → InBlock (record { pair = p; answer = 0; range = e.here; old = e.here }) vs
  block-kept m = let u = find-kept block_land p.block vs w n mode e k.looked k.good _ refl k.there m in (ap as-block u.0, u.1)

  module _ (a : Arena) (ea : a ≡ block-parts.arena_in p.block) (m : Size) (em : m.0 ≡ find_size a.align.0 n.0)
      (o : (mode ≡ Mode.None → ⊥)) (y : units.Range) (ey : y ≡ struct (part w mode m.0 (plain e.here))) where
    pub block-takes : TakingTabled p.block vs e.number y
    block-takes = record {
      readable = readable p.block vs (block-parts.find_aim p.block w n) e k.looked;
      at_pair = block-finds.find-holding p.block vs w n mode e k.looked k.good _ refl k.there a ea m em o y ey;
      held = (find-part block_land p.block vs w n mode e k.looked k.good _ refl k.there a ea m em o y ey).held;
      at_end = block-finds.find-end p.block vs w n mode e k.looked k.good _ refl k.there a ea m em o y ey;
    }

    pub block_0 : (z : BlockLand) (vs' : List ℕ) → (z ≡ block.closed p.block (table_less p.block vs y)) × (vs' ≡ fill (table_less p.block vs y) vs) →
        InBlock (record { pair = record { list = p.list; block = z }; answer = 0; range = y; old = e.here }) vs'
    block_0 z vs' q =
        let u = find-0 block_land p.block vs w n mode e k.looked k.good _ refl k.there a ea m em o y ey z q.0 vs' q.1 in
        (ap as-block u.0, u.1)
