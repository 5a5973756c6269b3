-- Contracts of the inner functions of a find of a pair. Assumes nothing.
use Rattle.std.specs.Prelude.{ℕ, ◌≤◌, true, cond, List, ◌≡◌, eqb, Option, Some, None}
use Rattle.units.specs.Rules.{find_size}
use Rattle.units.specs.declared.Range.{Range}
use Rattle.units.specs.declared.Size.{Size}
use Rattle.units.specs.declared.Which.{Which}
use Rattle.units.specs.declared.aims.Aim.{Aim}
use Rattle.model.specs.Calls.{good_size_in}
use Rattle.model.specs.inner.Looks.{Chose}
use Rattle.model.specs.Marks.{struct}
use Rattle.model.specs.inner.Lists.{plain}
use Rattle.list_words.specs.inner.Surveys.{kept_of}
use Rattle.list_words.specs.declared.Spot.{Spot}
use Rattle.list_land.specs.Calls as list-calls
use Rattle.list_land.specs.Layout as list
use Rattle.list_land.specs.inner.Parts as list-parts
use Rattle.list_land.specs.declared.ListLand.{ListLand}
use Rattle.block_words.specs.inner.Surveys.{entry_of}
use Rattle.block_words.specs.declared.Entry.{Entry}
use Rattle.block_land.specs.Calls as block-calls
use Rattle.block_land.specs.Layout as block
use Rattle.block_land.specs.inner.Parts as block-parts
use Rattle.block_land.specs.declared.BlockLand.{BlockLand}
use Rattle.pair_model.specs.Pairs.{list_first}
use Rattle.pair.specs.inner.Parts.{Checked}
use Rattle.pair.specs.declared.Found.{Found}
use Rattle.pair.specs.declared.Pair.{Pair}
use Rattle.pair.specs.declared.find.Side.{Side}

-- The size that both lands look for.
abbrev pub find_aim : Pair → Which → Size → Aim
find_aim p w n = Aim.Find w (record { 0 = find_size p.block.align.0 n.0 })

-- A pair that was checked, and what a find of a good size keeps of it.
abbrev pub Sought : Pair → List ℕ → List ℕ → Which → Size → Spot → Entry → Type 0
Sought p ws vs w n s e = Checked p ws vs (find_aim p w n) s e × (good_size_in (block.arena_of p.block vs) w n.0 ≡ true)

-- Neither of two ranges has its limit below its base.
pub record Ordered (r q : Range) : Type 0 where
  pub list : r.base.0 ≤ r.limit.0
  pub block : q.base.0 ≤ q.limit.0

-- Neither land has a range, base 0; one has; or the one that comes first.
unfoldable pub side_of : Which → Range → Range → Option Side
side_of w r q =
    cond (eqb r.base.0 0)
    (cond (eqb q.base.0 0) None (Some Side.Block))
    (cond (eqb q.base.0 0) (Some Side.List) (cond (list_first w (plain r) (plain q)) (Some Side.List) (Some Side.Block)))

-- A spot of a sound list, and an entry of a sound table, that a find of a good size has chosen.
abbrev pub ListChosen : ListLand → List ℕ → Which → Size → Spot → Type 0
ListChosen h ws w n s =
    Chose (list.set_up h ws) (list.sound h ws) (good_size_in (list.arena_of h) w n.0) (kept_of (list-parts.find_aim h w n) (list.walk_of h ws).met) s s.here

abbrev pub BlockChosen : BlockLand → List ℕ → Which → Size → Entry → Type 0
BlockChosen k vs w n e =
    Chose (block.set_up k vs) (block.sound k vs) (good_size_in (block.arena_of k vs) w n.0) (entry_of (block-parts.find_aim k w n) (block.table_of k vs)) e e.here

-- A find of one land as a find of the pair: the other land's handle stays.
abbrev pub list_found : Pair → list-calls.LandDone → Found
list_found p d = record { pair = record { list = d.handle; block = p.block }; answer = d.out.answer; range = struct d.out.found; old = struct d.out.old }

abbrev pub block_found : Pair → block-calls.LandDone → Found
block_found p d = record { pair = record { list = p.list; block = d.handle }; answer = d.out.answer; range = struct d.out.found; old = struct d.out.old }
