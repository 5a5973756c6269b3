-- A request that the range at the spot of a sound list holds. Assumes nothing.
use Prim.Native.Nat.{ℕ}
use mathlib.Core.Bool.{true, not}
use mathlib.Core.List.{List}
use mathlib.Core.Path.{◌≡◌, refl, sym, ap, ◌∙◌}
use lib.Dec.{eqb, leb}
use borrow.Author.Tests.{leb-true}
use Rattle.units.specs.declared.Range as units
use Rattle.units.proofs.Tests.{and_right}
use Rattle.model.specs.Answers.{RangeRules}
use Rattle.model.specs.Calls.{good_range_in}
use Rattle.model.specs.Marks.{Range, struct}
use Rattle.model.specs.inner.Lists.{holds, holder}
use Rattle.model.specs.inner.Picks.{here_of}
use Rattle.model.proofs.lands.Looking.{kept-reach}
use Rattle.model.proofs.Reaching.{reach}
use Rattle.model.proofs.Requests.{range-rules}
use Rattle.model.proofs.Surrounding.{held}
use Rattle.list_words.specs.declared.Spot.{Spot}
use Rattle.list_land.specs.Layout as list
use Rattle.list_land.specs.inner.Parts.{arena_in, chain_in, Looked, reach_limit}
use Rattle.list_land.specs.declared.ListLand.{ListLand}
use Rattle.list_land.proofs.Land.{list_land}
use Rattle.list_land.proofs.Requests.{looked-fine, looked-held}
use Rattle.list_land.proofs.Sound.{Fine}
use Rattle.pair.specs.inner.Deletes.{begins}
use Rattle.pair.specs.inner.Editing.{TakingListed}
use Rattle.pair.proofs.ReachedHere.{begins-holds, reach-holder}

module _ (h : ListLand) (ws : List ℕ) (y : units.Range) (s : Spot) (k : Looked h ws (reach_limit y) s)
    (good : good_range_in (list.arena_of h) y.base.0 y.limit.0 ≡ true) (at-spot : begins y s.here ≡ true) where
  abbrev b : ℕ
  b = y.base.0

  abbrev l : ℕ
  l = y.limit.0

  abbrev met : List Range
  met = (list.walk_of h ws).met

  fit : Fine h ws
  fit = looked-fine h ws (reach_limit y) s k

  rules : RangeRules (list.arena_of h) b l
  rules = range-rules (list.arena_of h) b l good

  at-reach : s.here ≡ here_of (reach l met)
  at-reach = kept-reach list_land y.limit (list.base h) (list.limit h) met fit.place.arena.above fit.apart s k.kept

  pub listed-holds : holds b l met ≡ true
  listed-holds =
      sym (begins-holds y (list.base h) (list.limit h) met fit.place.arena.above rules.order fit.apart) ∙ (rw at-reach at at-spot)

  pub listed_here : s.here ≡ struct (holder b l met)
  listed_here = at-reach ∙ ap here_of (reach-holder b l (list.base h) (list.limit h) met rules.order fit.apart listed-holds)

  pub listed-takes : TakingListed h ws y s
  listed-takes = record {
    aim = reach_limit y;
    held = looked-held h ws (reach_limit y) s k (arena_in h) refl (chain_in h) refl;
    low = leb-true s.here.base.0 b (and_right (not (eqb s.here.base.0 0)) (leb s.here.base.0 b) at-spot);
    proper = rules.order;
    high = rw listed_here (held b l met listed-holds).high;
    base_aligned = rules.base_aligned;
    limit_aligned = rules.limit_aligned;
  }
