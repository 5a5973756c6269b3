-- What a ready arena and a sound list say: ranges that are laid, apart, aligned and counted. Assumes nothing.
use Prim.Native.Nat.{ℕ, ◌-◌, ◌/◌, ◌%◌, ◌<◌}
use mathlib.Core.Bool.{true}
use mathlib.Core.List.{List}
use mathlib.Core.Path.{◌≡◌}
use native.Mathlib.Omega.{arith}
use lib.Dec.{eqb}
use lib.ListN.{length}
use borrow.Author.Tests.{eqb-true}
use Rattle.units.specs.declared.rules.Arena.{Arena}
use Rattle.units.proofs.Alignments.{multiple-8, align-positive}
use Rattle.units.proofs.Facts.{GoodArena, arena-facts}
use Rattle.units.proofs.Tests.{and_left, and_right}
use Rattle.model.specs.Marks.{total}
use Rattle.model.specs.inner.Lists.{Apart, Aligned}
use Rattle.model.proofs.Totals.{total-small, length-small}
use Rattle.list_words.specs.Words.{is_clean, walk_from, sound_walk}
use Rattle.list_words.specs.Laying.{head_of}
use Rattle.list_words.specs.inner.Surveys.{Ready, walk_of}
use Rattle.list_words.specs.declared.Chain.{Chain}
use Rattle.list_words.proofs.Laid.{Laid}
use Rattle.list_words.proofs.Meeting.{clean-case, walk-mets, aligned-8}
use Rattle.list_edits.specs.inner.Chains.{met_of}

-- what a ready arena says of the numbers
pub record SetUpFacts (a : Arena) (n : ℕ) : Type 0 where
  pub ready : Ready a n
  pub arena : GoodArena a.base.0 a.limit.0 a.align.0
  pub words : (a.limit.0 - a.base.0) / 8 ≡ n
  pub positive : 0 < a.align.0

pub placed : (a : Arena) (n : ℕ) → Ready a n → SetUpFacts a n
placed a n r =
    let f = arena-facts a.base.0 a.limit.0 a.align.0 r.arena in
    record { ready = r; arena = f; words = r.words; positive = align-positive a.align.0 f.align }

-- a chain whose list is sound
pub record Fine (a : Arena) (ws : List ℕ) (c : Chain) : Type 0 where
  pub place : SetUpFacts a (length ws)
  pub base8 : a.base.0 % 8 ≡ 0
  pub laid : Laid a.base.0 (met_of a ws c) ws
  pub apart : Apart a.base.0 a.limit.0 (met_of a ws c)
  pub straight : Aligned a.align.0 (met_of a ws c)
  pub aligned : Aligned 8 (met_of a ws c)
  pub head : head_of (met_of a ws c) ≡ c.head.0
  pub count : c.ranges ≡ length (met_of a ws c)
  pub bytes : c.bytes.0 ≡ total (met_of a ws c)

pub fine : (a : Arena) (ws : List ℕ) (c : Chain) → Ready a (length ws) → sound_walk (walk_of a ws c.head.0) c.ranges c.bytes.0 ≡ true → Fine a ws c
unfolding sound_walk walk_from
fine a ws c r s =
    let w = walk_of a ws c.head.0 in
    let p = placed a (length ws) r in
    let g = p.arena in
    let t = and_right (is_clean w.end) _ s in
    let e = clean-case w.end (and_left _ _ s) in
    let m = walk-mets a.base.0 a.limit.0 a.align.0 ws (length ws) a.base.0 c.head.0 e in
    record {
      place = p;
      base8 = multiple-8 a.align.0 a.base.0 g.align g.base_aligned;
      laid = m.laid;
      apart = m.apart;
      straight = m.aligned;
      aligned = aligned-8 a.align.0 g.align w.met m.aligned;
      head = m.head;
      count = eqb-true c.ranges (length w.met) (and_left _ _ t);
      bytes = eqb-true c.bytes.0 (total w.met) (and_right (eqb c.ranges (length w.met)) _ t);
    }

-- so its counts are far from too large
pub record Small (c : Chain) : Type 0 where
  pub count : c.ranges < 1099511627778
  pub bytes : c.bytes.0 < 1099511627778

pub small : (a : Arena) (ws : List ℕ) (c : Chain) → Fine a ws c → Small c
small a ws c f =
    let g = f.place.arena in
    let t = total-small a.base.0 a.limit.0 (met_of a ws c) (omega (arith, g.order)) f.apart in
    let n = length-small a.base.0 a.limit.0 (met_of a ws c) f.apart in
    let u = f.count in
    let v = f.bytes in
    record { count = omega (arith, g.top); bytes = omega (arith, g.top) }
