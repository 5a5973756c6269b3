-- What a good set-up and a sound table say: an arena, and ranges that are apart, aligned and counted. Assumes nothing.
use Prim.Native.Nat.{ℕ, ◌*◌, ◌≤◌, ◌<◌}
use mathlib.Core.Bool.{true}
use mathlib.Core.List.{List}
use mathlib.Core.Path.{◌≡◌, sym}
use lib.Dec.{leb}
use lib.ListN.{length, drop}
use borrow.Author.Tests.{eqb-true, leb-true}
use Rattle.std.specs.Prelude.{Ok}
use Rattle.units.specs.LowWater.{sound_low}
use Rattle.units.specs.Rules.{arena_check, good_arena}
use Rattle.units.proofs.Alignments.{align-positive}
use Rattle.units.proofs.Cases.{good-case}
use Rattle.units.proofs.Facts.{GoodArena, arena-facts}
use Rattle.units.proofs.Tests.{and_left, and_right}
use Rattle.model.specs.Marks.{total}
use Rattle.model.specs.inner.Lists.{Apart, Aligned}
use Rattle.block_words.specs.Words.{capacity, all_zero, canonical, sound_table}
use Rattle.block_words.proofs.Pairs.{length_pairs}
use Rattle.block_words.proofs.Canonical.{canonical-apart}
use Rattle.block_land.specs.Layout.{base, limit, align, set_up, sound, table_of}
use Rattle.block_land.specs.declared.BlockLand.{BlockLand}

-- what a good set-up says of the numbers
pub record SetUpFacts (h : BlockLand) (n : ℕ) : Type 0 where
  pub check : arena_check (base h) (limit h) (align h) ≡ Ok tt
  pub arena : GoodArena (base h) (limit h) (align h)
  pub few : n ≤ 2097152
  pub positive : 0 < align h

pub placed : (h : BlockLand) (ws : List ℕ) → set_up h ws ≡ true → SetUpFacts h (length ws)
unfolding set_up
placed h ws e =
    let c = good-case (arena_check (base h) (limit h) (align h)) (and_left _ _ e) in
    let f = arena-facts (base h) (limit h) (align h) c in
    record {
      check = c;
      arena = f;
      few = leb-true (length ws) 2097152 (and_right (good_arena (arena_check (base h) (limit h) (align h))) _ e);
      positive = align-positive (align h) f.align;
    }

-- a land whose table is sound
pub record Fine (h : BlockLand) (ws : List ℕ) : Type 0 where
  pub place : SetUpFacts h (length ws)
  pub fits : h.ranges ≤ capacity ws
  pub clean : all_zero (drop (2 * h.ranges) ws) ≡ true
  pub apart : Apart (base h) (limit h) (table_of h ws)
  pub aligned : Aligned (align h) (table_of h ws)
  pub count : h.ranges ≡ length (table_of h ws)
  pub bytes : h.bytes.0 ≡ total (table_of h ws)
  pub low : sound_low h.water h.bytes.0 ≡ true

pub fine : (h : BlockLand) (ws : List ℕ) → set_up h ws ≡ true → sound h ws ≡ true → Fine h ws
unfolding sound sound_table
fine h ws g t =
    let s = and_left _ (sound_low h.water h.bytes.0) t in
    let n = h.ranges in
    let rs = table_of h ws in
    let k = leb-true n (capacity ws) (and_left _ _ s) in
    let s1 = and_right (leb n (capacity ws)) _ s in
    let s2 = and_right (all_zero (drop (2 * n) ws)) _ s1 in
    let c = canonical-apart (base h) (limit h) (align h) rs (and_left _ _ s2) in
    record {
      place = placed h ws g;
      fits = k;
      clean = and_left _ _ s1;
      apart = c.0;
      aligned = c.1;
      count = sym (length_pairs ws n k);
      bytes = eqb-true h.bytes.0 (total rs) (and_right (canonical (base h) (limit h) (align h) rs) _ s2);
      low = and_right (sound_table (base h) (limit h) (align h) ws n h.bytes.0) _ t;
    }
