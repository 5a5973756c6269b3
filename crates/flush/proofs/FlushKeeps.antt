-- What an accepted flush keeps. Assumes nothing.
use Prim.Native.Nat.{ℕ, suc, ◌+◌}
use mathlib.Core.Bool.{true}
use mathlib.Core.List.{List}
use mathlib.Core.Path.{◌≡◌, refl, sym, ap, subst, ◌∙◌}
use native.Mathlib.Omega.{arith}
use lib.Dec.{eqb}
use lib.ListN.{length, length-append}
use borrow.Author.Tests.{le-leb, leb-true, eqb-true}
use Rattle.std.specs.Prelude.{Result, Ok, Err}
use Rattle.units.proofs.Tests.{by, and_left, and_right}
use Rattle.model.specs.Marks.{Range}
use Rattle.model.specs.inner.Lists.{Apart, Aligned}
use Rattle.model.specs.Calls.{Arena, unbounded}
use Rattle.model.specs.Layouts.{holding}
use Rattle.model.specs.inner.Laws.{Fine}
use Rattle.model.specs.Flushing.{flush, Flushes}
use Rattle.model.specs.LowWater.{begins, closes}
use Rattle.model.proofs.Flushing.{flushes, flush-still}
use Rattle.list_words.proofs.Laid.{Laid, laid-rest, lay-laid}
use Rattle.list_land.specs.Layout as list
use Rattle.list_land.specs.declared.ListLand.{ListLand}
use Rattle.list_land.proofs.Sound as list-sound
use Rattle.list_land.proofs.LayoutLaws.{list-laws, read-laid}
use Rattle.block_words.specs.Words.{capacity, fill}
use Rattle.block_land.specs.Layout as block
use Rattle.block_land.specs.declared.BlockLand.{BlockLand}
use Rattle.block_land.proofs.Sound as block-sound
use Rattle.block_land.proofs.LayoutLaws.{block-laws, read-filled}
use Rattle.flush.specs.Flush.{Done, same_arena, check_number, check_of, moves, accepted, done, flushed}
use Rattle.flush.specs.declared.FlushError.{FlushError}
use Rattle.flush.specs.Claims.{Kept, FlushKeeps}

-- the checks of an accepted flush
pub record Checked (h : ListLand) (ws : List ℕ) (k : BlockLand) (vs : List ℕ) : Type 0 where
  pub list_up : list.set_up h ws ≡ true
  pub block_up : block.set_up k vs ≡ true
  pub same : same_arena h k ≡ true
  pub list-sound : list.sound h ws ≡ true
  pub block-sound : block.sound k vs ≡ true

no-case : {P : Type 0} {x : Result (Unit {0}) FlushError} → x ≡ Ok tt → {n : ℕ} → check_number x ≡ suc n → P
no-case e f = let z : ◌≡◌ {A = ℕ} 0 (suc _) = sym (ap check_number e) ∙ f in absurd (omega arith)

-- the case of the check
pub checked : (h : ListLand) (ws : List ℕ) (k : BlockLand) (vs : List ℕ) → check_of h ws k vs ≡ Ok tt → Checked h ws k vs
unfolding check_of
checked h ws k vs e =
    by (list.set_up h ws)
    (λ p. by (block.set_up k vs)
    (λ q. by (same_arena h k)
    (λ s. by (list.sound h ws)
    (λ t. by (block.sound k vs)
    (λ u. record { list_up = p; block_up = q; same = s; list-sound = t; block-sound = u })
    (λ u. let z : Err FlushError.BlockDamaged ≡ Ok tt = rw (p, q, s, t, u) at e in no-case z refl))
    (λ t. let z : Err FlushError.ListDamaged ≡ Ok tt = rw (p, q, s, t) at e in no-case z refl))
    (λ s. let z : Err FlushError.Differ ≡ Ok tt = rw (p, q, s) at e in no-case z refl))
    (λ q. let z : Err FlushError.BlockSetUp ≡ Ok tt = rw (p, q) at e in no-case z refl))
    (λ p. let z : Err FlushError.ListSetUp ≡ Ok tt = rw p at e in no-case z refl)

-- only a good check is answered 0
good-check : (h : ListLand) (ws : List ℕ) (k : BlockLand) (vs : List ℕ) (x : Result (Unit {0}) FlushError) → (done h ws k vs x).result.answer ≡ 0 → x ≡ Ok tt
good-check h ws k vs (Ok u) e = refl
good-check h ws k vs (Err FlushError.ListSetUp) e = absurd (omega arith)
good-check h ws k vs (Err FlushError.BlockSetUp) e = absurd (omega arith)
good-check h ws k vs (Err FlushError.Differ) e = absurd (omega arith)
good-check h ws k vs (Err FlushError.ListDamaged) e = absurd (omega arith)
good-check h ws k vs (Err FlushError.BlockDamaged) e = absurd (omega arith)

-- sound lands are read
list-reads : (h : ListLand) (ws : List ℕ) → list.set_up h ws ≡ true → list.sound h ws ≡ true → list.read_of h ws ≡ holding (list.walk_of h ws).met
unfolding list.read_of
list-reads h ws p s = rw (p, s)

block_reads : (k : BlockLand) (vs : List ℕ) → block.set_up k vs ≡ true → block.sound k vs ≡ true → block.read_of k vs ≡ holding (block.table_of k vs)
unfolding block.read_of
block_reads k vs p s = rw (p, s)

-- the two arenas are one
pub record OneArena (h : ListLand) (k : BlockLand) : Type 0 where
  pub base : h.base.0 ≡ k.base.0
  pub limit : h.limit.0 ≡ k.limit.0
  pub align : h.align.0 ≡ k.align.0

pub one-arena : (h : ListLand) (k : BlockLand) → same_arena h k ≡ true → OneArena h k
one-arena h k s =
    let b = eqb h.base.0 k.base.0 in
    let l = eqb h.limit.0 k.limit.0 in
    let r = and_right b _ s in
    record {
      base = eqb-true h.base.0 k.base.0 (and_left b _ s);
      limit = eqb-true h.limit.0 k.limit.0 (and_left l _ r);
      align = eqb-true h.align.0 k.align.0 (and_right l _ r);
    }

pub same-apart : (b b' l l' : ℕ) (qs : List Range) → b ≡ b' → l ≡ l' → Apart b l qs → Apart b' l' qs
same-apart b b' l l' qs p q h = rw (← p, ← q) h

pub same-aligned : (a a' : ℕ) (qs : List Range) → a ≡ a' → Aligned a qs → Aligned a' qs
same-aligned a a' qs p h = rw (← p) h

module _ (h : ListLand) (ws : List ℕ) (k : BlockLand) (vs : List ℕ) (c : Checked h ws k vs) where
  pub is-accepted : flushed h ws k vs ≡ accepted h ws k vs (moves h ws k vs)
  unfolding flushed check_of
  is-accepted = rw (c.list_up, c.block_up, c.same, c.list-sound, c.block-sound)

  abbrev a : Arena
  a = block.arena_of k vs

  abbrev rs : List Range
  rs = (list.walk_of h ws).met

  abbrev ts : List Range
  ts = block.table_of k vs

  pub list_fine : list-sound.Fine h ws
  list_fine = list-sound.fine h ws c.list_up c.list-sound

  pub block_fine : block-sound.Fine k vs
  block_fine = block-sound.fine k vs c.block_up c.block-sound

  pub one : OneArena h k
  one = one-arena h k c.same

  -- the list's ranges are ranges of the block land's arena
  pub list-canon : Fine (unbounded a) rs
  list-canon =
      let f = list_fine in
      record {
        order = block_fine.place.arena.order;
        canon = record {
          apart = same-apart h.base.0 k.base.0 h.limit.0 k.limit.0 rs one.base one.limit f.apart;
          aligned = same-aligned h.align.0 k.align.0 rs one.align f.straight;
        };
        room = refl;
      }

  pub block-canon : Fine a ts
  block-canon =
      let f = block_fine in
      record {
        order = f.place.arena.order;
        canon = record { apart = f.apart; aligned = f.aligned };
        room = le-leb (length ts) (capacity vs) (rw f.count at f.fits);
      }

  pub keeps : Flushes a rs ts (flush a rs ts)
  keeps = flushes a rs ts list-canon block-canon

  abbrev left : List Range
  left = (flush a rs ts).left

  abbrev into : List Range
  into = (flush a rs ts).into

  pub left_laid : Laid h.base.0 left ws
  left_laid = laid-rest h.base.0 ws keeps.gone left (rw keeps.split at list_fine.laid)

  pub list_read : list.read_of (list.closed h left) ws ≡ holding left
  list_read =
      let f = keeps.left_fine in
      let o = one in
      read-laid h ws left list_fine.place c.list_up left_laid
      (same-apart k.base.0 h.base.0 k.limit.0 h.limit.0 left (sym o.base) (sym o.limit) f.canon.apart)
      (same-aligned k.align.0 h.align.0 left (sym o.align) f.canon.aligned)

  pub block_read : block.read_of (block.closed k into) (fill into vs) ≡ holding into
  block_read =
      let f = keeps.into_fine in
      read-filled k vs into c.block_up f.canon.apart f.canon.aligned (leb-true (length into) (capacity vs) f.room)

  kept : Kept h ws k vs
  kept =
      let e = is-accepted in
      let f = keeps in
      let n = list_fine.count in
      let g = list_fine.bytes in
      let j = block_fine.bytes in
      let s : length rs ≡ length f.gone + length left = ap length f.split ∙ length-append f.gone left in
      record {
        list_before = rs;
        block_before = ts;
        list_after = left;
        block_after = into;
        reads_list = list-reads h ws c.list_up c.list-sound;
        reads_block = block_reads k vs c.block_up c.block-sound;
        list_readable = rw e list_read;
        block_readable = rw e block_read;
        arena_words = lay-laid h.base.0 left ws left_laid;
        flushes = subst (λ (d : Done). Flushes a rs ts (record { moved = d.result.moved; stop = d.result.stop; left = left; into = into })) (sym e) f;
        moved = rw e (let m = f.moved in omega arith);
        sum = rw e (let m = f.sum in omega arith);
        list_closing = rw e (closes begins left);
        block_closing = rw e (closes begins into);
        idle = rw e (λ m. let n = flush-still a rs ts m in (
          ap (list.closed h) n.0 ∙ list-laws.close_same h ws rs (list-reads h ws c.list_up c.list-sound),
          ap (block.closed k) n.1 ∙ block-laws.close_same k vs ts (block_reads k vs c.block_up c.block-sound),
        ));
      }

answer-of : (h : ListLand) (ws : List ℕ) (k : BlockLand) (vs : List ℕ) → (flushed h ws k vs).result.answer ≡ 0 → (done h ws k vs (check_of h ws k vs)).result.answer ≡ 0
unfolding flushed
answer-of h ws k vs e = e

pub flush-keeps : FlushKeeps
flush-keeps h ws k vs e = kept h ws k vs (checked h ws k vs (good-check h ws k vs (check_of h ws k vs) (answer-of h ws k vs e)))
