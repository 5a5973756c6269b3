-- What a call of a pair equals, by the way it takes: 5 or 6, a refused step, an accepted step. Assumes nothing.
use Prim.Native.Nat.{ℕ}
use mathlib.Core.Bool.{Bool, true, false, not, ◌&&◌}
use mathlib.Core.List.{List}
use mathlib.Core.Path.{◌≡◌, refl, sym, ap, ◌∙◌}
use lib.Dec.{eqb}
use borrow.Author.Tests.{not-true, not-false}
use Rattle.std.specs.Prelude.{Result, Ok, Err}
use Rattle.units.specs.declared.refusals.Refusal.{Refusal}
use Rattle.units.specs.Rules.{refusal_number}
use Rattle.units.specs.declared.aims.Aim.{Aim}
use Rattle.units.proofs.Tests.{by, and_left, and_right}
use Rattle.model.specs.Calls.{refused, accepted}
use Rattle.model.specs.Layouts.{Reading, fault, holding}
use Rattle.model.specs.Marks.{Range}
use Rattle.model.specs.inner.Looks.{look_of}
use Rattle.model.proofs.lands.Looking.{look-ok, look-err}
use Rattle.model.proofs.Outcomes.{fault-number}
use Rattle.list_words.specs.Laying.{lay}
use Rattle.list_words.specs.inner.Surveys.{kept_of}
use Rattle.list_words.specs.declared.Spot.{Spot}
use Rattle.list_land.specs.Layout as list
use Rattle.list_land.specs.inner.Parts as list-parts
use Rattle.list_land.proofs.Land as list_land
use Rattle.block_words.specs.Words.{fill}
use Rattle.block_words.specs.inner.Surveys.{entry_of}
use Rattle.block_words.specs.declared.Entry.{Entry}
use Rattle.block_land.specs.Layout as block
use Rattle.block_land.specs.inner.Parts as block-parts
use Rattle.block_land.proofs.Land as block_land
use Rattle.flush.specs.Flush.{same_arena}
use Rattle.flush.specs.Flush as flush-check
use Rattle.pair_model.specs.Pairs.{both, PairCall, Sets, keep, pair_step}
use Rattle.pair_model.specs.PairLayouts.{meet, pair_read}
use Rattle.pair.specs.Calls.{lands, PairDone, called, set_up, sound}
use Rattle.pair.specs.inner.Parts.{aim_in, check_of, check_number, Checked}
use Rattle.pair.specs.declared.Pair.{Pair}
use Rattle.pair.proofs.Checking.{list_up, block_up, flush-good}

module _ (p : Pair) (ws vs : List ℕ) where
  abbrev rs : List Range
  rs = (list.walk_of p.list ws).met

  abbrev qs : List Range
  qs = block.table_of p.block vs

  abbrev reads : Reading Sets
  reads = pair_read list.layout block.layout (lands p) (both ws vs)

  -- 5
  pub reads-5 : set_up p ws vs ≡ false → reads ≡ fault 5
  reads-5 g =
      by (list.set_up p.list ws)
      (λ a. by (block.set_up p.block vs)
      (λ b. let c : same_arena p.list p.block ≡ false = rw (a, b) at g in differ a b c)
      (λ b. let l = list_read a in l (list.sound p.list ws) refl b))
      (λ a. rw (list_land.reads_as p.list ws, a))
    where
      differ : list.set_up p.list ws ≡ true → block.set_up p.block vs ≡ true → same_arena p.list p.block ≡ false → reads ≡ fault 5
      differ a b c =
          by (list.sound p.list ws)
          (λ s. by (block.sound p.block vs)
          (λ t. rw (list_land.reads_as p.list ws, a, s, block_land.reads_as p.block vs, b, t, c))
          (λ t. rw (list_land.reads_as p.list ws, a, s, block_land.reads_as p.block vs, b, t, c)))
          (λ s. by (block.sound p.block vs)
          (λ t. rw (list_land.reads_as p.list ws, a, s, block_land.reads_as p.block vs, b, t, c))
          (λ t. rw (list_land.reads_as p.list ws, a, s, block_land.reads_as p.block vs, b, t, c)))

      list_read : list.set_up p.list ws ≡ true → (s : Bool) → list.sound p.list ws ≡ s → block.set_up p.block vs ≡ false → reads ≡ fault 5
      list_read a true e b = rw (list_land.reads_as p.list ws, a, e, block_land.reads_as p.block vs, b)
      list_read a false e b = rw (list_land.reads_as p.list ws, a, e, block_land.reads_as p.block vs, b)

  module _ (g : set_up p ws vs ≡ true) where
    same : same_arena p.list p.block ≡ true
    same = and_right (block.set_up p.block vs) (same_arena p.list p.block) (and_right (list.set_up p.list ws) _ g)

    -- 6
    pub reads-6 : sound p ws vs ≡ false → reads ≡ fault 6
    reads-6 n =
        by (list.sound p.list ws)
        (λ s. by (block.sound p.block vs)
        (λ t. let m : not (meet rs qs) ≡ false = rw (s, t) at n in
        rw (list_land.reads_as p.list ws, (list_up p ws vs g), s, block_land.reads_as p.block vs, (block_up p ws vs g), t, same, not-false (meet rs qs) m))
        (λ t. rw (list_land.reads_as p.list ws, (list_up p ws vs g), s, block_land.reads_as p.block vs, (block_up p ws vs g), t, same)))
        (λ s. by (block.sound p.block vs)
        (λ t. rw (list_land.reads_as p.list ws, (list_up p ws vs g), s, block_land.reads_as p.block vs, (block_up p ws vs g), t, same))
        (λ t. rw (list_land.reads_as p.list ws, (list_up p ws vs g), s, block_land.reads_as p.block vs, (block_up p ws vs g), t, same)))

    pub reads_both : sound p ws vs ≡ true → reads ≡ holding (both rs qs)
    reads_both n =
        let s = and_left (list.sound p.list ws) _ n in
        let r = and_right (list.sound p.list ws) _ n in
        let t = and_left (block.sound p.block vs) _ r in
        let m = not-true (meet rs qs) (and_right (block.sound p.block vs) _ r) in
        rw (list_land.reads_as p.list ws, (list_up p ws vs g), s, block_land.reads_as p.block vs, (block_up p ws vs g), t, same, m)

-- the number of a check is the number that the handles and the words are read with
pub check-number : (p : Pair) (ws vs : List ℕ) (aim : Aim) → check_number (check_of p ws vs aim) ≡ fault-number (reads p ws vs)
unfolding check_of
check-number p ws vs aim =
    by (set_up p ws vs)
    (λ g. by (sound p ws vs)
    (λ s. rw (g, s, reads_both p ws vs g s))
    (λ s. rw (g, s, reads-6 p ws vs g s)))
    (λ g. rw (g, reads-5 p ws vs g))

-- WHAT A CALL HANDS BACK
-- a refusal: the handles and the words given
abbrev pub refusal : Pair → List ℕ → List ℕ → ℕ → PairDone
refusal p ws vs n = record { out = refused n; handle = lands p; words = both ws vs }

-- what f reads of a result, and the words of both memories
abbrev pub Hands : {R : Type 0} → (PairDone → R) → PairDone → R → List ℕ → List ℕ → Type 0
Hands f d w ws' vs' = (w ≡ f d) × (ws' ≡ d.words.list) × (vs' ≡ d.words.block)

pub refuse : {R : Type 0} (f : PairDone → R) (p : Pair) (ws vs : List ℕ) (n : ℕ) (d : PairDone) → d ≡ refusal p ws vs n →
    (w : R) → w ≡ f (refusal p ws vs n) → Hands f d w ws vs
refuse f p ws vs n d e w ew = (ew ∙ ap f (sym e), rw e, rw e)

-- 5 and 6, of any call
module _ {R : Type 0} (f : PairDone → R) (p : Pair) (ws vs : List ℕ) (c : PairCall) (d : PairDone) (ed : d ≡ called c p ws vs) where
  pub bad-is-5 : set_up p ws vs ≡ false → (w : R) → w ≡ f (refusal p ws vs 5) → Hands f d w ws vs
  bad-is-5 g = refuse f p ws vs 5 d (ed ∙ rw (reads-5 p ws vs g))

  pub damaged-is-6 : set_up p ws vs ≡ true → sound p ws vs ≡ false → (w : R) → w ≡ f (refusal p ws vs 6) → Hands f d w ws vs
  damaged-is-6 g t = refuse f p ws vs 6 d (ed ∙ rw (reads-6 p ws vs g t))

-- WHAT A CHECK SAYS
module _ (p : Pair) (ws vs : List ℕ) (aim : Aim) (v : Result (Spot × Entry) Refusal) (ev : v ≡ check_of p ws vs aim) where
  abbrev kept : Spot × Entry
  kept = (kept_of (aim_in p aim) (list.walk_of p.list ws).met, entry_of (aim_in p aim) (block.table_of p.block vs))

  told : v ≡ look_of (set_up p ws vs) (sound p ws vs) kept
  unfolding check_of
  told = ev

  pub saw-checked : (s : Spot) (e : Entry) → v ≡ Ok (s, e) → Checked p ws vs (aim_in p aim) s e
  saw-checked s e f =
      let t = look-ok (set_up p ws vs) (sound p ws vs) kept (s, e) (sym f ∙ told) in
      record { good = t.0; whole = t.1; spot = ap (λ (k : Spot × Entry). k.0) t.2; entry = ap (λ (k : Spot × Entry). k.1) t.2 }

  pub answers-err : {R : Type 0} (g : PairDone → R) (c : PairCall) (d : PairDone) → d ≡ called c p ws vs →
      (x : Refusal) → v ≡ Err x → (w : R) → w ≡ g (refusal p ws vs (refusal_number x)) → Hands g d w ws vs
  answers-err g c d ed x f =
      look-err (set_up p ws vs) (sound p ws vs) kept x (sym f ∙ told)
      (λ k q. rw q (bad-is-5 g p ws vs c d ed k))
      (λ k t q. rw q (damaged-is-6 g p ws vs c d ed k t))

-- A PAIR THAT WAS CHECKED
module _ (p : Pair) (ws vs : List ℕ) (aim : Aim) (s : Spot) (e : Entry) (k : Checked p ws vs aim s e) where
  rest : (block.sound p.block vs && not (meet (list.walk_of p.list ws).met (block.table_of p.block vs))) ≡ true
  rest = and_right (list.sound p.list ws) _ k.whole

  list-sound : list.sound p.list ws ≡ true
  list-sound = and_left (list.sound p.list ws) _ k.whole

  block-sound : block.sound p.block vs ≡ true
  block-sound = and_left (block.sound p.block vs) _ rest

  pub apart : meet (list.walk_of p.list ws).met (block.table_of p.block vs) ≡ false
  apart = not-true (meet (list.walk_of p.list ws).met (block.table_of p.block vs)) (and_right (block.sound p.block vs) _ rest)

  pub list-looked : list-parts.Looked p.list ws aim s
  list-looked = record { good = list_up p ws vs k.good; whole = list-sound; kept = k.spot }

  pub block-looked : block-parts.Looked p.block vs aim e
  block-looked = record { good = block_up p ws vs k.good; whole = block-sound; kept = k.entry }

  pub flush-checked : flush-check.check_of p.list ws p.block vs ≡ Ok tt
  flush-checked = flush-good p ws vs k.good list-sound block-sound

  -- a refused step, and an accepted one
  pub refuses : (c : PairCall) (n : ℕ) → eqb n 0 ≡ false →
      pair_step (block.arena_of p.block vs) c (both (list.walk_of p.list ws).met (block.table_of p.block vs))
      ≡ keep n (both (list.walk_of p.list ws).met (block.table_of p.block vs)) →
      called c p ws vs ≡ refusal p ws vs n
  refuses c n z d = rw (reads_both p ws vs k.good k.whole, d, z)

  pub accepts : (c : PairCall) (f r : Range) (rs' qs' : List Range) →
      pair_step (block.arena_of p.block vs) c (both (list.walk_of p.list ws).met (block.table_of p.block vs)) ≡ record { out = accepted f r; next = both rs' qs' } →
      called c p ws vs ≡ record {
        out = accepted f r;
        handle = both (list.closed p.list rs') (block.closed p.block qs');
        words = both (lay (list.base p.list) rs' ws) (fill qs' vs);
      }
  accepts c f r rs' qs' d = rw (reads_both p ws vs k.good k.whole, d)
