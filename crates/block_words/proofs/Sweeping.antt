-- A sweep over the pairs judges what the definition says: its sign tells whether the words ascend, where no word has its top bit;
-- and the loop of `judge`. Assumes nothing.
use Rattle.std.proofs.Common.{◌≡◌, ℕ, ◌+◌, ◌*◌, ◌/◌, ◌<◌, ◌≤◌, Bool, true, false, ◌&&◌, eqb, List, [], ◌∷◌, length, get_or, sym, refl, ap, ◌∙◌, ap₂, arith, leb-false, leb-true}
use mathlib.Core.Bool.{and-true}
use lib.Bits.{bit_and, bit_or, and_le_l, or_lt}
use borrow.Author.Tests.{lt-leb}
use Rattle.units.specs.inner.Parts.{Checked, soundness_of}
use Rattle.units.specs.declared.Size.{Size}
use Rattle.units.specs.declared.rules.Arena.{Arena}
use Rattle.units.proofs.Tests.{by, conj}
use Rattle.units.proofs.Facts.{GoodArena, arena-facts}
use Rattle.model.specs.Marks.{Range, size}
use Rattle.block_words.specs.Words.{pairs}
use Rattle.block_words.specs.inner.Tallies.{behind, Ready, below, top, start_of, swept_by, swept, verdict_of, sound_pairs}
use Rattle.block_words.specs.declared.sweep.Sweep.{Sweep}
use Rattle.block_words.proofs.Ascending.{follows, sound, sound-range, sound-off, sound-on, sound-whole}
use Rattle.block_words.proofs.Pairs.{pairs-at, pairs_end, all-behind}
use Rattle.block_words.proofs.Tallying.{is-high, is-falling}
use Rattle.block_words.proofs.WordBits.{below_word, below_top, below-size, top-and, or-left-le, or-right-le}

-- words OR-ed only grow, and the sign that they ascend only falls
bits-grow : (s : Sweep) (rs : List Range) → s.bits ≤ (swept s rs).bits
bits-grow s [] = omega arith
bits-grow s (r ∷ rs) =
    let p = bits-grow (swept_by s r.base r.limit) rs in
    omega (arith, or-left-le s.bits (bit_or r.base r.limit))

sign-falls : (s : Sweep) (b l : ℕ) → (swept_by s b l).rising ≤ s.rising
sign-falls s b l = and_le_l s.rising _

rising-falls : (s : Sweep) (rs : List Range) → (swept s rs).rising ≤ s.rising
rising-falls s [] = omega arith
rising-falls s (r ∷ rs) =
    let p = rising-falls (swept_by s r.base r.limit) rs in
    omega (arith, sign-falls s r.base r.limit)

-- a sweep whose words are below 2^63 and ascend
pub record Risen (s : Sweep) : Type 0 where
  pub room : s.bytes ≤ s.past
  pub low : s.past < 9223372036854775808
  pub small : s.bits < 9223372036854775808
  pub word : s.rising < 18446744073709551616
  pub sign : top s.rising ≡ true

-- one pair further on, of words below 2^63
module _ (s : Sweep) (k : Risen s) (r : Range) (hb : r.base < 9223372036854775808) (hl : r.limit < 9223372036854775808) where
  abbrev next : Sweep
  next = swept_by s r.base r.limit

  sign-on : top next.rising ≡ follows s.past r
  sign-on =
      let g = below s.past r.base in
      let z = below r.base r.limit in
      let a = and_le_l g z in
      let w = below_word s.past r.base in
      top-and s.rising (bit_and g z) k.word (omega arith)
      ∙ ap₂ (λ (p q : Bool). p && q) k.sign
      (top-and g z w (below_word r.base r.limit)
      ∙ ap₂ (λ (p q : Bool). p && q) (below_top s.past r.base k.low hb) (below_top r.base r.limit hb hl))

  module _ (f : follows s.past r ≡ true) where
    bytes_on : next.bytes ≡ s.bytes + size r
    bytes_on =
        let p : s.past < r.base = search conj depth 8 in
        below-size s.bytes r.base r.limit (search conj depth 8) hl (omega (arith, k.room))

    risen-on : Risen next
    risen-on =
        let p : s.past < r.base = search conj depth 8 in
        let o : r.base < r.limit = search conj depth 8 in
        record {
          room = omega (arith, bytes_on, k.room);
          low = hl;
          small = or_lt 63 s.bits (bit_or r.base r.limit) k.small (or_lt 63 r.base r.limit hb hl);
          word = omega (arith, k.word, sign-falls s r.base r.limit);
          sign = sign-on ∙ f;
        }

module _ (arena : Arena) (bytes : Size) where
  verdict-last : (s : Sweep) → Risen s → verdict_of arena bytes s ≡ sound arena bytes s.past s.bits s.bytes []
  verdict-last s k =
      let y : s.bytes + 0 ≡ s.bytes = omega arith in
      rw (lt-leb 9223372036854775808 s.bits k.small, k.sign, y, and-true (eqb bytes.0 s.bytes))

  module _ (g : GoodArena arena.base.0 arena.limit.0 arena.align.0) where
    -- a word with its top bit is outside the arena
    outside : (s : Sweep) (r : Range) (rs : List Range) → 9223372036854775808 ≤ bit_or r.base r.limit →
        sound arena bytes s.past s.bits s.bytes (r ∷ rs) ≡ false
    outside s r rs h =
        by (sound arena bytes s.past s.bits s.bytes (r ∷ rs))
        (λ e.
        let w = sound-range arena bytes s.past s.bits s.bytes r rs e in
        let o = w.order in
        let u = w.upto in
        let m = or_lt 63 r.base r.limit (omega (arith, g.top)) (omega (arith, g.top)) in
        absurd (omega arith))
        (λ e. e)

    swept-sound : (s : Sweep) (rs : List Range) → Risen s → verdict_of arena bytes (swept s rs) ≡ sound arena bytes s.past s.bits s.bytes rs
    swept-sound s [] k = verdict-last s k
    swept-sound s (r ∷ rs) k =
        let u : Sweep = swept_by s r.base r.limit in
        by (top (bit_or r.base r.limit))
        (λ t.
        let h = leb-true 9223372036854775808 (bit_or r.base r.limit) t in
        let m = bits-grow u rs in
        let n = or-right-le s.bits (bit_or r.base r.limit) in
        is-high arena bytes (swept u rs) (omega arith) ∙ sym (outside s r rs h))
        (λ t.
        let h = leb-false 9223372036854775808 (bit_or r.base r.limit) t in
        let hb : r.base < 9223372036854775808 = omega (arith, or-left-le r.base r.limit) in
        let hl : r.limit < 9223372036854775808 = omega (arith, or-right-le r.base r.limit) in
        by (follows s.past r)
        (λ f.
        swept-sound u rs (risen-on s k r hb hl f)
        ∙ ap (λ (n : ℕ). sound arena bytes u.past u.bits n rs) (bytes_on s k r hb hl f)
        ∙ sound-on arena bytes s.past s.bits s.bytes r rs g.align f)
        (λ f.
        let m = leb-false 9223372036854775808 u.rising (sign-on s k r hb hl ∙ f) in
        let n = rising-falls u rs in
        is-falling arena bytes (swept u rs) (omega arith) ∙ sym (sound-off arena bytes s.past s.bits s.bytes r rs f)))

    pub swept-whole : (ws : List ℕ) (n : ℕ) → verdict_of arena bytes (swept (start_of arena) (pairs ws n)) ≡ sound_pairs arena ws n bytes
    swept-whole ws n =
        let o = g.order in
        let t = g.top in
        swept-sound (start_of arena) (pairs ws n)
        (record { room = omega arith; low = omega arith; small = omega arith; word = omega arith; sign = refl })
        ∙ sound-whole arena bytes g (pairs ws n)

-- a sweep along the words: going on from pair i comes to the same as from the start
pub record Going (a : Arena) (ws : List ℕ) (n i : ℕ) (u : Sweep) : Type 0 where
  pub fits : n ≤ length ws / 2
  pub upto : i ≤ n
  pub whole : swept u (behind ws n i) ≡ swept (start_of a) (pairs ws n)

module _ (a : Arena) (ws : List ℕ) (n : ℕ) where
  pub going_start : n ≤ length ws / 2 → (s : Sweep) → s ≡ start_of a → Going a ws n 0 s
  going_start k s e = rw e (record { fits = k; upto = omega arith; whole = ap (swept (start_of a)) (all-behind ws n) })

  module _ (i : ℕ) (u : Sweep) (j : Going a ws n i u) where
    pub going-again : i < n → (v : Sweep) → v ≡ swept_by u (get_or ws (2 * i) 0) (get_or ws (2 * i + 1) 0) → Going a ws n (i + 1) v
    going-again k v e =
        let p = ap (swept u) (pairs-at ws n i k j.fits) in
        rw e (record { fits = j.fits; upto = omega arith; whole = sym p ∙ j.whole })

    pub going_end : Ready a → n ≤ i → (bytes : Size) (r : Checked) → r ≡ soundness_of (verdict_of a bytes u) →
        r ≡ soundness_of (sound_pairs a ws n bytes)
    going_end ready done bytes r e =
        let g = arena-facts a.base.0 a.limit.0 a.align.0 ready in
        let last = sym (ap (swept u) (pairs_end ws n i done)) ∙ j.whole in
        e ∙ ap (λ (x : Sweep). soundness_of (verdict_of a bytes x)) last ∙ ap soundness_of (swept-whole a bytes g ws n)

pub ruleset goings = (going_start, going-again, going_end)
