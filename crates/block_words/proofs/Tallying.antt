-- The ways out of `pair_at` and of the functions on a sweep: its start, one pair further on, and the verdict. Assumes nothing.
use Rattle.std.proofs.Common.{◌≡◌, ℕ, ◌+◌, ◌-◌, ◌*◌, ◌<◌, ◌≤◌, Bool, true, false, not, ◌&&◌, eqb, leb, List, get_or, sym, ap, ◌∙◌, ap₂, arith, eq-eqb, ne_eqb, eqb-true, le-leb}
use mathlib.Core.Bool.{and-false}
use lib.Bits.{bit_and, bit_or}
use borrow.Author.Tests.{eqb-false, lt-leb}
use Rattle.std.specs.Prelude.{Ok, Err}
use Rattle.units.specs.Rules.{multiple, good_align}
use Rattle.units.specs.inner.Parts.{Checked, soundness_of}
use Rattle.units.specs.Words.{range_of}
use Rattle.units.specs.declared.Addr.{Addr}
use Rattle.units.specs.declared.Align.{Align}
use Rattle.units.specs.declared.Range.{Range}
use Rattle.units.specs.declared.Size.{Size}
use Rattle.units.specs.declared.rules.Arena.{Arena}
use Rattle.units.specs.declared.refusals.Refusal.{Refusal}
use Rattle.units.proofs.Tests.{by}
use Rattle.units.proofs.Alignments.{align-positive}
use Rattle.units.proofs.Ways.{said-true, said-false}
use Rattle.units.proofs.Facts.{GoodArena, arena-facts}
use Rattle.block_words.specs.inner.Tallies.{pair_at, Ready, below, top, start_of, swept_by, verdict_of}
use Rattle.block_words.specs.declared.sweep.Sweep.{Sweep}

-- a pair from its words
pub pair_of : (ws : List ℕ) (i : ℕ) (b l : Addr) → b.0 ≡ get_or ws (2 * i) 0 → l.0 ≡ get_or ws (2 * i + 1) 0 →
    (r : Range) → r ≡ range_of b.0 l.0 → r ≡ pair_at ws i
pair_of ws i b l eb el r er = er ∙ ap₂ range_of eb el

facts : (arena : Arena) → Ready arena → GoodArena arena.base.0 arena.limit.0 arena.align.0
facts arena g = arena-facts arena.base.0 arena.limit.0 arena.align.0 g

-- the start
module _ (arena : Arena) (g : Ready arena) where
  pub start-above : 0 < arena.base.0
  start-above = (facts arena g).above

  pub start-made : (n : Size) → n.0 ≡ 1 → (p : Addr) → p.0 ≡ arena.base.0 - n.0 → (x : ℕ) → x ≡ p.0 →
      record { past = x; rising = 18446744073709551615; bits = 0; bytes = 0 } ≡ start_of arena
  start-made n en p ep x ex =
      let f : x ≡ arena.base.0 - 1 = ex ∙ ep ∙ ap (λ (y : ℕ). arena.base.0 - y) en in
      λ i. record { past = f i; rising = 18446744073709551615; bits = 0; bytes = 0 }

-- one pair further on
pub sweep-on : (s : Sweep) (b l g z y : ℕ) → g ≡ below s.past b → z ≡ below b l → y ≡ below s.bytes z →
    record { past = l; rising = bit_and s.rising (bit_and g z); bits = bit_or s.bits (bit_or b l); bytes = y } ≡ swept_by s b l
sweep-on s b l g z y eg ez ey =
    let f : y ≡ below s.bytes (below b l) = ey ∙ ap (below s.bytes) ez in
    λ i. record { past = l; rising = bit_and s.rising (bit_and (eg i) (ez i)); bits = bit_or s.bits (bit_or b l); bytes = f i }

-- the verdict
eqb-sym : (x y : ℕ) → eqb x y ≡ eqb y x
eqb-sym x y = by (eqb x y) (λ e. e ∙ sym (eq-eqb y x (sym (eqb-true x y e)))) (λ e. e ∙ sym (ne_eqb y x (λ z. eqb-false x y e (sym z))))

module _ (arena : Arena) (bytes : Size) (s : Sweep) where
  abbrev given : Checked
  given = soundness_of (verdict_of arena bytes s)

  -- a word with its top bit, and words that do not ascend
  pub is-high : 9223372036854775808 ≤ s.bits → verdict_of arena bytes s ≡ false
  is-high k = rw (le-leb 9223372036854775808 s.bits k)

  pub is-falling : s.rising < 9223372036854775808 → verdict_of arena bytes s ≡ false
  is-falling k = rw (lt-leb 9223372036854775808 s.rising k, and-false (not (top s.bits)))

  pub verdict-top : 9223372036854775808 ≤ s.bits → Err Refusal.Damaged ≡ given
  verdict-top k = ap soundness_of (sym (is-high k))

  pub verdict-falls : s.rising < 9223372036854775808 → Err Refusal.Damaged ≡ given
  verdict-falls k = ap soundness_of (sym (is-falling k))

  module _ (k : s.bits < 9223372036854775808) (t : 9223372036854775808 ≤ s.rising) (p : Addr) (ep : p.0 ≡ s.past) where
    -- what is left to judge
    left : verdict_of arena bytes s ≡ (leb s.past arena.limit.0 && (multiple arena.align.0 s.bits && eqb bytes.0 s.bytes))
    left = rw (lt-leb 9223372036854775808 s.bits k, le-leb 9223372036854775808 s.rising t)

    pub verdict-high : arena.limit.0 < p.0 → Err Refusal.Damaged ≡ given
    verdict-high f = rw (left, lt-leb s.past arena.limit.0 (omega arith))

    module _ (a : Align) (ea : a.0 ≡ arena.align.0) (m : Bool) (em : m ≡ multiple a.0 s.bits) where
      aligned : m ≡ multiple arena.align.0 s.bits
      aligned = em ∙ ap (λ (n : ℕ). multiple n s.bits) ea

      pub verdict-odd : not m ≡ true → Err Refusal.Damaged ≡ given
      verdict-odd f =
          rw (left, said-false m (multiple arena.align.0 s.bits) aligned f, and-false (leb s.past arena.limit.0))

      module _ (fh : p.0 ≤ arena.limit.0) (fm : not m ≡ false) (y : Size) (ey : y.0 ≡ s.bytes) (u : Bool) (eu : u ≡ eqb y.0 bytes.0) where
        verdict-is : u ≡ verdict_of arena bytes s
        verdict-is =
            rw (
              left,
              le-leb s.past arena.limit.0 (omega arith),
              said-true m (multiple arena.align.0 s.bits) aligned fm,
            ) (eu ∙ ap (λ (n : ℕ). eqb n bytes.0) ey ∙ eqb-sym s.bytes bytes.0)

        pub verdict-bytes : not u ≡ true → Err Refusal.Damaged ≡ given
        verdict-bytes f = rw (said-false u (verdict_of arena bytes s) verdict-is f)

        pub verdict-good : not u ≡ false → Ok tt ≡ given
        verdict-good f = rw (said-true u (verdict_of arena bytes s) verdict-is f)

module _ (arena : Arena) (g : Ready arena) where
  pub verdict-align : good_align arena.align.0 ≡ true
  verdict-align = (facts arena g).align

  pub verdict-positive : (a : Align) → a.0 ≡ arena.align.0 → 0 < a.0
  verdict-positive a e = rw e (align-positive arena.align.0 verdict-align)

pub ruleset verdicts = (verdict-top, verdict-falls, verdict-high, verdict-odd, verdict-bytes, verdict-good, verdict-align, verdict-positive)
