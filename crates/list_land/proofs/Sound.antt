-- What a good set-up and a sound list say: the facts of `list_edits`, of a handle. Assumes nothing.
use Prim.Native.Nat.{ℕ}
use mathlib.Core.Bool.{true}
use mathlib.Core.List.{List}
use mathlib.Core.Path.{◌≡◌}
use lib.ListN.{length}
use borrow.Author.Tests.{eqb-true}
use Rattle.units.specs.LowWater.{sound_low}
use Rattle.units.specs.Rules.{arena_check, good_arena}
use Rattle.units.specs.Words.{word_number}
use Rattle.units.proofs.Cases.{good-case}
use Rattle.units.proofs.Tests.{and_left, and_right}
use Rattle.list_words.specs.Words.{sound_walk}
use Rattle.list_edits.proofs.Sound as edits
use Rattle.list_land.specs.Layout.{base, limit, align, set_up, walk_of, sound}
use Rattle.list_land.specs.inner.Parts.{arena_in, chain_in}
use Rattle.list_land.specs.declared.ListLand.{ListLand}

-- what a good set-up says of the numbers
abbrev pub SetUpFacts : ListLand → ℕ → Type 0
SetUpFacts h n = edits.SetUpFacts (arena_in h) n

pub placed : (h : ListLand) (ws : List ℕ) → set_up h ws ≡ true → SetUpFacts h (length ws)
unfolding set_up
placed h ws e =
    edits.placed (arena_in h) (length ws) (record {
      arena = good-case (arena_check (base h) (limit h) (align h)) (and_left _ _ e);
      words = eqb-true (word_number (base h) (limit h)) (length ws) (and_right (good_arena (arena_check (base h) (limit h) (align h))) _ e);
    })

-- a land whose list is sound
abbrev pub Fine : ListLand → List ℕ → Type 0
Fine h ws = edits.Fine (arena_in h) ws (chain_in h)

-- what soundness is made of: the walk and both counts, the mark and low water
pub sound-walk : (h : ListLand) (ws : List ℕ) → sound h ws ≡ true → sound_walk (walk_of h ws) h.ranges h.bytes.0 ≡ true
unfolding sound
sound-walk h ws s = and_left _ (sound_low h.water h.bytes.0) s

pub sound-low : (h : ListLand) (ws : List ℕ) → sound h ws ≡ true → sound_low h.water h.bytes.0 ≡ true
unfolding sound
sound-low h ws s = and_right (sound_walk (walk_of h ws) h.ranges h.bytes.0) _ s

pub fine : (h : ListLand) (ws : List ℕ) → set_up h ws ≡ true → sound h ws ≡ true → Fine h ws
fine h ws g s = edits.fine (arena_in h) ws (chain_in h) (placed h ws g).ready (sound-walk h ws s)
