-- A list walked beside a table: contracts of inner functions. Assumes nothing.
use Rattle.std.specs.Prelude.{ℕ, ◌+◌, ◌≤◌, Bool, true, not, cond, ◌&&◌, List, [], ◌∷◌, ◌≡◌, leb, Option, Some, None, Result, Ok, Err}
use Rattle.units.specs.declared.refusals.Refusal.{Refusal}
use Rattle.units.specs.declared.Range as units
use Rattle.units.specs.declared.aims.Aim.{Aim}
use Rattle.units.specs.declared.rules.Arena.{Arena}
use Rattle.model.specs.Marks.{Range}
use Rattle.model.specs.inner.Lists.{Apart}
use Rattle.list_words.specs.Words.{clean, sound_walk}
use Rattle.list_words.specs.inner.Seeks.{Come}
use Rattle.list_words.specs.inner.Surveys.{walk_in, walk_of, kept_of}
use Rattle.list_words.specs.declared.Chain.{Chain}
use Rattle.list_words.specs.declared.Spot.{Spot}
use Rattle.list_words.specs.declared.cursor.Cursor.{Cursor}
use Rattle.block_words.specs.Words.{capacity, pairs}
use Rattle.block_words.specs.inner.Tallies.{behind}
use Rattle.pair_model.specs.PairLayouts.{meet}

-- Where a range stands beside the pairs from number i on.
abbrev pub beside_of : units.Range → ℕ → List Range → Option ℕ
beside_of r i [] = Some i
beside_of r i (q ∷ qs) =
    cond (leb q.limit r.base.0) (beside_of r (i + 1) qs)
    (cond (leb r.limit.0 q.base) (Some i) None)

-- Document 02's number of each case: lands that overlap are damaged, 6.
abbrev pub beside_number : Option ℕ → ℕ
beside_number None = 6
beside_number (Some i) = 0

-- A cursor of the walk from head, and the pairs from number i on: if the walk ends well, what is to come of both overlaps exactly if
-- all does.
pub record Abreast (a : Arena) (ws : List ℕ) (head : ℕ) (vs : List ℕ) (n : ℕ) (c : Cursor) (i : ℕ) : Type 0 where
  pub fits : n ≤ capacity vs
  pub upto : i ≤ n
  pub lo : ℕ
  pub hi : ℕ
  pub apart : Apart lo hi (behind vs n i)
  pub same : (walk_of a ws head).end ≡ clean → meet (walk_in a ws c.low.0 c.at.0).met (behind vs n i) ≡ meet (walk_of a ws head).met (pairs vs n)

-- What a walk sought beside a table: a fault, or lands that overlap; or the spot that f says of the whole list, and what stands behind it.
abbrev pub SeeksBeside : Arena → List ℕ → ℕ → List ℕ → ℕ → (List Range → Spot) → Result (Spot × Cursor × ℕ) Refusal → Type 0
SeeksBeside a ws head vs n f (Err r) = (r ≡ Refusal.Damaged) × ((walk_of a ws head).end ≡ clean → meet (walk_of a ws head).met (pairs vs n) ≡ true)
SeeksBeside a ws head vs n f (Ok (s, c, i)) = Come a ws head f s c × Abreast a ws head vs n c i

-- The list is sound, and no byte of it is in the table.
abbrev pub sound_beside : Arena → List ℕ → Chain → List ℕ → ℕ → Bool
sound_beside a ws h vs n =
    sound_walk (walk_of a ws h.head.0) h.ranges h.bytes.0 && not (meet (walk_of a ws h.head.0).met (pairs vs n))

-- What the walk over a list beside a table of n ranges finds: damage, or what the aim keeps of the list.
unfoldable pub survey_beside : Arena → List ℕ → Chain → List ℕ → ℕ → Aim → Result Spot Refusal
survey_beside a ws h vs n aim =
    cond (sound_beside a ws h vs n) (Ok (kept_of aim (walk_of a ws h.head.0).met)) (Err Refusal.Damaged)
