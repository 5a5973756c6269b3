-- What is left of a list: contracts of inner functions. Assumes nothing.
use Rattle.std.specs.Prelude.{ℕ, List, ◌++◌, ◌≡◌}
use Rattle.units.specs.declared.Addr.{Addr}
use Rattle.units.specs.declared.aims.Aim.{Aim}
use Rattle.units.specs.declared.rules.Arena.{Arena}
use Rattle.model.specs.inner.Lists.{Apart}
use Rattle.model.specs.Marks.{Range}
use Rattle.list_words.specs.inner.Surveys.{walk_of, kept_of}
use Rattle.list_words.specs.declared.Spot.{Spot}
use Rattle.pair_words.specs.inner.Shares.{Listed}

-- A sound list from head on is the rest of a sorted list, of which s is the first range that reaches x.
pub record Left (a : Arena) (ws : List ℕ) (head x : Addr) (s : Spot) : Type 0 where
  pub listed : Listed a ws head.0
  pub gone : List Range
  pub apart : Apart a.base.0 a.limit.0 (gone ++ (walk_of a ws head.0).met)
  pub spot : s ≡ kept_of (Aim.Reach x) (gone ++ (walk_of a ws head.0).met)
