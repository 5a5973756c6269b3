-- The bytes that ranges have in common: contracts of inner functions. Assumes nothing.
use Rattle.std.specs.Prelude.{ℕ, ◌-◌, ◌≤◌, true, cond, List, ◌≡◌, leb, length}
use Rattle.units.specs.declared.Range.{Range}
use Rattle.units.specs.declared.rules.Arena.{Arena}
use Rattle.model.specs.Marks.{total}
use Rattle.list_words.specs.Words.{is_clean}
use Rattle.list_words.specs.inner.Surveys.{Ready, walk_of}
use Rattle.block_words.specs.Words.{capacity, pairs}

-- The bytes of y that are in r.
abbrev pub share : Range → Range → ℕ
share y r = cond (leb y.limit.0 r.limit.0) y.limit.0 r.limit.0 - cond (leb y.base.0 r.base.0) r.base.0 y.base.0

-- A sound list.
pub record Listed (a : Arena) (ws : List ℕ) (head : ℕ) : Type 0 where
  pub ready : Ready a (length ws)
  pub clean : is_clean (walk_of a ws head).end ≡ true

-- A table of n sorted ranges that have no more bytes than an arena can.
pub record Tabled (vs : List ℕ) (n : ℕ) : Type 0 where
  pub fits : n ≤ capacity vs
  pub few : total (pairs vs n) ≤ 1099511627777
