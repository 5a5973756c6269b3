-- An edit written into the words: contracts of inner functions. Assumes nothing.
use Rattle.std.specs.Prelude.{ℕ, ◌+◌, ◌-◌, ◌*◌, ◌%◌, ◌≤◌, ◌<◌, cond, List, ◌≡◌, eqb, ltb}
use Rattle.units.specs.declared.Addr.{Addr}
use Rattle.units.specs.declared.Range.{Range}
use Rattle.model.specs.inner.Lists.{plain}
use Rattle.list_edits.specs.declared.Edit.{Edit}
use Rattle.list_words.specs.Laying.{describe}

-- The words of [x, e) are among the m words from b on, and the next base n leaves room for a tag.
pub record Room (b m x e n : ℕ) : Type 0 where
  pub low : b ≤ x
  pub some : x + 8 ≤ e
  pub whole : (e - x) % 8 ≡ 0
  pub high : e ≤ b + 8 * m
  pub next : n < 18446744073709551615

abbrev pub RoomOf : ℕ → ℕ → Range → ℕ → Type 0
RoomOf b m r n = Room b m r.base.0 r.limit.0 n

abbrev pub PieceRoom : ℕ → ℕ → Range → ℕ → Type 0
PieceRoom b m r n = r.base.0 < r.limit.0 → RoomOf b m r n

-- A range, if it is not empty, before the one at n.
abbrev pub piece_head : Range → Addr → Addr
piece_head r n = cond (ltb r.base.0 r.limit.0) r.base n

abbrev pub piece_words : ℕ → List ℕ → Range → ℕ → List ℕ
piece_words b ws r n = cond (ltb r.base.0 r.limit.0) (describe b (plain r) n ws) ws

-- The first base behind the upper piece, and behind both.
abbrev pub upper_head : Edit → Addr
upper_head e = piece_head e.high e.next

abbrev pub first_head : Edit → Addr
first_head e = piece_head e.low (upper_head e)

pub record EditRoom (b m : ℕ) (e : Edit) : Type 0 where
  pub high : PieceRoom b m e.high e.next.0
  pub low : PieceRoom b m e.low (upper_head e).0
  pub prev : (e.prev.base.0 ≡ 0 → ⊥) → RoomOf b m e.prev (first_head e).0

-- The head of a list with an edit, and its words.
abbrev pub store_head : Addr → Edit → Addr
store_head head e = cond (eqb e.prev.base.0 0) (first_head e) head

abbrev pub pieces : ℕ → List ℕ → Edit → List ℕ
pieces b ws e = piece_words b (piece_words b ws e.high e.next.0) e.low (upper_head e).0

unfoldable pub store_words : ℕ → List ℕ → Edit → List ℕ
store_words b ws e = cond (eqb e.prev.base.0 0) (pieces b ws e) (describe b (plain e.prev) (first_head e).0 (pieces b ws e))
