-- The ways out of `store`. Assumes nothing.
use Prim.Native.Nat.{ℕ}
use mathlib.Core.Bool.{Bool, true, false}
use mathlib.Core.List.{List}
use mathlib.Core.Path.{◌≡◌, sym, ◌∙◌, ap, ap₂}
use lib.Dec.{eqb}
use Rattle.units.specs.declared.Addr.{Addr}
use Rattle.model.specs.inner.Lists.{plain}
use Rattle.list_words.specs.Laying.{describe}
use Rattle.list_edits.specs.inner.Edits.{piece_head, piece_words, upper_head, first_head, store_head, pieces, store_words}
use Rattle.list_edits.specs.declared.Edit.{Edit}

-- an edit: its upper piece, its lower piece, and the link to what is first
module _ (b : ℕ) (ws : List ℕ) (e : Edit) (n1 : Addr) (w1 : List ℕ) (p : (n1 ≡ upper_head e) × (w1 ≡ piece_words b ws e.high e.next.0)) where
  module _ (n2 : Addr) (w2 : List ℕ) (q : (n2 ≡ piece_head e.low n1) × (w2 ≡ piece_words b w1 e.low n1.0)) (r : Bool) (z : r ≡ eqb e.prev.base.0 0) where
    both-head : n2 ≡ first_head e
    both-head = q.0 ∙ ap (piece_head e.low) p.0

    both_words : w2 ≡ pieces b ws e
    both_words = q.1 ∙ ap₂ (λ (w : List ℕ) (n : Addr). piece_words b w e.low n.0) p.1 p.0

    pub store-first : r ≡ true → (head : Addr) → (n2 ≡ store_head head e) × (w2 ≡ store_words b ws e)
    unfolding store_words
    store-first f head = let k : eqb e.prev.base.0 0 ≡ true = sym z ∙ f in (simp k both-head, simp k both_words)

    module _ (f : r ≡ false) where
      pub store-linked : (w3 : List ℕ) → w3 ≡ describe b (plain e.prev) n2.0 w2 → (head : Addr) → (head ≡ store_head head e) × (w3 ≡ store_words b ws e)
      unfolding store_words
      store-linked w3 g head =
          let k : eqb e.prev.base.0 0 ≡ false = sym z ∙ f in
          (simp k, simp k (g ∙ ap₂ (λ (n : Addr) (w : List ℕ). describe b (plain e.prev) n.0 w) both-head both_words))
