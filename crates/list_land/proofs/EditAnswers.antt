-- What an edit of a sound list says of an insert and of a delete: 1, and the range put in or taken out. Assumes nothing.
use Prim.Native.Nat.{ℕ}
use mathlib.Core.Bool.{true}
use mathlib.Core.List.{List}
use mathlib.Core.Path.{◌≡◌, refl, sym, ◌∙◌}
use Rattle.units.specs.declared.Range.{Range}
use Rattle.units.specs.declared.aims.Aim.{Aim}
use Rattle.units.specs.declared.rules.Arena.{Arena}
use Rattle.model.specs.Calls.{Call, insert, delete, good_range_in}
use Rattle.model.proofs.lands.EditAnswers as answers
use Rattle.model.proofs.lands.EditAnswers.{Edits, insert-edits, delete-edits}
use Rattle.list_words.specs.declared.Spot.{Spot}
use Rattle.list_words.specs.declared.Chain.{Chain}
use Rattle.list_edits.specs.inner.Chains.{met_of, Held, may_ask, edited_number, edited, edited_words, put_of, put_words, cut_of, cut_out_words}
use Rattle.units.specs.declared.refusals.Refusal.{Refusal}
use Rattle.units.specs.Rules.{refusal_number}
use Rattle.std.specs.Prelude.{Result, Ok, Err}
use Rattle.list_edits.specs.declared.ChainJoined.{ChainJoined}
use Rattle.list_edits.proofs.Answered.{edited-number, edited-refused, edited-done}
use Rattle.list_land.specs.Calls.{does, inserted, deleted, changed}
use Rattle.list_land.specs.Layout.{base, arena_of, walk_of, closed_with}
use Rattle.list_land.specs.inner.Parts.{arena_in, chain_in, Looked, reach_base, reach_limit, refused_by}
use Rattle.list_land.specs.declared.Changed.{Changed}
use Rattle.list_land.specs.declared.ListLand.{ListLand}
use Rattle.list_land.proofs.Land.{list_land}
use Rattle.list_land.proofs.Requests.{looked-held, closes}

-- EITHER EDIT
module _ (h : ListLand) (ws : List ℕ) (aim : Aim) (s : Spot) (k : Looked h ws aim s) (c : Call) (E : Edits (arena_of h) (walk_of h ws).met c) (g : E.good ≡ true) where
  module _ (p : Result ChainJoined Refusal) (vs : List ℕ) (e : (p ≡ edited E.bad E.new E.holds-it) × (vs ≡ edited_words E.bad E.new (base h) ws)) where
    edit-1 : (x : Refusal) → p ≡ Err x → (w : Changed) → w ≡ refused_by h (refusal_number x) → (w ≡ changed (does c h ws)) × (vs ≡ (does c h ws).words)
    edit-1 x f w d =
        let o = edited-refused E.new E.holds-it E.bad x (sym e.0 ∙ f) in
        answers.edit-1 list_land h ws aim s k c E g o.0 w (rw o.1 at d) vs (e.1 ∙ rw o.0)

    edit-0 : (d : ChainJoined) → p ≡ Ok d → (z : ListLand) → z ≡ closed_with h d.chain.head d.chain.ranges d.chain.bytes →
        (record { land = z; answer = 0; range = d.range } ≡ changed (does c h ws)) × (vs ≡ (does c h ws).words)
    edit-0 d f z ez =
        let o = edited-done E.new E.holds-it E.bad d (sym e.0 ∙ f) in
        answers.edit-0 list_land h ws aim s k c E g o.good refl z (closes h E.new d.chain o.chain z ez) d.range o.range vs (e.1 ∙ rw o.good)

  -- the number of an edit is the answer
  number_is : edited_number (edited E.bad E.new E.holds-it) ≡ (changed (does c h ws)).answer
  number_is = edited-number E.new E.holds-it E.bad ∙ answers.edit-number list_land h ws aim s k c E g

-- INSERT
module _ (h : ListLand) (ws : List ℕ) (y : Range) (s : Spot) (k : Looked h ws (reach_base y) s) (g : good_range_in (arena_of h) y.base.0 y.limit.0 ≡ true) where
  abbrev inserts : Edits (arena_of h) (walk_of h ws).met (insert y.base.0 y.limit.0)
  inserts = insert-edits (arena_of h) (walk_of h ws).met y.base.0 y.limit.0

  module _ (a : Arena) (ea : a ≡ arena_in h) (c : Chain) (ec : c ≡ chain_in h) where
    -- the spot is one for the request
    pub insert-asks : Held a ws c (reach_base y) s × (may_ask a y ≡ true)
    insert-asks = (looked-held h ws (reach_base y) s k a ea c ec, rw ea g)

    module _ (p : Result ChainJoined Refusal) (vs : List ℕ) (e : (p ≡ put_of (met_of a ws c) y) × (vs ≡ put_words (met_of a ws c) y a.base.0 ws)) where
      put_is : (p ≡ edited inserts.bad inserts.new inserts.holds-it) × (vs ≡ edited_words inserts.bad inserts.new (base h) ws)
      unfolding put_of put_words
      put_is = rw (ea, ec) at e

      pub insert-1 : (x : Refusal) → p ≡ Err x → (w : Changed) → w ≡ refused_by h (refusal_number x) → (w ≡ changed (inserted h ws y)) × (vs ≡ (inserted h ws y).words)
      insert-1 = edit-1 h ws (reach_base y) s k _ inserts g p vs put_is

      pub insert-0 : (d : ChainJoined) → p ≡ Ok d → (z : ListLand) → z ≡ closed_with h d.chain.head d.chain.ranges d.chain.bytes →
          (record { land = z; answer = 0; range = d.range } ≡ changed (inserted h ws y)) × (vs ≡ (inserted h ws y).words)
      insert-0 = edit-0 h ws (reach_base y) s k _ inserts g p vs put_is

  pub insert-number : edited_number (put_of (walk_of h ws).met y) ≡ (changed (inserted h ws y)).answer
  unfolding put_of
  insert-number = number_is h ws (reach_base y) s k _ inserts g

-- DELETE
module _ (h : ListLand) (ws : List ℕ) (y : Range) (s : Spot) (k : Looked h ws (reach_limit y) s) (g : good_range_in (arena_of h) y.base.0 y.limit.0 ≡ true) where
  abbrev deletes : Edits (arena_of h) (walk_of h ws).met (delete y.base.0 y.limit.0)
  deletes = delete-edits (arena_of h) (walk_of h ws).met y.base.0 y.limit.0

  module _ (a : Arena) (ea : a ≡ arena_in h) (c : Chain) (ec : c ≡ chain_in h) where
    -- the spot is one for the request
    pub delete-asks : Held a ws c (reach_limit y) s × (may_ask a y ≡ true)
    delete-asks = (looked-held h ws (reach_limit y) s k a ea c ec, rw ea g)

    module _ (p : Result ChainJoined Refusal) (vs : List ℕ) (e : (p ≡ cut_of (met_of a ws c) y) × (vs ≡ cut_out_words (met_of a ws c) y a.base.0 ws)) where
      cut-is : (p ≡ edited deletes.bad deletes.new deletes.holds-it) × (vs ≡ edited_words deletes.bad deletes.new (base h) ws)
      unfolding cut_of cut_out_words
      cut-is = rw (ea, ec) at e

      pub delete-1 : (x : Refusal) → p ≡ Err x → (w : Changed) → w ≡ refused_by h (refusal_number x) → (w ≡ changed (deleted h ws y)) × (vs ≡ (deleted h ws y).words)
      delete-1 = edit-1 h ws (reach_limit y) s k _ deletes g p vs cut-is

      pub delete-0 : (d : ChainJoined) → p ≡ Ok d → (z : ListLand) → z ≡ closed_with h d.chain.head d.chain.ranges d.chain.bytes →
          (record { land = z; answer = 0; range = d.range } ≡ changed (deleted h ws y)) × (vs ≡ (deleted h ws y).words)
      delete-0 = edit-0 h ws (reach_limit y) s k _ deletes g p vs cut-is

  pub delete-number : edited_number (cut_of (walk_of h ws).met y) ≡ (changed (deleted h ws y)).answer
  unfolding cut_of
  delete-number = number_is h ws (reach_limit y) s k _ deletes g
