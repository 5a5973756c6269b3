-- What an edit of a sound table says of an insert and of a delete: 1, 3, and the range put in or taken out. Assumes nothing.
use Prim.Native.Nat.{ℕ, ◌+◌, ◌-◌, ◌^◌, ◌≤◌, ◌<◌}
use mathlib.Core.Bool.{true}
use mathlib.Core.List.{List}
use mathlib.Core.Logic.{⊎_elim}
use mathlib.Core.Path.{◌≡◌, sym, ap, ◌∙◌}
use native.Mathlib.Omega.{arith}
use lib.Dec.{leb}
use lib.ListN.{length}
use borrow.Author.Tests.{not-false}
use Rattle.std.specs.Prelude.{Result, Ok, Err}
use Rattle.units.specs.Rules.{refusal_number}
use Rattle.units.specs.declared.Range.{Range}
use Rattle.units.specs.declared.Size.{Size}
use Rattle.units.specs.declared.aims.Aim.{Aim}
use Rattle.units.specs.declared.refusals.Refusal.{Refusal}
use Rattle.model.specs.Calls.{Call, insert, delete, good_range_in}
use Rattle.model.specs.Marks.{total}
use Rattle.model.specs.inner.Lists.{delete_from}
use Rattle.model.proofs.lands.EditAnswers as answers
use Rattle.model.proofs.lands.EditAnswers.{Edits, insert-edits, delete-edits}
use Rattle.model.proofs.Requests.{range-rules}
use Rattle.model.proofs.Totals.{total-insert, total-delete}
use Rattle.block_words.specs.Words.{capacity}
use Rattle.block_words.specs.declared.Entry.{Entry}
use Rattle.block_edits.specs.inner.Edits.{edited_number, edited, edited_words, put_of, put_words, cut_of, cut_words}
use Rattle.block_edits.specs.declared.TableEdited.{TableEdited}
use Rattle.block_edits.proofs.Answered.{edited-number, edited-bad, edited-full, edited-refused, edited-done}
use Rattle.block_land.specs.Calls.{does, inserted, deleted, changed}
use Rattle.block_land.specs.Layout.{base, limit, arena_of, table_of, closed_with}
use Rattle.block_land.specs.inner.Parts.{Looked, reach_base, reach_limit, refused_by}
use Rattle.block_land.specs.declared.BlockLand.{BlockLand}
use Rattle.block_land.specs.declared.Changed.{Changed}
use Rattle.block_land.proofs.Land.{block_land}
use Rattle.block_land.proofs.LayoutLaws.{closed-as}
use Rattle.block_land.proofs.Requests.{readable, whole, few_bytes, edit-order}

-- EITHER EDIT
module _ (h : BlockLand) (ws : List ℕ) (aim : Aim) (d : Entry) (k : Looked h ws aim d) (c : Call) (E : Edits (arena_of h ws) (table_of h ws) c) (g : E.good ≡ true) where
  abbrev Edit : Result TableEdited Refusal
  Edit = edited E.bad (leb (length E.new) (capacity ws)) E.holds-it (length E.new)

  module _ (p : Result TableEdited Refusal) (vs : List ℕ) (e : (p ≡ Edit) × (vs ≡ edited_words Edit E.new ws)) where
    abbrev Gives : Changed → Type 0
    Gives w = (w ≡ changed (does c h ws)) × (vs ≡ (does c h ws).words)

    same-words : (x : Result TableEdited Refusal) → p ≡ x → vs ≡ edited_words x E.new ws
    same-words x f = e.1 ∙ ap (λ (r : Result TableEdited Refusal). edited_words r E.new ws) (sym e.0 ∙ f)

    -- 1 or 3
    edit-refused : (x : Refusal) → p ≡ Err x → (w : Changed) → w ≡ refused_by h (refusal_number x) → Gives w
    edit-refused x f w n =
        let q = sym e.0 ∙ f in
        ⊎_elim
        (λ o. let b = edited-bad E.holds-it (length E.new) E.bad (leb (length E.new) (capacity ws)) (rw o at q) in
        answers.edit-1 block_land h ws aim d k c E g b w (rw o at n) vs (same-words (Err x) f))
        (λ o. let b = edited-full E.holds-it (length E.new) E.bad (leb (length E.new) (capacity ws)) (rw o at q) in
        answers.edit-3 block_land h ws aim d k c E g b.0 b.1 w (rw o at n) vs (same-words (Err x) f))
        (edited-refused E.holds-it (length E.new) E.bad (leb (length E.new) (capacity ws)) x q)

    edit-0 : (x : TableEdited) → p ≡ Ok x → (t : Size) → t.0 ≡ total E.new → (z : BlockLand) → z ≡ closed_with h x.count t →
        Gives (record { land = z; answer = 0; range = x.range })
    edit-0 x f t et z ez =
        let o = edited-done E.holds-it (length E.new) E.bad (leb (length E.new) (capacity ws)) x (sym e.0 ∙ f) in
        answers.edit-0 block_land h ws aim d k c E g o.good o.fits z (ez ∙ closed-as h E.new x.count t o.count et) x.range o.range vs (same-words (Ok x) f)

  -- the number of an edit is the answer
  number_is : edited_number Edit ≡ (changed (does c h ws)).answer
  number_is =
      edited-number E.holds-it (length E.new) E.bad (leb (length E.new) (capacity ws))
      ∙ answers.edit-number block_land h ws aim d k c E g

-- INSERT
module _ (h : BlockLand) (ws : List ℕ) (y : Range) (d : Entry) (k : Looked h ws (reach_base y) d) (g : good_range_in (arena_of h ws) y.base.0 y.limit.0 ≡ true) where
  abbrev inserts : Edits (arena_of h ws) (table_of h ws) (insert y.base.0 y.limit.0)
  inserts = insert-edits (arena_of h ws) (table_of h ws) y.base.0 y.limit.0

  pub insert-room : (s : Size) → s.0 ≡ y.limit.0 - y.base.0 → h.bytes.0 + s.0 < 2 ^ 64
  insert-room s es =
      let r = range-rules (arena_of h ws) y.base.0 y.limit.0 g in
      let read = readable h ws (reach_base y) d k in
      let t = few_bytes h ws read in
      let a = (whole h ws read).place.arena in
      omega (arith, r.upto, a.top)

  module _ (p : Result TableEdited Refusal) (vs : List ℕ) (e : (p ≡ put_of ws h.ranges y) × (vs ≡ put_words ws h.ranges y)) where
    abbrev Inserts : Changed → Type 0
    Inserts w = (w ≡ changed (inserted h ws y)) × (vs ≡ (inserted h ws y).words)

    put_is : (p ≡ Edit h ws (reach_base y) d k _ inserts g) × (vs ≡ edited_words (Edit h ws (reach_base y) d k _ inserts g) inserts.new ws)
    unfolding put_of put_words
    put_is = e

    pub insert-refused : (x : Refusal) → p ≡ Err x → (w : Changed) → w ≡ refused_by h (refusal_number x) → Inserts w
    insert-refused = edit-refused h ws (reach_base y) d k _ inserts g p vs put_is

    pub insert-0 : (x : TableEdited) → p ≡ Ok x → (s : Size) → s.0 ≡ y.limit.0 - y.base.0 → (t : Size) → t.0 ≡ h.bytes.0 + s.0 →
        (z : BlockLand) → z ≡ closed_with h x.count t → Inserts (record { land = z; answer = 0; range = x.range })
    insert-0 x f s es t et =
        let w = whole h ws (readable h ws (reach_base y) d k) in
        let u = total-insert y.base.0 y.limit.0 (base h) (limit h) (table_of h ws) (edit-order h ws y g) w.apart in
        let n = w.bytes in
        edit-0 h ws (reach_base y) d k _ inserts g p vs put_is x f t (omega arith)

  pub put-number : edited_number (put_of ws h.ranges y) ≡ (changed (inserted h ws y)).answer
  unfolding put_of
  put-number = number_is h ws (reach_base y) d k _ inserts g

-- DELETE
module _ (h : BlockLand) (ws : List ℕ) (y : Range) (d : Entry) (k : Looked h ws (reach_limit y) d) (g : good_range_in (arena_of h ws) y.base.0 y.limit.0 ≡ true) where
  abbrev deletes : Edits (arena_of h ws) (table_of h ws) (delete y.base.0 y.limit.0)
  deletes = delete-edits (arena_of h ws) (table_of h ws) y.base.0 y.limit.0

  module _ (p : Result TableEdited Refusal) (vs : List ℕ) (e : (p ≡ cut_of ws h.ranges y) × (vs ≡ cut_words ws h.ranges y)) where
    abbrev Deletes : Changed → Type 0
    Deletes w = (w ≡ changed (deleted h ws y)) × (vs ≡ (deleted h ws y).words)

    cut-is : (p ≡ Edit h ws (reach_limit y) d k _ deletes g) × (vs ≡ edited_words (Edit h ws (reach_limit y) d k _ deletes g) deletes.new ws)
    unfolding cut_of cut_words
    cut-is = e

    pub delete-refused : (x : Refusal) → p ≡ Err x → (w : Changed) → w ≡ refused_by h (refusal_number x) → Deletes w
    delete-refused = edit-refused h ws (reach_limit y) d k _ deletes g p vs cut-is

    module _ (x : TableEdited) (f : p ≡ Ok x) where
      left_over : total (delete_from y.base.0 y.limit.0 (table_of h ws)) + (y.limit.0 - y.base.0) ≡ h.bytes.0
      left_over =
          let w = whole h ws (readable h ws (reach_limit y) d k) in
          let o = edited-done deletes.holds-it (length deletes.new) deletes.bad (leb (length deletes.new) (capacity ws)) x (sym cut-is.0 ∙ f) in
          total-delete y.base.0 y.limit.0 (base h) (limit h) (table_of h ws) (edit-order h ws y g) w.apart (not-false _ o.good) ∙ sym w.bytes

      pub delete-room : (s : Size) → s.0 ≡ y.limit.0 - y.base.0 → s.0 ≤ h.bytes.0
      delete-room s es = let u = left_over in omega arith

      pub delete-0 : (s : Size) → s.0 ≡ y.limit.0 - y.base.0 → (t : Size) → t.0 ≡ h.bytes.0 - s.0 → (z : BlockLand) → z ≡ closed_with h x.count t →
          Deletes (record { land = z; answer = 0; range = x.range })
      delete-0 s es t et = let u = left_over in edit-0 h ws (reach_limit y) d k _ deletes g p vs cut-is x f t (omega arith)

  pub cut-number : edited_number (cut_of ws h.ranges y) ≡ (changed (deleted h ws y)).answer
  unfolding cut_of
  cut-number = number_is h ws (reach_limit y) d k _ deletes g
