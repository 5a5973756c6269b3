-- The ways out of an insert and of a delete of a land, by one law for both: 5, 6, 4, 1, 3, and the edit done. Assumes nothing.
use Prim.Native.Nat.{ℕ}
use mathlib.Core.Bool.{Bool, true, false, not, cond}
use mathlib.Core.List.{List}
use mathlib.Core.Path.{◌≡◌, refl}
use lib.ListN.{length}
use borrow.Author.Tests.{not-true, not-false}
use Rattle.std.specs.Prelude.{Result, Err}
use Rattle.units.specs.Rules.{refusal_number}
use Rattle.units.specs.inner.Aims.{none_range}
use Rattle.units.specs.declared.Range as units
use Rattle.units.specs.declared.aims.Aim.{Aim}
use Rattle.units.specs.declared.refusals.Refusal.{Refusal}
use Rattle.units.proofs.Tests.{by}
use Rattle.model.specs.Calls.{Arena, Call, insert, delete, refused, accepted, good_range_in}
use Rattle.model.specs.inner.Lists.{overlaps, holds, holder, insert_in, delete_from}
use Rattle.model.specs.Marks.{Range, rng, struct}
use Rattle.model.specs.inner.Steps.{list_ops, room_for, step}
use Rattle.model.proofs.lands.Land.{Land}
use Rattle.model.proofs.lands.Looking.{Kept, Changes, saw-err, refused-change, step-refused, step-done, done-change}
use Rattle.model.proofs.Requests.{range-refused}

-- A call that edits a list: it is refused by 4, by 1 where `bad` (some byte is free already, or is not free), by 3 where there is
-- no room for the new list; else the new list, and the range that then holds the request, or held it before.
pub record Edits (a : Arena) (rs : List Range) (c : Call) : Type 0 where
  pub good : Bool
  pub bad : Bool
  pub new : List Range
  pub holds-it : Range
  pub is-4 : good ≡ false → step list_ops a c rs ≡ record { out = refused 4; next = rs }
  pub is-1 : good ≡ true → bad ≡ true → step list_ops a c rs ≡ record { out = refused 1; next = rs }
  pub is-3 : good ≡ true → bad ≡ false → room_for a.room (length new) ≡ false → step list_ops a c rs ≡ record { out = refused 3; next = rs }
  pub is-0 : good ≡ true → bad ≡ false → room_for a.room (length new) ≡ true → step list_ops a c rs ≡ record { out = accepted holds-it (rng 0 0); next = new }

module _ (a : Arena) (rs : List Range) (b l : ℕ) where
  pub insert-is-4 : good_range_in a b l ≡ false → step list_ops a (insert b l) rs ≡ record { out = refused 4; next = rs }
  insert-is-4 g = rw (range-refused a b l g)

  pub delete-is-4 : good_range_in a b l ≡ false → step list_ops a (delete b l) rs ≡ record { out = refused 4; next = rs }
  delete-is-4 g = rw (range-refused a b l g)

  abbrev pub insert-edits : Edits a rs (insert b l)
  insert-edits = record {
    good = good_range_in a b l;
    bad = overlaps b l rs;
    new = insert_in b l rs;
    holds-it = holder b l (insert_in b l rs);
    is-4 = insert-is-4;
    is-1 = λ g o. rw (g, o);
    is-3 = λ g o f. rw (g, o, f);
    is-0 = λ g o f. rw (g, o, f);
  }

  abbrev pub delete-edits : Edits a rs (delete b l)
  delete-edits = record {
    good = good_range_in a b l;
    bad = not (holds b l rs);
    new = delete_from b l rs;
    holds-it = holder b l rs;
    is-4 = delete-is-4;
    is-1 = λ g o. rw (g, not-true (holds b l rs) o);
    is-3 = λ g o f. rw (g, not-false (holds b l rs) o, f);
    is-0 = λ g o f. rw (g, not-false (holds b l rs) o, f);
  }

module _ {H S C F : Type 0} (I : Land H S C F) (h : H) (ws : List ℕ) (aim : Aim) where
  -- before the request is looked at
  module _ (v : Result S Refusal) (e : v ≡ I.look h ws aim) (c : Call) where
    pub edit-err : (r : Refusal) → v ≡ Err r → (w : C) → w ≡ I.change h (refusal_number r) none_range → Changes I w ws (I.does c h ws)
    edit-err r f w k = refused-change I h ws c (refusal_number r) (saw-err I h ws aim v e c r f) w k ws refl

  module _ (s : S) (k : Kept I h ws aim s) (c : Call) (E : Edits (I.layout.arena h ws) (I.ranges h ws) c) where
    pub edit-4 : E.good ≡ false → (w : C) → w ≡ I.change h 4 none_range → Changes I w ws (I.does c h ws)
    edit-4 g w e = refused-change I h ws c 4 (step-refused I h ws aim s k c 4 refl (E.is-4 g)) w e ws refl

    module _ (g : E.good ≡ true) where
      pub edit-1 : E.bad ≡ true → (w : C) → w ≡ I.change h 1 none_range → (vs : List ℕ) → vs ≡ ws → Changes I w vs (I.does c h ws)
      edit-1 o = refused-change I h ws c 1 (step-refused I h ws aim s k c 1 refl (E.is-1 g o))

      module _ (o : E.bad ≡ false) where
        pub edit-3 : room_for (I.layout.arena h ws).room (length E.new) ≡ false →
            (w : C) → w ≡ I.change h 3 none_range → (vs : List ℕ) → vs ≡ ws → Changes I w vs (I.does c h ws)
        edit-3 f = refused-change I h ws c 3 (step-refused I h ws aim s k c 3 refl (E.is-3 g o f))

        pub edit-0 : room_for (I.layout.arena h ws).room (length E.new) ≡ true →
            (z : H) → z ≡ I.layout.close h E.new → (x : units.Range) → x ≡ struct E.holds-it →
            (vs : List ℕ) → vs ≡ I.layout.words h ws E.new → Changes I (I.change z 0 x) vs (I.does c h ws)
        edit-0 f = done-change I h ws aim s k c E.holds-it (rng 0 0) E.new (E.is-0 g o f)

      -- the number of the answer, by its tests
      pub edit-number : cond E.bad 1 (cond (room_for (I.layout.arena h ws).room (length E.new)) 0 3) ≡ (I.does c h ws).out.answer
      edit-number =
          by E.bad
          (λ o. rw (step-refused I h ws aim s k c 1 refl (E.is-1 g o), o))
          (λ o. by (room_for (I.layout.arena h ws).room (length E.new))
          (λ f. rw (step-done I h ws aim s k c E.holds-it (rng 0 0) E.new (E.is-0 g o f), o, f))
          (λ f. rw (step-refused I h ws aim s k c 3 refl (E.is-3 g o f), o, f)))
