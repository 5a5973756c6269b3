-- What stands behind a range of a sound list: its descriptor is read. Assumes nothing.
use Prim.Native.Nat.{ℕ, suc, ◌≤◌}
use mathlib.Core.List.{List, [], ◌∷◌, ◌++◌}
use mathlib.Core.Option.{Option, none, some}
use mathlib.Core.Path.{◌≡◌, refl, ap, ◌∙◌}
use native.Mathlib.Omega.{arith}
use lib.Dec.{eqb}
use borrow.Author.Tests.{ne_eqb}
use Rattle.units.specs.Words.{addr, range_of}
use Rattle.units.specs.declared.rules.Arena.{Arena}
use Rattle.units.proofs.Tests.{clash}
use Rattle.model.specs.Marks.{Range, struct}
use Rattle.model.specs.inner.Lists.{Apart, Aligned}
use Rattle.model.proofs.Places.{apart-rest, aligned-rest}
use Rattle.list_words.specs.inner.Descriptors.{Standing}
use Rattle.list_words.specs.Laying.{head_of}
use Rattle.list_words.specs.inner.Surveys.{spot}
use Rattle.list_words.specs.declared.Chain.{Chain}
use Rattle.list_words.specs.declared.Descriptor.{Descriptor}
use Rattle.list_words.specs.declared.Spot.{Spot}
use Rattle.list_words.proofs.Describing.{laid-read, laid-stands}
use Rattle.list_words.proofs.Keeping.{At, SpotOf}
use Rattle.list_words.proofs.Laid.{Laid, laid-rest}
use Rattle.list_edits.specs.inner.Chains.{met_of}
use Rattle.list_edits.specs.inner.Places.{Following, following_of}
use Rattle.list_edits.proofs.Joining.{Above}
use Rattle.list_edits.proofs.Sound.{Fine}

module _ (a : Arena) (ws : List ℕ) (c : Chain) (f : Fine a ws c) (s : Spot) where
  module _ (q : Range) (p : At (met_of a ws c) q s) where
    pub here : Apart a.base.0 a.limit.0 (p.front ++ q ∷ p.rest)
    here = rw p.split at f.apart

    pub laid-here : Laid a.base.0 (q ∷ p.rest) ws
    laid-here = laid-rest a.base.0 ws p.front (q ∷ p.rest) (rw p.split at f.laid)

    -- the range r stands behind q
    module _ (r : Range) (rs : List Range) (e : p.rest ≡ r ∷ rs) where
      at_next : s.next ≡ addr r.base
      at_next = p.next ∙ ap (λ (xs : List Range). addr (head_of xs)) e

      apart : Apart (suc q.limit) a.limit.0 (r ∷ rs)
      apart = rw e at (apart-rest a.base.0 a.limit.0 p.front q p.rest here).3

      aligned : Aligned a.align.0 (r ∷ rs)
      aligned = rw e at (aligned-rest a.align.0 p.front q p.rest (rw p.split at f.straight)).2

      laid : Laid a.base.0 (r ∷ rs) ws
      laid = rw e at laid-here.1

      below : a.base.0 ≤ suc q.limit
      below = let h = apart-rest a.base.0 a.limit.0 p.front q p.rest here in omega arith

      next-stands : Standing a ws s.next.0
      next-stands = rw at_next (laid-stands a ws f.place.ready (suc q.limit) below r rs apart aligned laid)

      next-is : following_of a ws s ≡ spot s.here (struct r) (addr (head_of rs))
      unfolding following_of
      next-is =
          let h = apart in
          rw (at_next, ne_eqb r.base 0 (λ z. omega arith))
          (ap (λ (d : Descriptor). spot s.here (range_of r.base d.limit.0) d.next)
          (laid-read a ws f.place.ready (suc q.limit) below r rs apart aligned laid))

      next-follows : Above (r ∷ rs) (following_of a ws s)
      next-follows = let h = apart in rw next-is (refl, refl, omega arith)

    pub follows : (rest : List Range) → p.rest ≡ rest → Above rest (following_of a ws s)
    unfolding following_of
    follows [] e = rw (p.next, e) (refl, refl)
    follows (r ∷ rs) e = next-follows r rs e

    behind : (rest : List Range) → p.rest ≡ rest → Following a ws s
    behind [] e = record { standing = λ z. clash {t = eqb s.next.0 0} (rw (p.next, e)) z }
    behind (r ∷ rs) e = record { standing = λ z. next-stands r rs e }

  pub follows-placed : (o : Option Range) → SpotOf (met_of a ws c) o s → Following a ws s
  follows-placed none p = record { standing = λ z. clash {t = eqb s.next.0 0} (rw p.next) z }
  follows-placed (some q) p = behind q p p.rest refl
