-- What an answer of `put_at` or of `cut_out` says of the list and of its words. Assumes nothing.
use mathlib.Core.Bool.{Bool, true, false, cond}
use mathlib.Core.List.{List}
use mathlib.Core.Path.{◌≡◌, refl, sym, ap}
use native.Mathlib.Omega.{arith}
use Rattle.units.specs.declared.Range as units
use Rattle.model.specs.Marks.{Range, struct}
use Rattle.list_words.specs.declared.Chain.{Chain}
use Rattle.list_edits.specs.inner.Chains.{chain_of, chain_joined, edited_number, edited}
use Rattle.units.specs.declared.refusals.Refusal.{Refusal}
use Rattle.std.specs.Prelude.{Ok, Err}
use Rattle.list_edits.specs.declared.ChainJoined.{ChainJoined}

-- an edit that was done
pub record Did (bad : Bool) (d e : Chain) (r x : units.Range) : Type 0 where
  pub good : bad ≡ false
  pub chain : e ≡ d
  pub range : x ≡ r

module _ (new : List Range) (r : Range) where
  -- what is refused is 1
  pub edited-number : (bad : Bool) → edited_number (edited bad new r) ≡ cond bad 1 0
  edited-number true = omega arith
  edited-number false = omega arith

  pub edited-refused : (bad : Bool) (x : Refusal) → edited bad new r ≡ Err x → (bad ≡ true) × (x ≡ Refusal.Overlap)
  edited-refused true x e = (refl, cc)
  edited-refused false x e = absurd cc

  pub edited-done : (bad : Bool) (d : ChainJoined) → edited bad new r ≡ Ok d → Did bad (chain_of new) d.chain (struct r) d.range
  edited-done true d e = absurd cc
  edited-done false d e =
      let k : chain_joined new r ≡ d = cc in
      record { good = refl; chain = sym (ap (λ (x : ChainJoined). x.chain) k); range = sym (ap (λ (x : ChainJoined). x.range) k) }
