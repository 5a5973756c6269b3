-- What a writer took of some bytes, part by part. Assumes nothing.
use Rattle.std.proofs.Common.{◌≡◌, ℕ, ◌-◌, List, ◌++◌, length, take, drop, Option, ap, ◌∙◌, append_assoc}
use Rattle.std.proofs.lemmas.List.{take_rest, take-append-drop}
use Rattle.std.specs.Io.KnownBytes.{Appends}
use Rattle.std.proofs.KnownBytes.{Appends-trans}

-- The bytes in front of those that are left are written.
pub record Written (old now : Option (List ℕ)) (bytes left : List ℕ) : Type 0 where
  pub done : List ℕ
  pub took : Appends old now done
  pub joined : done ++ left ≡ bytes

module _ (old now : Option (List ℕ)) (bytes left : List ℕ) (w : Written old now bytes left) where
  pub more-written : (new : Option (List ℕ)) (n : ℕ) → Appends now new (take n left) → Written old new bytes (take (length left - n) (drop n left))
  more-written new n took =
      let rest : take n left ++ take (length left - n) (drop n left) ≡ left = ap (λ l. take n left ++ l) (take_rest left n) ∙ take-append-drop n left in
      record {
        done = w.done ++ take n left;
        took = Appends-trans old now new w.done (take n left) w.took took;
        joined = append_assoc w.done (take n left) _ ∙ (ap (λ l. w.done ++ l) rest ∙ w.joined);
      }
