-- What a step prints, and the steps one behind the other. Assumes nothing.
use Rattle.std.proofs.Common.{ℕ, ◌-◌, ◌≤◌, ◌≡◌, List, [], ◌++◌, length, take, drop, None, Some, IfSome, OnOk, Option, Result, Ok, Err, refl, sym, ap, ◌∙◌, subst, append_assoc}
use Rattle.std.proofs.Math.Seq.{take-append_seam}
use Rattle.std.proofs.lemmas.List.{take_rest}
use Rattle.std.specs.Io.KnownBytes.{Appends, Keeps}
use Rattle.std.proofs.KnownBytes.{Appends-nil, Appends-trans, Appends-kept}
use Rattle.script.specs.Calls.{fed_of, over, fed, told, ended, script_start}
use Rattle.script.specs.Printed.{whole}
use Rattle.script.specs.inner.Feeding.{rest_of}
use Rattle.script.specs.declared.Fed.{Fed}
use Rattle.script.specs.declared.Script.{Script}
use Rattle.script.proofs.StillPrints.{feeds, describes}
use Rattle.play.proofs.Whole.{start-whole, ends-rest}
use Rattle.play.specs.inner.Steps.{Still, Prints, PrintsOf, ReadPrints}

-- what was put out stands at the start of the buffer
pub put-text : (n : ℕ) (text out out' : List ℕ) → n ≡ length text → out' ≡ over text out → take n out' ≡ text
put-text n text out out' e f = ap (λ (m : ℕ). take m out') e ∙ ap (take (length text)) f ∙ take-append_seam text (drop (length text) out)

pub prints-none : (a : Option (List ℕ)) (s : Script) (ws xs : List ℕ) → Prints a a s ws xs s ws xs
prints-none a s ws xs = record { text = []; took = Appends-nil a; same = λ more. refl }

module _ (a b : Option (List ℕ)) where
  -- bytes that come behind
  pub prints-before : (s s' : Script) (ws ws' xs : List ℕ) → Prints a b s ws [] s' ws' [] → Prints a b s ws xs s' ws' xs
  prints-before s s' ws ws' xs p = record { text = p.text; took = p.took; same = λ more. p.same (xs ++ more) }

  pub prints-then : (c : Option (List ℕ)) (s s' s'' : Script) (ws ws' ws'' xs ys zs : List ℕ) →
      Prints a b s ws xs s' ws' ys → Prints b c s' ws' ys s'' ws'' zs → Prints a c s ws xs s'' ws'' zs
  prints-then c s s' s'' ws ws' ws'' xs ys zs p q =
      record {
        text = p.text ++ q.text;
        took = Appends-trans a b c p.text q.text p.took q.took;
        same = λ more. p.same more ∙ ap (λ (l : List ℕ). p.text ++ l) (q.same more) ∙ sym (append_assoc p.text q.text (rest_of s'' ws'' (zs ++ more)));
      }

  -- one call of `describe`, and what it put out
  pub told-prints : (s : Script) (ws out out' : List ℕ) (f : Fed) → f ≡ fed_of (told s ws (length out)) → out' ≡ over (told s ws (length out)).text out →
      Appends a b (take f.at out') → Prints a b s ws [] f.script ws []
  told-prints s ws out out' f e g took =
      let d = told s ws (length out) in
      let text : take f.at out' ≡ d.text = put-text f.at d.text out out' (ap (λ (h : Fed). h.at) e) g in
      record {
        text = d.text;
        took = subst (Appends a b) text took;
        same = λ more. (describes s ws (length out)).text more ∙ ap (λ (h : Fed). d.text ++ rest_of h.script ws more) (sym e);
      }

  -- one call of `feed`
  pub fed-prints : (s : Script) (ws bytes out out' ws' : List ℕ) (f : Fed) → f ≡ fed_of (fed s ws (length out) bytes) →
      ws' ≡ (fed s ws (length out) bytes).words → out' ≡ over (fed s ws (length out) bytes).text out →
      Appends a b (take f.at out') → Prints a b s ws bytes f.script ws' (take (length bytes - f.used) (drop f.used bytes))
  fed-prints s ws bytes out out' ws' f e w g took =
      let d = fed s ws (length out) bytes in
      let text : take f.at out' ≡ d.text = put-text f.at d.text out out' (ap (λ (h : Fed). h.at) e) g in
      let left : drop d.used bytes ≡ take (length bytes - f.used) (drop f.used bytes) = ap (λ (h : Fed). drop h.used bytes) (sym e) ∙ sym (take_rest bytes f.used) in
      let next : (more : List ℕ) → rest_of d.script d.words (drop d.used bytes ++ more) ≡ rest_of f.script ws' (take (length bytes - f.used) (drop f.used bytes) ++ more) =
      λ more. ap (λ (l : List ℕ). rest_of d.script d.words (l ++ more)) left ∙ ap (λ (h : Fed). rest_of h.script d.words (take (length bytes - f.used) (drop f.used bytes) ++ more)) (sym e)
      ∙ ap (λ (l : List ℕ). rest_of f.script l (take (length bytes - f.used) (drop f.used bytes) ++ more)) (sym w) in
      record {
        text = d.text;
        took = subst (Appends a b) text took;
        same = λ more. (feeds bytes s ws (length out)).text more ∙ ap (λ (l : List ℕ). d.text ++ l) (next more);
      }

-- an error keeps its promise
at_ok : {A E P Q : Type 0} → (r : Result A E) → (P → Q) → OnOk r P → OnOk r Q
at_ok (Ok x) f p = f p
at_ok (Err e) f p = tt

-- THE LOOP
joined : (input : List ℕ) (b c x y z : Option (List ℕ)) (s s' s'' : Script) (ws ws' ws'' : List ℕ) (p : PrintsOf input b x y s ws s' ws') →
    PrintsOf p.rest c y z s' ws' s'' ws'' → PrintsOf input c x z s ws s'' ws''
joined input b c x y z s s' s'' ws ws' ws'' p q =
    record {
      rest = q.rest;
      left_is = q.left_is;
      text = p.text ++ q.text;
      took = Appends-trans x y z p.text q.text p.took q.took;
      same = p.same ∙ ap (λ (l : List ℕ). p.text ++ l) q.same ∙ sym (append_assoc p.text q.text (rest_of s'' ws'' q.rest));
    }

-- a read that goes on
pub loop-goes-on : (a b c x y z : Option (List ℕ)) (s s' s'' : Script) (ws ws' ws'' : List ℕ) → IfSome a (λ input. PrintsOf input b x y s ws s' ws') →
    ReadPrints b c y z s' ws' (Ok (Some s'')) ws'' → IfSome a (λ input. PrintsOf input c x z s ws s'' ws'')
loop-goes-on None b c x y z s s' s'' ws ws' ws'' p r = tt
loop-goes-on (Some input) b c x y z s s' s'' ws ws' ws'' p r =
    joined input b c x y z s s' s'' ws ws' ws'' p (subst (λ (d : Option (List ℕ)). ReadPrints d c y z s' ws' (Ok (Some s'')) ws'') p.left_is r)

-- the read that finds the end, and what is printed there
end_of : (input rest ws ws' text : List ℕ) (x y z w : Option (List ℕ)) (s : Script) (room : ℕ) → Appends x y text → rest_of script_start ws input ≡ text ++ rest_of s ws' rest →
    (rest ≡ []) × Keeps y z → Still s → 2 ≤ room → Appends z w (ended s room) → Appends x w (whole ws input)
end_of input rest ws ws' text x y z w s room took same (none, kept) still k put =
    let text' : ended s room ≡ rest_of s ws' rest = sym (ends-rest s ws' room still k) ∙ ap (rest_of s ws') (sym none) in
    let e : text ++ ended s room ≡ whole ws input = ap (λ (l : List ℕ). text ++ l) text' ∙ sym same ∙ start-whole ws input in
    subst (Appends x w) e (Appends-trans x z w text (ended s room) (Appends-kept x y z text took kept) put)

pub loop-ends : {A E : Type 0} → (r : Result A E) (a b c x y z w : Option (List ℕ)) (s : Script) (ws ws' ws'' : List ℕ) (room : ℕ) →
    IfSome a (λ input. PrintsOf input b x y script_start ws s ws') → ReadPrints b c y z s ws' (Ok None) ws'' → Still s → 2 ≤ room →
    OnOk r (Appends z w (ended s room)) → OnOk r (IfSome a (λ input. Appends x w (whole ws input)))
loop-ends r None b c x y z w s ws ws' ws'' room p h still k put = at_ok r (λ _. tt) put
loop-ends r (Some input) b c x y z w s ws ws' ws'' room p h still k put =
    at_ok r (end_of input p.rest ws ws' p.text x y z w s room p.took p.same (subst (λ (d : Option (List ℕ)). ReadPrints d c y z s ws' (Ok None) ws'') p.left_is h) still k) put
