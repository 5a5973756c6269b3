-- Which descriptors an edit has to write: those of the ranges that are new, and the link to them. Assumes nothing.
use mathlib.Core.Path.{◌≡◌, refl, subst, ◌∙◌}
use mathlib.Core.List.{List, [], ◌∷◌, ◌++◌}
use mathlib.Core.Logic.{◌≢◌}
use Prim.Native.Nat.{ℕ, suc, ◌+◌, ◌*◌, ◌≤◌, ◌<◌, ◌%◌}
use native.Mathlib.Omega.{arith}
use lib.ListN.{get_or, set}
use lib.Seq.{get_or-set_other}
use borrow.Author.Tests.{eqb-false}
use Rattle.units.specs.Words.{word_number}
use Rattle.units.proofs.Tests.{by}
use Rattle.model.specs.Marks.{Range, size}
use Rattle.model.specs.inner.Lists.{Apart, Aligned}
use Rattle.list_words.specs.Laying.{head_of, grain, describe, lay}
use Rattle.list_words.proofs.Laid.{Told, Laid, describe-told}

describe-other : (base : ℕ) (r : Range) (nx : ℕ) (ws : List ℕ) (i : ℕ) → i ≢ word_number base r.base → i ≢ word_number base (r.base + 8) →
    get_or (describe base r nx ws) i 0 ≡ get_or ws i 0
describe-other base r nx ws i p q =
    by (grain r)
    (λ g. rw g (get_or-set_other ws (word_number base r.base) i (nx + 1) 0 p))
    (λ g. rw g (get_or-set_other (set ws (word_number base r.base) nx) (word_number base (r.base + 8)) i r.limit 0 q ∙ get_or-set_other ws (word_number base r.base) i nx 0 p))

-- words below the list are as they were
pub lay-below : (base lo hi : ℕ) (rs : List Range) (ws : List ℕ) (i : ℕ) → base + 8 * i + 8 ≤ lo → Apart lo hi rs → get_or (lay base rs ws) i 0 ≡ get_or ws i 0
lay-below base lo hi [] ws i k h = refl
lay-below base lo hi (r ∷ rs) ws i k h =
    describe-other base r (head_of rs) (lay base rs ws) i (omega arith) (omega arith) ∙ lay-below base (suc r.limit) hi rs ws i (omega arith) h.3

-- a descriptor that is in place need not be written
pub lay-skip : (base hi : ℕ) (r : Range) (rs : List Range) (ws : List ℕ) → base ≤ r.base → base % 8 ≡ 0 → r.base < r.limit → r.base % 8 ≡ 0 → r.limit % 8 ≡ 0 →
    Apart (suc r.limit) hi rs → Told base r (head_of rs) ws → lay base (r ∷ rs) ws ≡ lay base rs ws
lay-skip base hi r rs ws k z p a b h t =
    describe-told base r (head_of rs) (lay base rs ws) (record {
      first_word = lay-below base (suc r.limit) hi rs ws (word_number base r.base) (omega arith) h ∙ t.first_word;
      second_word = λ g. lay-below base (suc r.limit) hi rs ws (word_number base (r.base + 8)) (let n = eqb-false (size r) 8 g in omega arith) h ∙ t.second_word g;
    })

pub head-prefix : (ps : List Range) (p : Range) (qs rs : List Range) → head_of (ps ++ p ∷ qs) ≡ head_of (ps ++ p ∷ rs)
head-prefix [] p qs rs = refl
head-prefix (r ∷ ps) p qs rs = refl

-- the ranges up to p stay, and what follows p changes: only p's descriptor is written, and those that follow
pub lay-prefix : (base lo hi : ℕ) (ps : List Range) (p : Range) (qs rs : List Range) (ws : List ℕ) → base ≤ lo → base % 8 ≡ 0 →
    Apart lo hi (ps ++ p ∷ qs) → Aligned 8 (ps ++ p ∷ qs) → Laid base (ps ++ p ∷ rs) ws →
    lay base (ps ++ p ∷ qs) ws ≡ describe base p (head_of qs) (lay base qs ws)
lay-prefix base lo hi [] p qs rs ws k z h a l = refl
lay-prefix base lo hi (r ∷ ps) p qs rs ws k z h a l =
    lay-skip base hi r (ps ++ p ∷ qs) ws (omega arith) z h.1 a.0 a.1 h.3 (subst (λ (n : ℕ). Told base r n ws) (head-prefix ps p rs qs) l.0)
    ∙ lay-prefix base (suc r.limit) hi ps p qs rs ws (omega arith) z h.3 a.2 l.1
