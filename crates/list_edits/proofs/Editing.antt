-- An edit of a list whose descriptors are in place: the stores lay the new list over the words, and each of them fits. Assumes nothing.
use Prim.Native.Nat.{ℕ, suc, ◌-◌, ◌/◌, ◌%◌, ◌<◌, ◌≤◌}
use mathlib.Core.Bool.{true, false}
use mathlib.Core.List.{List, [], ◌∷◌, ◌++◌, append_assoc}
use mathlib.Core.Path.{◌≡◌, refl, sym, ap, ap₂, ◌∙◌}
use native.Mathlib.Omega.{arith}
use lib.Dec.{eqb, ltb}
use borrow.Author.Tests.{ne_eqb, lt-ltb}
use Rattle.units.specs.declared.Addr.{Addr}
use Rattle.units.specs.declared.Range as units
use Rattle.units.specs.Words.{addr}
use Rattle.units.specs.inner.Aims.{none_range}
use Rattle.units.proofs.Tests.{by}
use Rattle.model.specs.Marks.{Range, rng, struct}
use Rattle.model.specs.inner.Lists.{Apart, Aligned, piece, plain}
use Rattle.model.proofs.Places.{apart-rest, aligned-rest}
use Rattle.list_words.specs.Laying.{head_of, describe, lay}
use Rattle.list_edits.specs.inner.Edits.{Room, PieceRoom, piece_head, piece_words, upper_head, first_head, EditRoom, store_head, pieces, store_words}
use Rattle.list_edits.specs.declared.Edit.{Edit}
use Rattle.list_words.proofs.Laid.{Laid, lay-laid}
use Rattle.list_edits.proofs.Overlay.{lay-prefix, head-prefix}
use Rattle.list_words.proofs.Keeping.{Last, first, later}

-- a range of the code, if it is not empty, before a list
abbrev pub before : units.Range → List Range → List Range
before r rs = piece r.base.0 r.limit.0 rs

-- the list behind the range before an edit
abbrev pub edited : Edit → List Range → List Range
edited e rest = before e.low (before e.high rest)

piece-head : (r : units.Range) (n : Addr) (rs : List Range) → n ≡ addr (head_of rs) → piece_head r n ≡ addr (head_of (before r rs))
piece-head r n rs e = by (ltb r.base.0 r.limit.0) (λ t. rw t) (λ t. rw t e)

piece-words : (b : ℕ) (ws vs : List ℕ) (r : units.Range) (n : ℕ) (rs : List Range) → n ≡ head_of rs → vs ≡ lay b rs ws →
    piece_words b vs r n ≡ lay b (before r rs) ws
piece-words b ws vs r n rs e f =
    by (ltb r.base.0 r.limit.0) (λ t. rw t (ap₂ (λ (k : ℕ) (v : List ℕ). describe b (plain r) k v) e f)) (λ t. rw t f)

-- the base of the next range is no larger than the limit
head_small : (lo hi : ℕ) (rs : List Range) → Apart lo hi rs → head_of rs ≤ hi
head_small lo hi [] h = omega arith
head_small lo hi (r ∷ rs) h = omega arith

-- a descriptor of an aligned range of the arena fits
room_of : (b t m x e n : ℕ) → b ≤ x → x < e → e ≤ t → x % 8 ≡ 0 → e % 8 ≡ 0 → b % 8 ≡ 0 → (t - b) / 8 ≡ m → n ≤ t → t ≤ 1099511627776 → Room b m x e n
room_of b t m x e n p q r x8 e8 b8 k u v = record { low = p; some = omega arith; whole = omega arith; high = omega arith; next = omega arith }

module _ (b t m : ℕ) (b8 : b % 8 ≡ 0) (k : (t - b) / 8 ≡ m) (top : t ≤ 1099511627776) where
  -- the pieces of a list fit, and what stands behind one of them is sorted too
  piece-room : (lo : ℕ) (r : units.Range) (rs : List Range) → b ≤ lo → Apart lo t (before r rs) → Aligned 8 (before r rs) → PieceRoom b m r (head_of rs)
  piece-room lo r rs o h a z =
      let h' : Apart lo t (rng r.base.0 r.limit.0 ∷ rs) = rw (lt-ltb r.base.0 r.limit.0 z) at h in
      let a' : Aligned 8 (rng r.base.0 r.limit.0 ∷ rs) = rw (lt-ltb r.base.0 r.limit.0 z) at a in
      room_of b t m r.base.0 r.limit.0 (head_of rs) (omega arith) z h'.2 a'.0 a'.1 b8 k
      (head_small (suc r.limit.0) t rs h'.3) top

  record Behind (lo : ℕ) (rs : List Range) : Type 0 where
    low : ℕ
    above : b ≤ low
    apart : Apart low t rs
    aligned : Aligned 8 rs

  behind : (lo : ℕ) (r : units.Range) (rs : List Range) → b ≤ lo → Apart lo t (before r rs) → Aligned 8 (before r rs) → Behind lo rs
  behind lo r rs o h a =
      by (ltb r.base.0 r.limit.0)
      (λ z. let h' : Apart lo t (rng r.base.0 r.limit.0 ∷ rs) = rw z at h in
      let a' : Aligned 8 (rng r.base.0 r.limit.0 ∷ rs) = rw z at a in
      record { low = suc r.limit.0; above = omega arith; apart = h'.3; aligned = a'.2 })
      (λ z. record { low = lo; above = o; apart = rw z at h; aligned = rw z at a })

  module _ (e : Edit) (rest : List Range) (nx : e.next ≡ addr (head_of rest)) where
    pub upper-head : upper_head e ≡ addr (head_of (before e.high rest))
    upper-head = piece-head e.high e.next rest nx

    pub first_head_lem : first_head e ≡ addr (head_of (edited e rest))
    first_head_lem = piece-head e.low (upper_head e) (before e.high rest) upper-head

    pieces-lay : (ws : List ℕ) → Laid b rest ws → pieces b ws e ≡ lay b (edited e rest) ws
    pieces-lay ws d =
        piece-words b ws (piece_words b ws e.high e.next.0) e.low (upper_head e).0 (before e.high rest)
        (ap (λ (n : Addr). n.0) upper-head)
        (piece-words b ws ws e.high e.next.0 rest (ap (λ (n : Addr). n.0) nx) (sym (lay-laid b rest ws d)))

    pieces_room : (lo : ℕ) → b ≤ lo → Apart lo t (edited e rest) → Aligned 8 (edited e rest) →
        PieceRoom b m e.high e.next.0 × PieceRoom b m e.low (upper_head e).0
    pieces_room lo o h a =
        let g = behind lo e.low (before e.high rest) o h a in (
          rw nx (piece-room g.low e.high rest g.above g.apart g.aligned),
          rw upper-head (piece-room lo e.low (before e.high rest) o h a),
        )

    -- what the stores of an edit come to, where old is what stood behind the front
    pub record Stored (ws : List ℕ) (head : Addr) (front : List Range) : Type 0 where
      pub room : EditRoom b m e
      pub new-head : store_head head e ≡ addr (head_of (front ++ edited e rest))
      pub words : store_words b ws e ≡ lay b (front ++ edited e rest) ws

    module _ (ws : List ℕ) (head : Addr) (old : List Range) (here : 0 < b) (d : Laid b rest ws) where
      stored-first : (p : units.Range) → e.prev ≡ none_range → Apart b t (edited e rest) → Aligned 8 (edited e rest) → Stored ws head []
      unfolding store_words
      stored-first p q h a =
          let z : eqb e.prev.base.0 0 ≡ true = ap (λ (v : units.Range). eqb v.base.0 0) q in
          let y : e.prev.base.0 ≡ 0 = ap (λ (v : units.Range). v.base.0) q in
          let r = pieces_room b (omega arith) h a in
          record {
            room = record { high = r.0; low = r.1; prev = λ f. absurd (f y) };
            new-head = rw z first_head_lem;
            words = rw z (pieces-lay ws d);
          }

      stored-later : (ps : List Range) (p : Range) → e.prev ≡ struct p → head ≡ addr (head_of (ps ++ p ∷ old)) → Laid b (ps ++ p ∷ old) ws →
          Apart b t (ps ++ p ∷ edited e rest) → Aligned 8 (ps ++ p ∷ edited e rest) → Stored ws head (ps ++ p ∷ [])
      unfolding store_words
      stored-later ps p q f l h a =
          let pr = apart-rest b t ps p (edited e rest) h in
          let p8 = aligned-rest 8 ps p (edited e rest) a in
          let r = pieces_room (suc p.limit) (omega arith) pr.3 p8.2 in
          let z : eqb e.prev.base.0 0 ≡ false = rw q (ne_eqb p.base 0 (λ y. omega arith)) in
          let ass = append_assoc ps (p ∷ []) (edited e rest) in
          record {
            room = record {
              high = r.0;
              low = r.1;
              prev = λ y. rw (q, first_head_lem) (room_of b t m p.base p.limit (head_of (edited e rest)) pr.0 pr.1 pr.2 p8.0 p8.1 b8 k
                  (head_small (suc p.limit) t (edited e rest) pr.3) top);
            };
            new-head = rw (z, ass) (f ∙ ap addr (head-prefix ps p old (edited e rest)));
            words = rw (z, ass) (sym (lay-prefix b b t ps p (edited e rest) old ws (omega arith) b8 h a l
                ∙ sym (rw q (ap₂ (λ (n : Addr) (v : List ℕ). describe b p n.0 v) first_head_lem (pieces-lay ws d)))));
          }

      pub stored : (front : List Range) → Last front e.prev → head ≡ addr (head_of (front ++ old)) → Laid b (front ++ old) ws →
          Apart b t (front ++ edited e rest) → Aligned 8 (front ++ edited e rest) → Stored ws head front
      stored front l f g h a = go front e.prev l refl f g h a
        where
          go : (front : List Range) (p : units.Range) → Last front p → e.prev ≡ p → head ≡ addr (head_of (front ++ old)) → Laid b (front ++ old) ws →
              Apart b t (front ++ edited e rest) → Aligned 8 (front ++ edited e rest) → Stored ws head front
          go _ _ first q f g h a = stored-first none_range q h a
          go _ _ (later ps p) q f g h a =
              stored-later ps p q (rw append_assoc at f) (rw append_assoc at g) (rw append_assoc at h) (rw append_assoc at a)
