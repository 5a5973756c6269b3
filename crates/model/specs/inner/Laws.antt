-- What a layout must keep, and which lists of ranges a land can stand for: needed by proofs. Assumes nothing.
use Rattle.std.specs.Prelude.{◌≤◌, true, false, List, ◌≡◌, length}
use Rattle.model.specs.Calls.{Arena}
use Rattle.model.specs.Lands.{told, note, LandLayout}
use Rattle.model.specs.Layouts.{holding, Answers, Rules, Layout}
use Rattle.model.specs.inner.Lists.{Apart, Aligned}
use Rattle.model.specs.Marks.{Range}
use Rattle.model.specs.inner.Steps.{room_for}

-- What a layout must keep, where Fine says which sets it can stand for.
pub record Laws {A H W S Q X : Type 0}
    (Fine : A → S → Type 0) (note : A → S → Q → Q) (told : A → S → Q → X) (R : Layout A H W S Q X) : Type 0 where
  -- what is read is fine, and what is shown is what is told of it and of the note
  pub sound :
      (h : H) (w : W) (s : S) → R.read h w ≡ holding s →
      Fine (R.arena h w) s × (R.show h w ≡ told (R.arena h w) s (R.noted h))
  -- what was written is read back
  pub read_write :
      (h : H) (w : W) (s s' : S) → R.read h w ≡ holding s → Fine (R.arena h w) s' →
      R.read (R.close h s') (R.words h w s') ≡ holding s'
  -- a close notes once
  pub note_write : (h : H) (w : W) (s : S) → R.noted (R.close h s) ≡ note (R.arena h w) s (R.noted h)
  -- what leaves the set as it is leaves the handle as it is
  pub close_same : (h : H) (w : W) (s : S) → R.read h w ≡ holding s → R.close h s ≡ h
  pub arena_write : (h : H) (w : W) (s : S) → R.arena (R.close h s) (R.words h w s) ≡ R.arena h w
  -- the host leaves the set and the arena
  pub read_host : (h : H) (w w' : W) (s : S) → R.read h w ≡ holding s → R.host h w w' → R.read h w' ≡ holding s
  pub arena_host : (h : H) (w w' : W) → R.host h w w' → R.arena h w' ≡ R.arena h w
  -- the host may do nothing
  pub host_idle : (h : H) (w : W) → R.host h w w

-- The rules G over sets and the rules J over marks give the same on fine sets, and a refused call keeps the set.
pub record Alike {A C O S M Q X : Type 0}
    (Fine : A → S → Type 0) (K : Answers O) (G : Rules A C O S Q X) (J : Rules A C O M Q X) (up : S → M) : Type 0 where
  pub out_same : (a : A) (c : C) (s : S) → Fine a s → G.out a c s ≡ J.out a c (up s)
  pub next_same : (a : A) (c : C) (s : S) → Fine a s → J.next a c (up s) ≡ up (G.next a c s)
  pub note_same : (a : A) (s : S) (q : Q) → Fine a s → G.note a s q ≡ J.note a (up s) q
  pub told_same : (a : A) (s : S) (q : Q) → Fine a s → G.told a s q ≡ J.told a (up s) q
  pub fine_next : (a : A) (c : C) (s : S) → Fine a s → Fine a (G.next a c s)
  pub kept : (a : A) (c : C) (s : S) → Fine a s → K.accepts (G.out a c s) ≡ false → G.next a c s ≡ s

-- The lists of ranges that a land of the arena can have: aligned, non-empty, inside the arena, separated.
pub record Canon (a : Arena) (rs : List Range) : Type 0 where
  pub apart : Apart a.base a.limit rs
  pub aligned : Aligned a.align rs

-- And no more of them than there is room for.
pub record Fine (a : Arena) (rs : List Range) : Type 0 where
  pub order : a.base ≤ a.limit
  pub canon : Canon a rs
  pub room : room_for a.room (length rs) ≡ true

-- The laws of the layout of a land.
abbrev pub LandLaws : {H : Type 0} → LandLayout H → Type 0
LandLaws R = Laws Fine (λ a rs q. note rs q) (λ a rs q. told rs q) R
