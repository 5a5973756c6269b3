-- `store` meets its contract: two pieces, and the link to the first of them. Assumes nothing.
use Rattle.list_edits.proofs.Writing.{store-first, store-linked}
use Rattle.list_edits.proofs.store.Goals as goal

pub returns-then-is_zero : goal.returns-then-is_zero
returns-then-is_zero c =
    let a = c.args in
    store-first _ a.words.now a.edit _ _ c.piece-upper.ensures _ _ c.piece-first.ensures _ c.is_zero.ensures c.if-is_zero.true
    a.head

pub returns : goal.returns
returns c =
    let a = c.args in
    store-linked _ a.words.now a.edit _ _ c.piece-upper.ensures _ _ c.piece-first.ensures _ c.is_zero.ensures c.if-is_zero.false _
    c.lay.ensures a.head
