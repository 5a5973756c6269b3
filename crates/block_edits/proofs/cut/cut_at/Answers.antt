-- `cut::cut_at` meets its contract: what is left below the part, above it, or nothing. Assumes nothing.
use Rattle.units.proofs.Orders.{told-lt, told-ge}
use Rattle.block_edits.proofs.CutEnds.{left_below, left-above, left-nothing}
use Rattle.block_edits.proofs.cut.cut_at.Goals as goal

pub returns-then-lt : goal.returns-then-lt
returns-then-lt c =
    left_below _ _ c.args.range _ c.requires.holding c.requires.at_end _ c.pair_at-here.ensures (told-lt _ _ _ c.lt.ensures c.if-lt.true)
    _ c.new.ensures _ c.put.ensures

pub returns-then-lt-2 : goal.returns-then-lt-2
returns-then-lt-2 c =
    left-above _ _ c.args.range _ c.requires.holding c.requires.at_end _ c.pair_at-here.ensures (told-ge _ _ _ c.lt.ensures c.if-lt.false)
    (told-lt _ _ _ c.lt-2.ensures c.if-lt-2.true) _ c.new-then-lt-2.ensures _ c.put-then-lt-2.ensures

pub returns : goal.returns
returns c =
    left-nothing _ _ c.args.range _ c.requires.holding c.requires.at_end _ c.pair_at-here.ensures (told-ge _ _ _ c.lt.ensures c.if-lt.false)
    (told-ge _ _ _ c.lt-2.ensures c.if-lt-2.false) _ c.remove_pair.ensures
