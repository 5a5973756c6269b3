-- `cut_out` meets its contract. Assumes nothing.
use Rattle.units.proofs.Orders.{told-lt, told-ge}
use Rattle.block_edits.proofs.CutAnswers.{cut-behind, cut_below, cut-held, cut-full, cut-done}
use Rattle.block_edits.proofs.cut_out.Goals as goal

pub returns-then-n-i : goal.returns-then-n-i
returns-then-n-i c =
    cut-behind _ _ c.args.range c.requires.sorted _ c.requires.first_reach c.if-n-i.true

pub returns-then-lt : goal.returns-then-lt
returns-then-lt c =
    cut_below _ _ c.args.range c.requires.sorted _ c.requires.first_reach
    c.if-n-i.false _ c.pair_at-here.ensures (told-lt _ _ _ c.lt.ensures c.if-lt.true)

pub returns-then-nodes-after : goal.returns-then-nodes-after
returns-then-nodes-after c =
    cut-full _ _ c.args.range _ (cut-held _ _ c.args.range c.requires.sorted _ c.requires.first_reach c.if-n-i.false _ c.pair_at-here.ensures c.requires.base_lt_limit (told-ge _ _ _ c.lt.ensures c.if-lt.false)) _ c.pair_at-here.ensures _ c.left_of-left.ensures c.if-nodes-after.true

pub returns : goal.returns
returns c =
    cut-done _ _ c.args.range _ (cut-held _ _ c.args.range c.requires.sorted _ c.requires.first_reach c.if-n-i.false _ c.pair_at-here.ensures c.requires.base_lt_limit (told-ge _ _ _ c.lt.ensures c.if-lt.false)) _ c.pair_at-here.ensures _ c.left_of-left.ensures c.if-nodes-after.false _ c.leave.ensures
