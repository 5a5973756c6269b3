-- `cut_out` meets its contract: refused, and the range taken out. Assumes nothing.
use Rattle.list_edits.proofs.Removing.{out-behind, out-before, out-holding, out-done}
use Rattle.list_edits.proofs.cut_out.Goals as goal

pub returns-then-is_zero : goal.returns-then-is_zero
returns-then-is_zero c =
    out-behind _ _ _ c.args.range _ c.requires.held c.requires.range_value _ c.is_zero.ensures c.if-is_zero.true

pub returns-then-lt : goal.returns-then-lt
returns-then-lt c =
    out-before _ _ _ c.args.range _ c.requires.held c.requires.range_value _ c.is_zero.ensures c.if-is_zero.false _ c.lt.ensures c.if-lt.true

pub cut_at-left-requires : goal.cut_at-left-requires
cut_at-left-requires c =
    out-holding _ _ _ c.args.range _ c.requires.held c.requires.range_value _ c.is_zero.ensures c.if-is_zero.false _ c.lt.ensures c.if-lt.false

pub returns : goal.returns
returns c =
    out-done _ _ _ c.args.range _ c.requires.held c.requires.range_value _ c.is_zero.ensures c.if-is_zero.false _ c.lt.ensures c.if-lt.false
    _ _ c.cut_at-left.ensures
