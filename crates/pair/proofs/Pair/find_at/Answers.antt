-- `Pair::find_at` meets its contract: 4, and the ranges chosen. Assumes nothing.
use mathlib.Core.Path.{◌∙◌}
use Rattle.pair.proofs.FindAnswers.{find-align, find-positive, find-4, find-ready}
use Rattle.pair.proofs.Pair.find_at.Goals as goal

pub by_bit-requires : goal.by_bit-requires
by_bit-requires c =
    find-align c.args.self _ _ c.args.which c.args.size _ _ c.requires _ c.arena.ensures

pub check_find-requires : goal.check_find-requires
check_find-requires c =
    find-positive c.args.self _ _ c.args.which c.args.size _ _ c.requires _ (c.by_bit.ensures ∙ c.arena.ensures)

pub returns-in_default : goal.returns-in_default
returns-in_default c =
    find-4 c.args.self _ _ c.args.which c.args.size _ _ c.requires _ (c.by_bit.ensures ∙ c.arena.ensures) _ c.check_find.ensures (c.in_default.not-Ok tt)
    c.args.mode _ c.none_found.ensures

pub find_sized-requires : goal.find_sized-requires
find_sized-requires c =
    find-ready c.args.self _ _ c.args.which c.args.size _ _ c.requires _ (c.by_bit.ensures ∙ c.arena.ensures) _ c.check_find.ensures c.in-Ok.is
