-- `Pair::flushed` meets its contract: the transfer, and the counts after it. Assumes nothing.
use mathlib.Core.Path.{refl}
use Rattle.flush.proofs.FlushAnswers.{going, fewer, less, room, accepted}
use Rattle.pair.proofs.Entering.{flushed-counts}
use Rattle.pair.proofs.Pair.flushed.Goals as goal

pub transfer-done-requires : goal.transfer-done-requires
transfer-done-requires c =
    going c.args.self.list _ c.args.self.block _ c.requires _ c.arena.ensures

pub overflow_sub-result : goal.overflow_sub-result
overflow_sub-result c =
    fewer c.args.self.list _ c.args.self.block _ c.requires _ c.arena.ensures _ _ c.transfer-done.ensures

pub minus-requires : goal.minus-requires
minus-requires c =
    less c.args.self.list _ c.args.self.block _ c.requires _ c.arena.ensures _ _ c.transfer-done.ensures

pub plus-requires : goal.plus-requires
plus-requires c =
    room c.args.self.list _ c.args.self.block _ c.requires _ c.arena.ensures _ _ c.transfer-done.ensures

pub returns : goal.returns
returns c =
    flushed-counts c.args.self _ _ c.requires _ _ _ _ _
    (accepted c.args.self.list _ c.args.self.block _ c.requires _ c.arena.ensures _ _ c.transfer-done.ensures _ c.minus.ensures _ refl _ c.plus.ensures _ refl _ refl)
