-- `flush_all` meets its contract: the transfer, and both handles closed. Assumes nothing.
use Rattle.flush.proofs.FlushAnswers.{going, fewer, less, room, accepted}
use Rattle.flush.proofs.flush_all.Goals as goal

pub transfer-done-requires : goal.transfer-done-requires
transfer-done-requires c = going _ _ _ _ c.requires _ c.arena.ensures

pub overflow_sub-list : goal.overflow_sub-list
overflow_sub-list c =
    fewer _ _ _ _ c.requires _ c.arena.ensures _ _ c.transfer-done.ensures

pub minus-requires : goal.minus-requires
minus-requires c =
    less _ _ _ _ c.requires _ c.arena.ensures _ _ c.transfer-done.ensures

pub plus-requires : goal.plus-requires
plus-requires c =
    room _ _ _ _ c.requires _ c.arena.ensures _ _ c.transfer-done.ensures

pub returns : goal.returns
returns c =
    accepted _ _ _ _ c.requires _ c.arena.ensures _ _ c.transfer-done.ensures _ c.minus.ensures _ c.close.ensures _ c.plus.ensures _ c.close-2.ensures _ c.stop_number.ensures
