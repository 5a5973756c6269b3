-- `take_tabled` meets its contract. Assumes nothing.
use Rattle.pair.proofs.LandEdits.{take-tabled-room, take-tabled-done}
use Rattle.pair.proofs.edits.take_tabled.Goals as goal

pub minus-bytes-requires : goal.minus-bytes-requires
minus-bytes-requires c =
    take-tabled-room _ _ _ c.args.range c.requires _ c.size.ensures

pub returns : goal.returns
returns c =
    take-tabled-done _ _ _ c.args.range c.requires _ _ c.cut_at-count.ensures _ c.size.ensures _ c.minus-bytes.ensures _ c.close.ensures
