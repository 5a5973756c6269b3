-- `join_at` meets its contract: the place of the range, and the range put in. Assumes nothing.
use Rattle.list_edits.proofs.EditWays.{put-placing, join-there, put-putting, join-done}
use Rattle.list_edits.proofs.join_at.Goals as goal

pub place-requires : goal.place-requires
place-requires c = put-placing _ _ _ c.args.range _ c.requires.held c.requires.range_value

pub unwrap-place-requires : goal.unwrap-place-requires
unwrap-place-requires c =
    join-there _ _ _ c.args.range _ c.requires.held c.requires.range_value _ c.place.ensures c.requires.chain_value

pub put-requires : goal.put-requires
put-requires c =
    put-putting _ _ _ c.args.range _ c.requires.held c.requires.range_value _ c.place.ensures _ c.unwrap-place.ensures

pub returns : goal.returns
returns c =
    join-done _ _ _ c.args.range _ c.requires.held c.requires.range_value _ c.place.ensures _ c.unwrap-place.ensures _ _ c.put.ensures
