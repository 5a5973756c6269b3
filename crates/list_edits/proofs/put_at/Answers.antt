-- `put_at` meets its contract: refused, and the range put in. Assumes nothing.
use Rattle.list_edits.proofs.EditWays.{put-placing, put_refused, put-putting, put-done}
use Rattle.list_edits.proofs.put_at.Goals as goal

pub place-requires : goal.place-requires
place-requires c = put-placing _ _ _ c.args.range _ c.requires.held c.requires.range_value

pub returns-in_default : goal.returns-in_default
returns-in_default c =
    put_refused _ _ _ c.args.range _ c.requires.held c.requires.range_value _ c.place.ensures c.in_default.is

pub put-requires : goal.put-requires
put-requires c =
    put-putting _ _ _ c.args.range _ c.requires.held c.requires.range_value _ c.place.ensures _ c.in-Some.is

pub returns : goal.returns
returns c =
    put-done _ _ _ c.args.range _ c.requires.held c.requires.range_value _ c.place.ensures _ c.in-Some.is _ _ c.put.ensures
