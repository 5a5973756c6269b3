-- `put_at` meets its contract: refused, no room, and the range put in. Assumes nothing.
use Rattle.block_edits.proofs.PutAnswers.{put-overlap, put-ready, put-done}
use Rattle.block_edits.proofs.put_at.Goals as goal

pub returns-in_default : goal.returns-in_default
returns-in_default c =
    put-overlap _ _ c.args.range c.requires.sorted c.requires.base_lt_limit _ c.requires.first_reach _ c.fit_at.ensures c.in_default.is

pub fit_in-requires-clause-joining : goal.fit_in-requires-clause-joining
fit_in-requires-clause-joining c =
    (put-ready _ _ c.args.range c.requires.sorted c.requires.base_lt_limit _ c.requires.first_reach _ c.fit_at.ensures _ c.in-Some.is).1

pub returns : goal.returns
returns c =
    put-done _ _ c.args.range c.requires.sorted c.requires.base_lt_limit _ c.requires.first_reach _ c.fit_at.ensures _ c.in-Some.is _ _ c.fit_in.ensures
