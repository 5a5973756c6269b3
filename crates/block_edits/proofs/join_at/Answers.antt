-- `join_at` meets its contract: how the range fits, and the range put in. Assumes nothing.
use Rattle.block_edits.proofs.PutAnswers.{join-there, put-ready, join-done}
use Rattle.block_edits.proofs.join_at.Goals as goal

pub unwrap-place-requires : goal.unwrap-place-requires
unwrap-place-requires c =
    join-there _ _ c.args.range c.requires.sorted c.requires.base_lt_limit _ c.requires.first_reach _ c.fit_at.ensures c.requires.count_value

pub fit_in-requires-clause-joining : goal.fit_in-requires-clause-joining
fit_in-requires-clause-joining c =
    (put-ready _ _ c.args.range c.requires.sorted c.requires.base_lt_limit _ c.requires.first_reach _ c.fit_at.ensures _ c.unwrap-place.ensures).1

pub returns : goal.returns
returns c =
    join-done _ _ c.args.range c.requires.sorted c.requires.base_lt_limit _ c.requires.first_reach _ c.fit_at.ensures _ c.unwrap-place.ensures _ _ c.fit_in.ensures
