-- `sound_on` meets its contract: at each turn what is to come of the list and of the table overlaps exactly if all does. Assumes nothing.
use Rattle.std.proofs.lemmas.Result.{err_from_is_err_and}
use Rattle.pair_words.proofs.Judging.{on-less, on-overlaps, on-next, judges}
use mathlib.Core.Path.{ap}
use mathlib.Core.Bool.{not}
use Rattle.pair_words.proofs.walks.sound_on.Goals as goal

pub returns-in_err-limit : goal.returns-in_err-limit
returns-in_err-limit c =
    let p = err_from_is_err_and c.from_residual.result c.from_residual.ensures.1 in
    rw (p.1, p.2) (search (judges, c.in_err-limit.was))

pub returns-in_default : goal.returns-in_default
returns-in_default c =
    on-overlaps _ _ c.requires.ready c.args.chain _ _ _ _ c.loop-arena.invariant
    _ c.is_zero.ensures (ap not c.loop-arena-test.true) _ c.range_at.ensures _ c.in_ok-limit.was
    _ c.new.ensures _ c.place_beside.ensures c.in_default.is

pub on-cur-requires : goal.on-cur-requires
on-cur-requires c = search (judges, c.in_ok-limit.was)

pub loop-arena-smaller : goal.loop-arena-smaller
loop-arena-smaller c =
    on-less _ _ c.requires.ready c.args.chain _ _ _ _ c.loop-arena.invariant
    _ c.is_zero.ensures (ap not c.loop-arena-test.true) _ c.range_at.ensures _ c.in_ok-limit.was _ c.on-cur.ensures

pub loop-arena-preserved : goal.loop-arena-preserved
loop-arena-preserved c =
    on-next _ _ c.requires.ready c.args.chain _ _ _ _ c.loop-arena.invariant
    _ c.is_zero.ensures (ap not c.loop-arena-test.true) _ c.range_at.ensures _ c.in_ok-limit.was
    _ c.new.ensures _ c.place_beside.ensures _ c.in-Some.is _ c.on-cur.ensures

pub returns : goal.returns
returns c = search judges
