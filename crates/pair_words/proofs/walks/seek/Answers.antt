-- `seek` meets its contract: nothing before the cursor fits. Assumes nothing.
use Rattle.std.proofs.lemmas.Result.{err_from_is_err_and}
use Rattle.pair_words.proofs.Seeking.{pursue-near, pursue-less, pursue-order, pursue-overlaps, pursue-at, pursue-next, pursuits}
use mathlib.Core.Path.{ap}
use mathlib.Core.Bool.{not}
use Rattle.pair_words.proofs.walks.seek.Goals as goal

pub loop-arena-init : goal.loop-arena-init
loop-arena-init c = search pursuits

pub returns-in_err-limit : goal.returns-in_err-limit
returns-in_err-limit c =
    let p = err_from_is_err_and c.from_residual.result c.from_residual.ensures.1 in
    rw p.1 (search (pursuits, c.in_err-limit.was, p.2))

pub returns-in_default : goal.returns-in_default
returns-in_default c =
    pursue-overlaps _ _ c.requires.ready _ _ _ _ _ c.start-cur.ensures _ _ _ c.loop-arena.invariant
    _ c.is_zero.ensures (ap not c.loop-arena-test.true) _ c.range_at.ensures _ c.in_ok-limit.was
    _ c.new-here.ensures _ c.place_beside.ensures c.in_default.is

pub on-cur-requires : goal.on-cur-requires
on-cur-requires c =
    pursue-near _ _ c.requires.ready _ _ _ _ _ c.start-cur.ensures _ _ _ c.loop-arena.invariant
    _ c.is_zero.ensures (ap not c.loop-arena-test.true) _ c.range_at.ensures _ c.in_ok-limit.was

pub fits-requires : goal.fits-requires
fits-requires c =
    pursue-order _ _ c.requires.ready _ _ _ _ _ c.start-cur.ensures _ _ _ c.loop-arena.invariant
    _ c.is_zero.ensures (ap not c.loop-arena-test.true) _ c.range_at.ensures _ c.in_ok-limit.was _ c.new-here.ensures

pub returns-then-fits : goal.returns-then-fits
returns-then-fits c =
    pursue-at _ _ c.requires.ready _ _ _ _ _ c.start-cur.ensures _ _ _ c.loop-arena.invariant
    _ c.is_zero.ensures (ap not c.loop-arena-test.true) _ c.range_at.ensures _ c.in_ok-limit.was
    _ c.new-here.ensures _ c.place_beside.ensures _ c.in-Some.is _ c.on-cur.ensures _ c.fits.ensures c.if-fits.true

pub loop-arena-smaller : goal.loop-arena-smaller
loop-arena-smaller c =
    pursue-less _ _ c.requires.ready _ _ _ _ _ c.start-cur.ensures _ _ _ c.loop-arena.invariant
    _ c.is_zero.ensures (ap not c.loop-arena-test.true) _ c.range_at.ensures _ c.in_ok-limit.was _ c.on-cur.ensures

pub loop-arena-preserved : goal.loop-arena-preserved
loop-arena-preserved c =
    pursue-next _ _ c.requires.ready _ _ _ _ _ c.start-cur.ensures _ _ _ c.loop-arena.invariant
    _ c.is_zero.ensures (ap not c.loop-arena-test.true) _ c.range_at.ensures _ c.in_ok-limit.was
    _ c.new-here.ensures _ c.place_beside.ensures _ c.in-Some.is _ c.on-cur.ensures _ c.fits.ensures c.if-fits.false

pub returns : goal.returns
returns c = search pursuits
