-- `seek` meets its contract: nothing before the cursor fits. Assumes nothing.
use Rattle.list_words.proofs.Going.{along-near, along-less}
use Rattle.list_words.proofs.Seeking.{seek-broken, seek-order, low-above, begin-passed, at-passed, next-passed, end-passed}
use Rattle.std.proofs.lemmas.Result.{err_from_is_err_and}
use mathlib.Core.Path.{ap}
use mathlib.Core.Bool.{not}
use Rattle.list_words.proofs.seeks.seek.Goals as goal

pub loop-arena-init : goal.loop-arena-init
loop-arena-init c = search begin-passed

pub returns-in_err-limit : goal.returns-in_err-limit
returns-in_err-limit c =
    let p = err_from_is_err_and c.from_residual.result c.from_residual.ensures.1 in
    rw p.1 (search (seek-broken, c.in_err-limit.was))

pub fits-requires : goal.fits-requires
fits-requires c =
    seek-order _ _ c.requires _ _ _ c.start-cur.ensures _ _ c.loop-arena.invariant
    _ c.is_zero.ensures (ap not c.loop-arena-test.true) _ c.range_at.ensures _ c.in_ok-limit.was _ c.new-here.ensures

pub passed-before-requires : goal.passed-before-requires
passed-before-requires c =
    low-above _ _ c.requires _ _ c.loop-arena.invariant.along

pub on-requires : goal.on-requires
on-requires c =
    along-near _ _ c.requires _ _ c.loop-arena.invariant.along
    _ c.is_zero.ensures (ap not c.loop-arena-test.true) _ c.range_at.ensures _ c.in_ok-limit.was

pub returns-then-fits : goal.returns-then-fits
returns-then-fits c =
    at-passed _ _ c.requires _ _ _ c.start-cur.ensures c.loop-arena.prev _ c.loop-arena.invariant
    _ c.is_zero.ensures (ap not c.loop-arena-test.true) _ c.range_at.ensures _ c.in_ok-limit.was
    _ c.on.ensures _ c.new-here.ensures _ c.fits.ensures c.if-fits.true _ c.passed-before.ensures

pub on-cur-requires : goal.on-cur-requires
on-cur-requires c =
    along-near _ _ c.requires _ _ c.loop-arena.invariant.along
    _ c.is_zero.ensures (ap not c.loop-arena-test.true) _ c.range_at.ensures _ c.in_ok-limit.was

pub loop-arena-smaller : goal.loop-arena-smaller
loop-arena-smaller c =
    along-less _ _ c.requires _ _ c.loop-arena.invariant.along
    _ c.is_zero.ensures (ap not c.loop-arena-test.true) _ c.range_at.ensures _ c.in_ok-limit.was _ c.on-cur.ensures

pub loop-arena-preserved : goal.loop-arena-preserved
loop-arena-preserved c =
    next-passed _ _ c.requires _ _ _ c.start-cur.ensures c.loop-arena.prev _ c.loop-arena.invariant
    _ c.is_zero.ensures (ap not c.loop-arena-test.true) _ c.range_at.ensures _ c.in_ok-limit.was
    _ c.on-cur.ensures _ c.new-here.ensures _ c.fits.ensures c.if-fits.false

pub passed-requires : goal.passed-requires
passed-requires c =
    low-above _ _ c.requires _ _ c.loop-arena.invariant.along

pub returns : goal.returns
returns c = search end-passed
