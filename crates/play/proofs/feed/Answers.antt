use Rattle.std.proofs.Common.{rules, ◌≤◌, length}
use Rattle.play.proofs.Parts.{used-in, left-less}
use Rattle.play.proofs.Printing.{prints-before, prints-then, fed-prints}
use Rattle.play.proofs.feed.Goals as goal

pub slice_bounds-left-count : goal.slice_bounds-left-count
slice_bounds-left-count g c = used-in _ c.loop-left.script _ _ _ c.feed-fed.ensures.value

pub slice_bounds-left-start : goal.slice_bounds-left-start
slice_bounds-left-start g c =
    let inside : c.feed-fed.result.used ≤ length c.loop-left.left.now = used-in _ c.loop-left.script _ _ _ c.feed-fed.ensures.value in
    search rules

pub loop-left-smaller : goal.loop-left-smaller
loop-left-smaller g c =
    let at = c.loop-left in
    left-less _ at.script _ _ _ c.feed-fed.ensures.value (search rules) (search rules) at.invariant.2

pub loop-left-preserved : goal.loop-left-preserved
loop-left-preserved g c =
    let at = c.loop-left in
    let fed = c.feed-fed.ensures in
    let put = fed-prints _ _ at.script _ _ _ _ _ _ fed.value fed.words_after fed.out_after c.in_ok-put_out.ensures in
    let told = prints-before _ _ _ _ _ _ _ c.in_ok-script.ensures.prints in
    (search rules, search rules, c.in_ok-script.ensures.still, prints-then _ _ _ _ _ _ _ _ _ _ _ _ at.invariant.3 (prints-then _ _ _ _ _ _ _ _ _ _ _ _ put told))
