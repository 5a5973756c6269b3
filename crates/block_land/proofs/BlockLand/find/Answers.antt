-- `BlockLand::find` meets its contract: 5, 6, 4, and then the entry chosen. Assumes nothing.
use mathlib.Core.Path.{refl, sym, ap, ◌∙◌}
use Rattle.std.specs.Prelude.{Err}
use Rattle.units.specs.Rules.{refusal_number}
use Rattle.units.specs.declared.aims.Aim.{Aim}
use Rattle.units.specs.declared.refusals.Refusal.{Refusal}
use Rattle.units.proofs.Cases.{set-up-true, set-up-err}
use Rattle.model.specs.Calls.{find}
use Rattle.model.proofs.lands.FindAnswers.{find-5, find-6, find-4}
use Rattle.model.proofs.lands.Ways.{good-align, good-positive}
use Rattle.block_land.specs.inner.Parts.{found_none}
use Rattle.block_land.proofs.Land.{block_land}
use Rattle.block_land.proofs.Ways.{land-damaged, land-rising, land-kept}
use Rattle.block_land.proofs.BlockLand.find.Goals as goal

pub returns-in-Err : goal.returns-in-Err
returns-in-Err c =
    let a = c.args in
    let p = set-up-err _ _ (sym c.in-Err.is ∙ c.set_up.ensures) in
    find-5 block_land _ _ (find a.which a.size.0 a.mode) _ c.set_up.ensures (c.in-Err.is ∙ ap (λ (x : Refusal). Err x) p.1) _
    (c.none_found.ensures ∙ ap (λ (x : Refusal). found_none c.args.self (refusal_number x)) p.1)

pub good_arena-arena-requires : goal.good_arena-arena-requires
good_arena-arena-requires c = search (good-align block_land)

pub check_find-check-requires : goal.check_find-check-requires
check_find-check-requires c = search (good-positive block_land)

pub returns-in-Err-judge : goal.returns-in-Err-judge
returns-in-Err-judge c =
    let a = c.args in
    let p = land-damaged _ _ _ c.set_up.ensures c.in_default.is _ c.good_arena-arena.ensures _ c.judge.ensures _ c.in-Err-judge.is in
    find-6 block_land _ _ (find a.which a.size.0 a.mode) (set-up-true _ _ c.set_up.ensures c.in_default.is) p.0 _
    (c.none_found-in-Err-judge.ensures ∙ ap (λ (x : Refusal). found_none c.args.self (refusal_number x)) p.1)

pub returns-in_default-check : goal.returns-in_default-check
returns-in_default-check c =
    let a = c.args in
    find-4 block_land _ _ a.which a.size _ c.good_arena-arena.ensures _ c.check_find-check.ensures Aim.Nothing _ ((land-kept _ _ _ c.set_up.ensures c.in_default.is _ c.good_arena-arena.ensures _ c.judge.ensures c.in_default-judge.is) Aim.Nothing _ refl)
    (c.in_default-check.not-Ok tt) a.mode _ c.none_found-in_default-check.ensures

pub found-entry-requires : goal.found-entry-requires
found-entry-requires c =
    land-rising _ _ _ c.set_up.ensures c.in_default.is _ c.good_arena-arena.ensures _ c.judge.ensures c.in_default-judge.is
