-- `ListLand::find_at` meets its contract: 4, 2, the range as it stands, and a part of it taken out. Assumes nothing.
use mathlib.Core.Path.{refl}
use Rattle.model.proofs.lands.FindAnswers.{find-4, find-asked, find-2, find-kept}
use Rattle.list_land.proofs.Land.{list_land}
use Rattle.list_land.proofs.FindAnswers.{find-within, find-holding, find-0}
use Rattle.list_land.proofs.Requests.{looked-align, looked-positive}
use Rattle.list_land.proofs.ListLand.find_at.Goals as goal

pub good_arena-arena-requires : goal.good_arena-arena-requires
good_arena-arena-requires c = search looked-align

pub check_find-requires : goal.check_find-requires
check_find-requires c = search looked-positive

pub returns-in_default : goal.returns-in_default
returns-in_default c =
    find-4 list_land _ _ c.args.which c.args.size _ c.good_arena-arena.ensures _ c.check_find.ensures _ _ c.requires (c.in_default.not-Ok tt)
    c.args.mode _ c.none_found.ensures

pub returns-then-is_zero : goal.returns-then-is_zero
returns-then-is_zero c =
    let a = c.args in
    let k = find-asked list_land _ _ a.which a.size _ c.good_arena-arena.ensures _ c.check_find.ensures _ _ c.requires c.in-Ok.is refl in
    find-2 list_land _ _ a.which a.size a.mode _ k.0 k.1 _ c.is_zero.ensures c.if-is_zero.true _ c.none_found-then-is_zero.ensures

pub part-part-requires : goal.part-part-requires
part-part-requires c =
    let a = c.args in
    let k = find-asked list_land _ _ a.which a.size _ c.good_arena-arena.ensures _ c.check_find.ensures _ _ c.requires c.in-Ok.is refl in
    find-within _ _ a.which a.size a.mode _ k.0 k.1 _ c.is_zero.ensures c.if-is_zero.false _ c.good_arena-arena.ensures _ c.find_size.ensures

pub returns-in-None : goal.returns-in-None
returns-in-None c =
    let a = c.args in
    let k = find-asked list_land _ _ a.which a.size _ c.good_arena-arena.ensures _ c.check_find.ensures _ _ c.requires c.in-Ok.is refl in
    find-kept list_land _ _ a.which a.size a.mode _ k.0 k.1 _ c.is_zero.ensures c.if-is_zero.false c.in-None.is

pub cut_at-chain-requires : goal.cut_at-chain-requires
cut_at-chain-requires c =
    let a = c.args in
    let k = find-asked list_land _ _ a.which a.size _ c.good_arena-arena.ensures _ c.check_find.ensures _ _ c.requires c.in-Ok.is refl in
    find-holding _ _ a.which a.size a.mode _ k.0 k.1 _ c.is_zero.ensures c.if-is_zero.false _ c.good_arena-arena.ensures _ c.find_size.ensures
    c.in_default-mode.not-None _ c.part-part.ensures _ c.chain.ensures

pub returns : goal.returns
returns c =
    let a = c.args in
    let k = find-asked list_land _ _ a.which a.size _ c.good_arena-arena.ensures _ c.check_find.ensures _ _ c.requires c.in-Ok.is refl in
    find-0 _ _ a.which a.size a.mode _ k.0 k.1 _ c.is_zero.ensures c.if-is_zero.false _ c.good_arena-arena.ensures _ c.find_size.ensures
    c.in_default-mode.not-None _ c.part-part.ensures _ c.chain.ensures _ _ c.cut_at-chain.ensures _ c.close.ensures
