-- `Pair::find_sized` meets its contract: 2, the find in the list, the find in the block land. Assumes nothing.
use mathlib.Core.Path.{ap, ◌∙◌}
use Rattle.std.specs.Prelude.{Some}
use Rattle.pair.specs.declared.find.Side.{Side}
use Rattle.pair.proofs.FindAnswers.{find-ordered, find-2, list-chosen, find-list, block-chosen, find-block}
use Rattle.pair.proofs.Pair.find_sized.Goals as goal

pub choose_side-requires : goal.choose_side-requires
choose_side-requires c =
    let a = c.args in
    find-ordered a.self _ _ a.which a.size a.mode _ _ c.requires.0

pub find_in_list-requires : goal.find_in_list-requires
find_in_list-requires c =
    let a = c.args in
    list-chosen a.self _ _ a.which a.size a.mode _ _ c.requires.0 c.requires.1 _ c.choose_side.ensures (c.in-Some-List.is ∙ ap (λ (x : Side). Some x) c.in-Some-List.field-0-is)

pub find_in_block-requires : goal.find_in_block-requires
find_in_block-requires c =
    let a = c.args in
    block-chosen a.self _ _ a.which a.size a.mode _ _ c.requires.0 c.requires.1 _ c.choose_side.ensures (c.in-Some-Block.is ∙ ap (λ (x : Side). Some x) c.in-Some-Block.field-0-is)

pub returns-in-None : goal.returns-in-None
returns-in-None c =
    let a = c.args in
    find-2 a.self _ _ a.which a.size a.mode _ _ c.requires.0 c.requires.1 _ c.choose_side.ensures c.in-None.is _ c.none_found.ensures

pub returns-in-Some-List : goal.returns-in-Some-List
returns-in-Some-List c =
    let a = c.args in
    find-list a.self _ _ a.which a.size a.mode _ _ c.requires.0 c.requires.1 _ c.choose_side.ensures (c.in-Some-List.is ∙ ap (λ (x : Side). Some x) c.in-Some-List.field-0-is) _ _ c.find_in_list.ensures

pub returns-in-Some-Block : goal.returns-in-Some-Block
returns-in-Some-Block c =
    let a = c.args in
    find-block a.self _ _ a.which a.size a.mode _ _ c.requires.0 c.requires.1 _ c.choose_side.ensures (c.in-Some-Block.is ∙ ap (λ (x : Side). Some x) c.in-Some-Block.field-0-is) _ _ c.find_in_block.ensures
