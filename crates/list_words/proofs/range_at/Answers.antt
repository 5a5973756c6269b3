-- `range_at` meets its contract: each way out is a case of what the words say at an address. Assumes nothing.
use native.Mathlib.Omega.{arith}
use Rattle.list_words.proofs.Stepping.{begun, placed, second_word, step_block, steps}
use Rattle.list_words.proofs.range_at.Goals as goal

pub may_begin-requires : goal.may_begin-requires
may_begin-requires c = (placed c.args.arena _ c.requires.ready).good

pub returns-then-not-may_begin : goal.returns-then-not-may_begin
returns-then-not-may_begin c = search steps

pub word_at-i-requires-clause-base_value : goal.word_at-i-requires-clause-base_value
word_at-i-requires-clause-base_value c = (placed c.args.arena _ c.requires.ready).base-8

pub word_at-i-requires-clause-base_le_at : goal.word_at-i-requires-clause-base_le_at
word_at-i-requires-clause-base_le_at c = let h = begun c.args.arena _ c.requires.ready _ _ c.requires.base_le_low _ c.may_begin.ensures c.if-not-may_begin.false in omega arith

pub bounds-words-i : goal.bounds-words-i
bounds-words-i c = let h = begun c.args.arena _ c.requires.ready _ _ c.requires.base_le_low _ c.may_begin.ensures c.if-not-may_begin.false in omega arith

pub plus-end-requires : goal.plus-end-requires
plus-end-requires c = let h = begun c.args.arena _ c.requires.ready _ _ c.requires.base_le_low _ c.may_begin.ensures c.if-not-may_begin.false in omega arith

pub may_end-requires : goal.may_end-requires
may_end-requires c = let h = begun c.args.arena _ c.requires.ready _ _ c.requires.base_le_low _ c.may_begin.ensures c.if-not-may_begin.false in omega arith

pub plus-least-requires : goal.plus-least-requires
plus-least-requires c = let h = begun c.args.arena _ c.requires.ready _ _ c.requires.base_le_low _ c.may_begin.ensures c.if-not-may_begin.false in omega arith

pub returns-then-lt : goal.returns-then-lt
returns-then-lt c = let h = begun c.args.arena _ c.requires.ready _ _ c.requires.base_le_low _ c.may_begin.ensures c.if-not-may_begin.false in search steps

pub bounds-words-i-2 : goal.bounds-words-i-2
bounds-words-i-2 c = let h = begun c.args.arena _ c.requires.ready _ _ c.requires.base_le_low _ c.may_begin.ensures c.if-not-may_begin.false in search second_word

pub returns-then-lt-2 : goal.returns-then-lt-2
returns-then-lt-2 c = let h = begun c.args.arena _ c.requires.ready _ _ c.requires.base_le_low _ c.may_begin.ensures c.if-not-may_begin.false in search steps

pub may_end-requires-2 : goal.may_end-requires-2
may_end-requires-2 c = let h = begun c.args.arena _ c.requires.ready _ _ c.requires.base_le_low _ c.may_begin.ensures c.if-not-may_begin.false in omega arith

pub returns-then-not-may_end-2 : goal.returns-then-not-may_end-2
returns-then-not-may_end-2 c = let h = begun c.args.arena _ c.requires.ready _ _ c.requires.base_le_low _ c.may_begin.ensures c.if-not-may_begin.false in search steps

pub returns-then-not-may_end : goal.returns-then-not-may_end
returns-then-not-may_end c = search steps

pub returns-then-is_tagged : goal.returns-then-is_tagged
returns-then-is_tagged c = search steps

pub returns : goal.returns
returns c =
    let h = begun c.args.arena _ c.requires.ready _ _ c.requires.base_le_low _ c.may_begin.ensures c.if-not-may_begin.false in
    step_block _ _ _ _ _ _ _ _ _ c.may_begin.ensures c.if-not-may_begin.false c.word_at-i.ensures c.is_tagged.ensures
    c.if-is_tagged.false h.from _ _ c.new-2.ensures c.plus-least.ensures _ c.new-end.ensures _ c.lt-2.ensures c.if-lt-2.false
    _ c.may_end-2.ensures c.if-not-may_end-2.false _ c.untagged-2.ensures
