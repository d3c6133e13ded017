use Rattle.std.proofs.Common.{rules, arith}
use Rattle.std.proofs.lemmas.Fn.{always_returns_same}
use Rattle.mo_types.specs.Keys.{compare_keys}
use Rattle.mo_types.specs.declared.key.AtomKey.{AtomKey}
use Rattle.mo_types.proofs.KeyOrder.{compare_keys_total}
use Rattle.atom_index.proofs.Keys.{found_key, no_key, sorted_from_rising}
use Rattle.image_make.proofs.CommonLemmas.{far_noted, missing_noted, none_is, noted_before, noted_here, some_is}
use Rattle.image_make.proofs.commons.noted.Goals as goal

pub returns-then-winner-ne-COMMON_SECTION : goal.returns-then-winner-ne-COMMON_SECTION
returns-then-winner-ne-COMMON_SECTION c = λ winners are. far_noted winners c.args.winner.now c.args.keys.now c.args.before.items c.requires.commons c.if-winner-ne-COMMON_SECTION.true are

pub returns-then-is_none : goal.returns-then-is_none
returns-then-is_none c = λ winners are.
    let by_key = c.in-Ok.ensures.position (λ (key : AtomKey). compare_keys key c.args.winner.now.atom) (always_returns_same _ _ _ (λ a r g called. search rules)) in
    noted_here winners c.args.winner.now c.args.keys.now c.args.before.items c.in-Ok.at c.index.result.now c.common_of.result c.requires.keys c.in-Ok.ensures.bound
    (λ d. found_key (λ (key : AtomKey). key) c.args.keys.now c.args.winner.now.atom c.in-Ok.at d by_key) c.index.ensures (omega (arith, c.in-Ok.ensures.bound, c.requires.length)) (none_is c.index.result.now c.if-is_none.ensures) c.common_of.ensures are

pub returns-else-is_none : goal.returns-else-is_none
returns-else-is_none c = λ winners are.
    let by_key = c.in-Ok.ensures.position (λ (key : AtomKey). compare_keys key c.args.winner.now.atom) (always_returns_same _ _ _ (λ a r g called. search rules)) in
    noted_before winners c.args.winner.now c.args.keys.now c.args.before.items c.in-Ok.at c.index.result.now c.requires.keys c.in-Ok.ensures.bound
    (λ d. found_key (λ (key : AtomKey). key) c.args.keys.now c.args.winner.now.atom c.in-Ok.at d by_key) c.index.ensures (omega (arith, c.in-Ok.ensures.bound, c.requires.length)) (some_is c.index.result.now c.if-is_none.ensures) are

pub returns-in_default : goal.returns-in_default
returns-in_default c = λ winners are.
    let by_key = c.in_default.ensures.position (λ (key : AtomKey). compare_keys key c.args.winner.now.atom) (always_returns_same _ _ _ (λ a r g called. search rules)) in
    missing_noted winners c.args.winner.now c.args.keys.now c.args.before.items
    (no_key (λ (key : AtomKey). key) c.args.keys.now c.args.winner.now.atom c.in_default.field-0 (sorted_from_rising compare_keys_total c.args.keys.now c.requires.keys) by_key) are
