use Rattle.std.proofs.Common.{◌∙◌}
use Rattle.liveness.proofs.AtomSetLemmas.{all_win, plain_are}
use Rattle.liveness.proofs.starting.with_plain_roots.Goals as goal

pub sets_of-requires : goal.sets_of-requires
sets_of-requires c =
    all_win c.args.symbols.now c.args.file.now c.as_slice.result.now c.as_slice-2.result.now (c.as_slice.ensures.value ∙ c.in_ok-external.ensures.external) (c.as_slice-2.ensures.value ∙ c.in_ok-external.ensures.winning)

pub returns : goal.returns
returns c =
    plain_are c.args.symbols.now c.args.file.now c.args.before.items c.in_ok-roots.roots.items c.in_ok-with_commons.field-0.items
    c.as_slice.result.now c.in_ok-all.all c.as_slice-2.result.now c.in_ok-all.taken_in c.as_slice-3.result.now c.as_slice-atoms.result.now
    (c.as_slice.ensures.value ∙ c.in_ok-external.ensures.external) (c.as_slice-2.ensures.value ∙ c.in_ok-external.ensures.winning) (c.as_slice-3.ensures.value ∙ c.in_ok-external.ensures.winning)
    c.in_ok-all.ensures c.as_slice-atoms.ensures c.in_ok-roots.ensures c.in_ok-with_commons.ensures
