use Rattle.std.proofs.Common.{List, ap, get_or, sym, ◌∙◌}
use Rattle.std.proofs.lemmas.List.{get_or_default}
use Rattle.mo_types.specs.declared.object.Symbol.{Symbol}
use Rattle.sym_out.proofs.Naming.{absent, noted, passed}
use Rattle.sym_out.proofs.names.note.Goals as goal

pub returns-in-Some-find-clause-noted : goal.returns-in-Some-find-clause-noted
returns-in-Some-find-clause-noted c = λ f d are.
    noted f c.args.placed.now c.args.names.now.items
    (record { file = c.args.file.now; index = c.args.index; symbol = get_or c.args.file.now.object.symbols c.args.index d })
    c.in-Some.atom c.in-Some-find.at c.index_mut-name.result.now c.or.result _
    c.find.ensures.once c.in-Some-find.ensures.found (sym (c.named_by.ensures d) ∙ c.in-Some.is)
    c.index_mut-name.ensures.value c.or.ensures
    (c.index-as_slice-index.is
    ∙ ap (λ (xs : List Symbol). get_or xs c.args.index c.index-as_slice-index.result) c.as_slice.ensures
    ∙ get_or_default c.args.file.now.object.symbols c.args.index c.index-as_slice-index.result d c.requires.index)
    are

pub returns-in_default-find-clause-noted : goal.returns-in_default-find-clause-noted
returns-in_default-find-clause-noted c = λ f d are.
    absent f c.args.placed.now c.args.names.now.items
    (record { file = c.args.file.now; index = c.args.index; symbol = get_or c.args.file.now.object.symbols c.args.index d })
    c.in-Some.atom c.in_default-find.ensures.found (sym (c.named_by.ensures d) ∙ c.in-Some.is) are

pub returns-in_default-clause-noted : goal.returns-in_default-clause-noted
returns-in_default-clause-noted c = λ f d are.
    passed f c.args.placed.now c.args.names.now.items
    (record { file = c.args.file.now; index = c.args.index; symbol = get_or c.args.file.now.object.symbols c.args.index d })
    (sym (c.named_by.ensures d) ∙ c.in_default.is) are
