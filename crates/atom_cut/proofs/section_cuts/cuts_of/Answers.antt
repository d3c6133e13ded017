use Rattle.std.proofs.Common.{◌≡◌, None, [], if◌then◌else◌, get_or, sym, ap, ◌∙◌, rules}
use Rattle.std.proofs.lemmas.Result.{IfOk-weaker}
use Rattle.mo_types.specs.Whole.{literal_size}
use Rattle.atom_cut.proofs.CutLemmas.{literal_cuts_at, symbol_cuts_at}
use Rattle.atom_cut.proofs.section_cuts.cuts_of.Goals as goal
use Rattle.atom_cut.proofs.section_cuts.cuts_of.Goals.{then-object, else-object}

pub returns-in-Some : goal.returns-in-Some
returns-in-Some c =
    IfOk-weaker c.cuts_at_literals.result _ _
    (λ found e d. literal_cuts_at c.args.object.now c.args.index c.index-as_slice-index.result d c.in-Some.size found.items c.requires.index
    (c.index-as_slice-index.is ∙ ap (λ xs. get_or xs c.args.index c.index-as_slice-index.result) c.as_slice.ensures) c.in-Some.ensures e)
    c.cuts_at_literals.ensures

pub returns : goal.returns
returns c =
    let plain : literal_size c.index-as_slice-index.result.kind ≡ None = search rules in
    let begun : c.if-object.begun.now ≡ (if c.args.object.now.subsections then c.args.offsets.now else []) =
    elim c.if-object.branch [ then-object w ↦ search rules | else-object w ↦ search rules ] in
    IfOk-weaker c.cuts_at_symbols.result _ _
    (λ found order d.
    symbol_cuts_at c.args.object.now c.args.index c.index-as_slice-index.result d c.args.offsets.now c.if-object.begun.now found.items c.requires.whole c.requires.index
    (c.index-as_slice-index.is ∙ ap (λ xs. get_or xs c.args.index c.index-as_slice-index.result) c.as_slice.ensures) plain (sym c.if-is_strings.ensures) c.requires.offsets begun order)
    c.cuts_at_symbols.ensures
