use Rattle.std.proofs.Common.{sym, subst, List}
use Rattle.mo_types.specs.declared.atom.Atom.{Atom}
use Rattle.sym_out.specs.inner.Standing.{Begins}
use Rattle.sym_out.proofs.Starts.{one_less, place_found}
use Rattle.sym_out.proofs.cursor.Cursor.start_of.Goals as goal

pub returns : goal.returns
returns c = λ index.
    place_found c.args.file.now c.in_ok-index.index c.args.number c.from-number.result c.args.value c.saturating_sub-offset.result c.in_ok-at.at c.in_ok-section.section.now
    c.requires c.from-number.ensures (one_less c.args.number c.from.result c.in_ok-index.index c.from.ensures c.in_ok-index.ensures)
    (sym c.in_ok-section.ensures.value) c.saturating_sub-offset.ensures
    (subst (λ (atoms : List Atom). Begins atoms c.from-number.result c.saturating_sub-offset.result c.in_ok-at.at) c.as_slice.ensures c.in_ok-at.ensures) index
