use Rattle.std.proofs.Common.{ℕ, List, ◌++◌, length, take, replicate, ◌-◌, ap, sym, map, ◌∙◌}
use Rattle.std.specs.List.{filter}
use Rattle.mark_core.specs.Kept.{has}
use Rattle.mo_types.specs.declared.atom.Atom.{Atom}
use Rattle.image_make.specs.Atoms.{kept_as, raised}
use Rattle.image_make.specs.declared.kept.KeptAtom.{KeptAtom}
use Rattle.image_make.proofs.KeptListLemmas.{file_grows, joined_more}
use Rattle.image_make.proofs.kept.with_file.Goals as goal

pub returns : goal.returns
returns c =
    let literals = c.args.symbols.now.literals in
    let pieces = filter (λ (atom : Atom). has c.args.keys.now atom.key) c.args.file.now.atoms in
    file_grows literals c.before-2.inside.atoms c.from_vec.result (pieces ++ c.args.commons.now) c.before-2.inside.files.items c.resize.new.self.items c.args.at c.len.result c.before-2.invariant
    (c.from_vec.ensures ∙ c.in_ok-kept-2.ensures ∙ ap (λ (xs : List Atom). xs ++ map (raised literals) c.args.commons.now)
    (c.in_ok-kept.ensures ∙ ap (λ (atoms : List Atom). c.into_vec.result.items ++ map (raised literals) (filter (λ (atom : Atom). has c.args.keys.now atom.key) atoms)) c.as_slice.ensures
    ∙ ap (λ (xs : List Atom). xs ++ map (raised literals) pieces) c.into_vec.ensures)
    ∙ joined_more literals c.before-2.inside.atoms pieces c.args.commons.now)
    (c.len.ensures ∙ c.in_ok-kept-2.kept.ok.0 ∙ ap length (sym c.from_vec.ensures))
    (c.in_ok-resize.ensures.items ∙ ap (λ (n : ℕ). take c.len.result c.before-2.inside.files.items ++ replicate (c.len.result - n) c.args.at) c.before-2.inside.files.ok.0)
    ∙ ap (λ (xs : List KeptAtom). xs ++ map (kept_as literals c.args.at) (pieces ++ c.args.commons.now)) c.before-2.view_is
