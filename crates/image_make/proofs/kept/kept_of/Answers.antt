use Rattle.std.proofs.Common.{List, ap, sym, ◌∙◌, subst}
use Rattle.std.specs.List.{filter}
use Rattle.std.specs.List.Sorted.{IsStrictlySortedBy}
use Rattle.std.specs.Ordering.{is_eq, on}
use Rattle.mo_types.specs.Keys.{compare_files, compare_keys}
use Rattle.mo_types.specs.declared.atom.Atom.{Atom}
use Rattle.image_make.proofs.CommonLemmas.{commons_are, commons_rise}
use Rattle.image_make.proofs.KeptLemmas.{file_more}
use Rattle.image_make.proofs.kept.kept_of.Goals as goal

pub commons_of-own-requires : goal.commons_of-own-requires
commons_of-own-requires c =
    subst (λ (atoms : List Atom). IsStrictlySortedBy (on (λ (atom : Atom). atom.key) compare_keys) atoms) (sym c.requires.commons)
    (commons_rise c.args.symbols.now.winners c.args.keys.now c.requires.keys)

pub loop-at-preserved : goal.loop-at-preserved
loop-at-preserved c =
    let file = c.index-files-at.result in
    file_more c.args.symbols.now.literals c.args.symbols.now.winners c.args.keys.now c.loop-at.kept c.in_ok-kept-2.kept c.commons_of-own.result.now c.args.files.now c.loop-at.at file c.loop-at.invariant c.loop-at-test.true c.index-files-at.is
    (c.commons_of-own.ensures ∙ ap (λ (atoms : List Atom). filter (λ (atom : Atom). is_eq (compare_files atom.key.file file.id)) atoms) c.requires.commons
    ∙ commons_are c.args.symbols.now.winners c.args.keys.now file.id)
    c.in_ok-kept-2.ensures
