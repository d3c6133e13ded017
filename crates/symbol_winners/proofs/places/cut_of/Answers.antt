use Rattle.std.proofs.Common.{◌∙◌}
use Rattle.reloc_read.proofs.LookupLemmas.{finds_some, rising_atoms}
use Rattle.reloc_read.proofs.PointLemmas.{start_is_cut_of}
use Rattle.symbol_winners.proofs.places.cut_of.Goals as goal

pub count_up_to-after-requires : goal.count_up_to-after-requires
count_up_to-after-requires c = rising_atoms c.args.file.now.object c.args.file.now.id c.as_slice-atoms.result.now (c.as_slice-atoms.ensures ∙ c.requires.whole.atoms)

pub last_start-requires-clause-some : goal.last_start-requires-clause-some
last_start-requires-clause-some c =
    finds_some c.args.file.now.object c.args.file.now.id c.args.index c.args.offset c.count_up_to-after.result c.as_slice-atoms.result.now (c.as_slice-atoms.ensures ∙ c.requires.whole.atoms) c.requires.index c.requires.linked c.count_up_to-after.ensures.bound c.count_up_to-after.ensures.point

pub returns : goal.returns
returns c = λ d.
    start_is_cut_of c.args.file.now.object c.args.file.now.id c.args.index d c.args.offset c.count_up_to-after.result c.as_slice-atoms.result.now _ (c.as_slice-atoms.ensures ∙ c.requires.whole.atoms) c.requires.index (c.requires.linked d) c.count_up_to-after.ensures.bound c.count_up_to-after.ensures.point c.last_start.ensures
