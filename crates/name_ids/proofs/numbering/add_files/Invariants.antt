use Rattle.std.proofs.Common.{drop, take}
use Rattle.name_ids.specs.Names.{external_names, numbers_in}
use Rattle.name_ids.specs.inner.Staying.{AllStay}
use Rattle.name_ids.proofs.Gathering.{IsAdding}
use Rattle.name_ids.proofs.numbering.add_files.Given as goal

abbrev pub invariant-loop-file : goal.invariant-loop-file
invariant-loop-file l =
    IsAdding l.fn.names.keys l.names.keys (external_names l.files) (external_names (drop l.file-index l.files))
    × AllStay numbers_in l.names.keys (take l.file-index l.files) l.lists.items
