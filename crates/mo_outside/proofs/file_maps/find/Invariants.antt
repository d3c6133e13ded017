use Rattle.std.proofs.Common.{◌≡◌, drop}
use Rattle.std.specs.Ordering.{nat_cmp}
use Rattle.std.specs.Cmp.Lexicographic.{slice_cmp}
use Rattle.std.specs.FinMap.{find}
use Rattle.mo_outside.specs.Files.{file_at}
use Rattle.mo_outside.specs.Memory.{files_of}
use Rattle.mo_outside.proofs.file_maps.find.Given as goal

abbrev pub invariant-loop-name : goal.invariant-loop-name
invariant-loop-name l =
    file_at (files_of l.pairs) l.path ≡ find (slice_cmp nat_cmp) l.path (drop l.name-index l.pairs)
