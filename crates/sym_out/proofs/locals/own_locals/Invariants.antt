use Rattle.std.proofs.Common.{◌≡◌, take}
use Rattle.std.specs.List.{filter_map}
use Rattle.sym_out.specs.Files.{symbols_of}
use Rattle.sym_out.specs.Symbols.{own_local}
use Rattle.sym_out.proofs.locals.own_locals.Given as goal

abbrev pub invariant-loop-file : goal.invariant-loop-file
invariant-loop-file l = l.locals.items ≡ filter_map (own_local l.sites) (symbols_of (take l.file-index l.files))
