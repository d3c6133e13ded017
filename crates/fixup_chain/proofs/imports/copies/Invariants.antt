use Rattle.std.proofs.Common.{◌≡◌, take}
use Rattle.fixup_chain.proofs.imports.copies.Given as goal

abbrev pub invariant-loop-import : goal.invariant-loop-import
invariant-loop-import l = l.copies.items ≡ take l.import-index l.imports
