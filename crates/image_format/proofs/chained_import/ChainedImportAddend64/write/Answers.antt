use Rattle.std.proofs.Common.{append_assoc, append-nil}
use Rattle.image_format.proofs.ImportLemmas.{chained_import_addend64_read}
use Rattle.image_format.proofs.chained_import.ChainedImportAddend64.write.Goals as goal

pub returns-clause-ok : goal.returns-clause-ok
returns-clause-ok c =
    rw (c.put_u64-2.ensures.items, c.put_u64.ensures.items, c.wide_pack.ensures, c.reserve.ensures.items)
    (simp (append_assoc, append-nil))

pub returns-clause-read_back : goal.returns-clause-read_back
returns-clause-read_back c rest =
    rw (returns-clause-ok c) (chained_import_addend64_read c.args.self c.args.out.now.items rest c.requires c.put_u64-2.ensures.fits)
