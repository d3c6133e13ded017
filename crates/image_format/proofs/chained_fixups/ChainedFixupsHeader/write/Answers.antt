use Rattle.std.proofs.Common.{append_assoc, append-nil}
use Rattle.image_format.proofs.ChainedLemmas.{chained_fixups_header_read}
use Rattle.image_format.proofs.chained_fixups.ChainedFixupsHeader.write.Goals as goal

pub returns-clause-ok : goal.returns-clause-ok
returns-clause-ok c =
    rw (c.put_u32-7.ensures.items, c.put_u32-6.ensures.items, c.put_u32-5.ensures.items, c.put_u32-4.ensures.items, c.put_u32-3.ensures.items, c.put_u32-2.ensures.items, c.put_u32.ensures.items, c.reserve.ensures.items)
    (simp (append_assoc, append-nil))

pub returns-clause-read_back : goal.returns-clause-read_back
returns-clause-read_back c rest =
    rw (returns-clause-ok c) (chained_fixups_header_read c.args.self c.args.out.now.items rest (c.put_u32.ensures.fits, (c.put_u32-2.ensures.fits, (c.put_u32-3.ensures.fits, (c.put_u32-4.ensures.fits, (c.put_u32-5.ensures.fits, (c.put_u32-6.ensures.fits, (c.put_u32-7.ensures.fits, tt))))))))
