use Rattle.mo_format.specs.Linkedit.{dysymtab_command_fields}
use Rattle.mo_format.proofs.FieldLemmas.{put_spelled}
use Rattle.mo_format.proofs.StructureLemmas.{dysymtab_command_read}
use Rattle.mo_format.proofs.linkedit.DysymtabCommand.write.Goals as goal

pub returns-clause-ok : goal.returns-clause-ok
returns-clause-ok c =
    rw (c.put_u32-20.ensures.items, c.put_u32-19.ensures.items, c.put_u32-18.ensures.items, c.put_u32-17.ensures.items, c.put_u32-16.ensures.items, c.put_u32-15.ensures.items, c.put_u32-14.ensures.items, c.put_u32-13.ensures.items, c.put_u32-12.ensures.items, c.put_u32-11.ensures.items, c.put_u32-10.ensures.items, c.put_u32-9.ensures.items, c.put_u32-8.ensures.items, c.put_u32-7.ensures.items, c.put_u32-6.ensures.items, c.put_u32-5.ensures.items, c.put_u32-4.ensures.items, c.put_u32-3.ensures.items, c.put_u32-2.ensures.items, c.put_u32.ensures.items, c.reserve.ensures.items)
    (put_spelled c.args.out.now.items (dysymtab_command_fields c.args.self))

pub returns-clause-read_back : goal.returns-clause-read_back
returns-clause-read_back c rest =
    rw (returns-clause-ok c) (dysymtab_command_read c.args.self c.args.out.now.items rest (c.put_u32.ensures.fits, (c.put_u32-2.ensures.fits, (c.put_u32-3.ensures.fits, (c.put_u32-4.ensures.fits, (c.put_u32-5.ensures.fits, (c.put_u32-6.ensures.fits, (c.put_u32-7.ensures.fits, (c.put_u32-8.ensures.fits, (c.put_u32-9.ensures.fits, (c.put_u32-10.ensures.fits, (c.put_u32-11.ensures.fits, (c.put_u32-12.ensures.fits, (c.put_u32-13.ensures.fits, (c.put_u32-14.ensures.fits, (c.put_u32-15.ensures.fits, (c.put_u32-16.ensures.fits, (c.put_u32-17.ensures.fits, (c.put_u32-18.ensures.fits, (c.put_u32-19.ensures.fits, (c.put_u32-20.ensures.fits, tt)))))))))))))))))))))
