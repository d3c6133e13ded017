use Rattle.image_format.specs.Signature.{code_directory_fields}
use Rattle.image_format.proofs.BigFieldLemmas.{put_big_spelled, code_directory_read}
use Rattle.image_format.proofs.signature.CodeDirectory.write.Goals as goal

pub returns-clause-ok : goal.returns-clause-ok
returns-clause-ok c =
    rw (c.put_big_u64-4.ensures.items, c.put_big_u64-3.ensures.items, c.put_big_u64-2.ensures.items, c.put_big_u64.ensures.items, c.put_big_u32-13.ensures.items, c.put_big_u32-12.ensures.items, c.put_big_u32-11.ensures.items, c.put_big_u32-10.ensures.items, c.put_big_u8-4.ensures.items, c.put_big_u8-3.ensures.items, c.put_big_u8-2.ensures.items, c.put_big_u8.ensures.items, c.put_big_u32-9.ensures.items, c.put_big_u32-8.ensures.items, c.put_big_u32-7.ensures.items, c.put_big_u32-6.ensures.items, c.put_big_u32-5.ensures.items, c.put_big_u32-4.ensures.items, c.put_big_u32-3.ensures.items, c.put_big_u32-2.ensures.items, c.put_big_u32.ensures.items, c.reserve.ensures.items)
    (put_big_spelled c.args.out.now.items (code_directory_fields c.args.self))

pub returns-clause-read_back : goal.returns-clause-read_back
returns-clause-read_back c rest =
    rw (returns-clause-ok c) (code_directory_read c.args.self c.args.out.now.items rest (c.put_big_u32.ensures.fits, (c.put_big_u32-2.ensures.fits, (c.put_big_u32-3.ensures.fits, (c.put_big_u32-4.ensures.fits, (c.put_big_u32-5.ensures.fits, (c.put_big_u32-6.ensures.fits, (c.put_big_u32-7.ensures.fits, (c.put_big_u32-8.ensures.fits, (c.put_big_u32-9.ensures.fits, (c.put_big_u8.ensures.fits, (c.put_big_u8-2.ensures.fits, (c.put_big_u8-3.ensures.fits, (c.put_big_u8-4.ensures.fits, (c.put_big_u32-10.ensures.fits, (c.put_big_u32-11.ensures.fits, (c.put_big_u32-12.ensures.fits, (c.put_big_u32-13.ensures.fits, (c.put_big_u64.ensures.fits, (c.put_big_u64-2.ensures.fits, (c.put_big_u64-3.ensures.fits, (c.put_big_u64-4.ensures.fits, tt))))))))))))))))))))))
