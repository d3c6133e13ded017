use Rattle.image_format.specs.Signature.{blob_index_fields}
use Rattle.image_format.proofs.BigFieldLemmas.{put_big_spelled, blob_index_read}
use Rattle.image_format.proofs.signature.BlobIndex.write.Goals as goal

pub returns-clause-ok : goal.returns-clause-ok
returns-clause-ok c =
    rw (c.put_big_u32-2.ensures.items, c.put_big_u32.ensures.items, c.reserve.ensures.items)
    (put_big_spelled c.args.out.now.items (blob_index_fields c.args.self))

pub returns-clause-read_back : goal.returns-clause-read_back
returns-clause-read_back c rest =
    rw (returns-clause-ok c) (blob_index_read c.args.self c.args.out.now.items rest (c.put_big_u32.ensures.fits, (c.put_big_u32-2.ensures.fits, tt)))
