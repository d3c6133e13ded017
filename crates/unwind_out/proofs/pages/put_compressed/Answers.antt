use Rattle.std.proofs.Common.{length, refl}
use Rattle.unwind_out.specs.Pages.{compressed_page_header}
use Rattle.unwind_out.proofs.Spelling.{page_is}
use Rattle.unwind_out.proofs.pages.put_compressed.Goals as goal

pub returns : goal.returns
returns c =
    page_is c.args.rows.now c.first_function.result c.args.numbers.now c.args.out.now.items c.write.new.out.items c.put_compressed_rows.new.out.items c.put_numbers.new.out.items
    (compressed_page_header (length c.args.rows.now) (length c.args.numbers.now)) c.requires.encodings c.first_function.ensures refl
    c.in_ok-write.ensures.ok c.in_ok-put_compressed_rows.ensures c.in_ok-put_numbers.ensures
