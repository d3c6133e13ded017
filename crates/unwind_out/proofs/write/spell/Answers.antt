use Rattle.std.proofs.Common.{refl}
use Rattle.unwind_out.proofs.Spelling.{section_is}
use Rattle.unwind_out.proofs.write.spell.Goals as goal

pub returns : goal.returns
returns c =
    section_is c.args.slots.now c.args.lsdas.now c.args.end c.args.pages.now c.info_header.result c.places-places.result.lsdas c.places-places.result.pages
    (record { function_offset = c.args.end; page_offset = 0; lsda_offset = c.places-places.result.pages })
    c.in_ok-out.out.items c.write.new.out.items c.put_numbers.new.out.items c.put_index.new.out.items c.write-2.new.out.items c.put_lsdas.new.out.items c.put_pages.new.out.items
    c.places-places.ensures.lsdas c.places-places.ensures.pages c.in_ok-out.ensures.items c.info_header.ensures c.in_ok-write.ensures.ok c.in_ok-put_numbers.ensures
    c.in_ok-put_index.ensures refl c.in_ok-write-2.ensures.ok c.in_ok-put_lsdas.ensures c.in_ok-put_pages.ensures
