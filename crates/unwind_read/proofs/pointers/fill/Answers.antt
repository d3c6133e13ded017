use Rattle.std.proofs.Common.{◌<◌, arith, false, get_or, length}
use Rattle.std.proofs.lemmas.List.{get_or_default}
use Rattle.mo_types.specs.declared.object.RawReloc.{RawReloc}
use Rattle.unwind_read.proofs.RowLemmas.{filled_more}
use Rattle.unwind_read.proofs.pointers.fill.Goals as goal

pub loop-reloc-preserved : goal.loop-reloc-preserved
loop-reloc-preserved c =
    let d : RawReloc = record { address = 0; number = 0; pcrel = false; length = 0; external = false; kind = 0 } in
    let reloc : RawReloc = get_or c.args.relocs.now c.loop-reloc.reloc-index d in
    let within : c.loop-reloc.reloc-index < length c.args.relocs.now = omega arith in
    filled_more c.args.section.now c.args.relocs.now c.loop-reloc.reloc-index c.loop-reloc.rows c.put.new.rows c.loop-reloc.fault c.lesser-fault.result c.put.result reloc c.loop-reloc.invariant within
    (get_or_default c.args.relocs.now c.loop-reloc.reloc-index d reloc within) c.put.ensures.fault c.put.ensures.rows c.lesser-fault.ensures
