use Rattle.mo_format.specs.Relocation.{relocation_info_bytes}
use Rattle.link_gen.proofs.Lists.{putting_goes_on}
use Rattle.link_gen.specs.Parts.{relocation}
use Rattle.link_gen.proofs.text.put_relocations.Goals as goal

pub loop-r-preserved : goal.loop-r-preserved
loop-r-preserved c =
    putting_goes_on relocation_info_bytes (relocation c.args.made) c.args.out.now.items c.loop-r.out.items _ c.loop-r.r c.relocation.result
    c.loop-r.invariant c.relocation.ensures.exact c.in_ok-write.ensures.ok
