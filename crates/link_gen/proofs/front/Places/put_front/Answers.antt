use Rattle.link_gen.proofs.BytesLemmas.{front_written}
use Rattle.link_gen.proofs.front.Places.put_front.Goals as goal

pub returns : goal.returns
returns c =
    front_written c.args.self _ _ _ _ _ c.segment.result c.section.result c.symtab.result c.segment.ensures c.section.ensures c.symtab.ensures
    c.in_ok-write.ensures.ok c.in_ok-write-2.ensures.ok c.in_ok-write-3.ensures.ok c.in_ok-write-4.ensures.ok
