use Rattle.patch.proofs.LeastLemmas.{element_at}
use Rattle.patch.proofs.WriteLemmas.{writing_goes_on, writing_stops}
use Rattle.patch.proofs.atom.write_fields.Goals as goal

pub returns-in-Err-clause-stopped : goal.returns-in-Err-clause-stopped
returns-in-Err-clause-stopped c = λ no. writing_stops c.args.address c.args.bytes.now c.args.mets.now c.loop-met.met-index c.loop-met.bytes _
    c.field_of.result c.in-Err.field-0 c.loop-met.invariant c.requires.fields c.loop-met-test.true
    (element_at c.args.mets.now c.loop-met.met-index _ _ c.loop-met-test.true)
    c.field_of.ensures.value c.in-Err.is

pub loop-met-preserved : goal.loop-met-preserved
loop-met-preserved c =
    writing_goes_on c.args.address c.args.bytes.now c.args.mets.now c.loop-met.met-index c.loop-met.bytes c.put_field.new.bytes _
    c.field_of.result c.in-Ok.field c.loop-met.invariant c.requires.fields c.loop-met-test.true
    (element_at c.args.mets.now c.loop-met.met-index _ _ c.loop-met-test.true)
    c.field_of.ensures.value c.in-Ok.is c.in-Ok.ensures.small c.put_field.ensures
