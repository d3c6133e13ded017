use Rattle.std.proofs.Common.{List, position, ap, ◌∙◌}
use Rattle.mo_types.specs.declared.out_section.OutSection.{OutSection}
use Rattle.tlv_plan.specs.Template.{greatest_align, is_thread_local, thread_local}
use Rattle.sect_list.proofs.Ordering.{leads_one, within_place}
use Rattle.sect_list.proofs.lead.led.Goals as goal

pub raise-requires : goal.raise-requires
raise-requires c = within_place c.args.sections.items c.in-Some.first (c.in-Some.ensures ∙ ap (λ (xs : List OutSection). position is_thread_local xs) c.as_slice-2.ensures.value)

pub returns-in-Some : goal.returns-in-Some
returns-in-Some c =
    leads_one c.args.sections.items c.raise.new.sections.items c.greatest_align-greatest.result c.in-Some.first
    (c.greatest_align-greatest.ensures ∙ ap (λ (xs : List OutSection). greatest_align (thread_local xs)) c.as_slice.ensures.value)
    (c.in-Some.ensures ∙ ap (λ (xs : List OutSection). position is_thread_local xs) c.as_slice-2.ensures.value)
    c.raise.ensures
