use Rattle.std.proofs.Common.{List, length, ap, ◌∙◌}
use Rattle.unwind_out.specs.declared.cut.Page.{Page}
use Rattle.unwind_out.specs.Held.{held, section_size}
use Rattle.unwind_out.proofs.Sizes.{size_is}
use Rattle.unwind_out.proofs.size.size.Goals as goal

pub returns-clause-exact : goal.returns-clause-exact
returns-clause-exact c =
    size_is c.args.rows.now c.as_slice-slots.result.now c.as_slice-2.result.now c.as_slice.result.now c.in_ok-pages.pages.items c.section_size.result
    (c.as_slice-slots.ensures.value ∙ c.in_ok-slots.ensures.ok) (c.as_slice-2.ensures.value ∙ c.in_ok-lsdas.ensures) (c.as_slice.ensures.value ∙ c.in_ok-table.ensures.exact) c.in_ok-pages.ensures.cut
    (c.section_size.ensures ∙ ap (λ (pages : List Page). section_size (length c.as_slice-slots.result.now) (length c.as_slice-2.result.now) (held pages)) c.as_slice-3.ensures.value)
