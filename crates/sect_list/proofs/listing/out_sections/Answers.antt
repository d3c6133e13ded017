use Rattle.std.proofs.Common.{List, All, subst, sym, ◌≤◌}
use Rattle.mo_types.specs.declared.out_section.OutSection.{OutSection}
use Rattle.sect_list.proofs.Homes.{files_rise}
use Rattle.sect_list.proofs.Low.{all_low, all_steps}
use Rattle.sect_list.proofs.listing.out_sections.Goals as goal

pub gather-requires : goal.gather-requires
gather-requires c = rw c.as_slice.ensures (files_rise c.args.loaded.now.files c.requires)

pub returns-clause-exact : goal.returns-clause-exact
returns-clause-exact c = all_steps c.args.loaded.now.files c.as_slice.result.now c.args.kept.now c.as_slice-2.result.now c.in_ok-gathered.gathered.items c.in_ok-ordered.ordered.items c.led.result.items c.from_vec.result c.as_slice.ensures c.as_slice-2.ensures c.in_ok-gathered.ensures c.in_ok-ordered.ensures c.led.ensures c.from_vec.ensures

pub returns-clause-low : goal.returns-clause-low
returns-clause-low c = λ low.
    let e = all_steps c.args.loaded.now.files c.as_slice.result.now c.args.kept.now c.as_slice-2.result.now c.in_ok-gathered.gathered.items c.in_ok-ordered.ordered.items c.led.result.items c.from_vec.result c.as_slice.ensures c.as_slice-2.ensures c.in_ok-gathered.ensures c.in_ok-ordered.ensures c.led.ensures c.from_vec.ensures in
    subst (λ (sections : List OutSection). All (λ (section : OutSection). section.align ≤ 14) sections) (sym e) (all_low c.args.loaded.now.files c.args.kept.now low)
