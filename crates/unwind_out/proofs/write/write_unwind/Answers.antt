use Rattle.std.proofs.Common.{◌≤◌, List, length, subst}
use Rattle.std.specs.List.{AllByRecursion}
use Rattle.unwind_out.specs.declared.row.UnwindRow.{UnwindRow}
use Rattle.unwind_out.specs.Table.{personalities}
use Rattle.unwind_out.specs.Pages.{IsSection}
use Rattle.unwind_out.specs.Law.{AreFields}
use Rattle.unwind_out.proofs.Law.{found_each, found_no_other}
use Rattle.unwind_out.proofs.Named.{named_each}
use Rattle.unwind_out.proofs.write.write_unwind.Goals as goal

pub returns-clause-found : goal.returns-clause-found
returns-clause-found c = λ small.
    found_each c.args.entries.now c.in_ok-section.section c.requires.some
    (subst (λ (rows : List UnwindRow). IsSection rows c.in_ok-section.section) c.as_slice.ensures c.in_ok-section.ensures.exact)
    (subst (λ (rows : List UnwindRow). length (personalities rows) ≤ 3) c.as_slice.ensures c.in_ok-section.ensures.few)
    (subst (λ (rows : List UnwindRow). AllByRecursion AreFields rows) c.as_slice.ensures c.in_ok-section.ensures.fits) c.requires.apart small

pub returns-clause-no_other : goal.returns-clause-no_other
returns-clause-no_other c = λ small.
    found_no_other c.args.entries.now c.in_ok-section.section c.requires.some
    (subst (λ (rows : List UnwindRow). IsSection rows c.in_ok-section.section) c.as_slice.ensures c.in_ok-section.ensures.exact)
    (subst (λ (rows : List UnwindRow). length (personalities rows) ≤ 3) c.as_slice.ensures c.in_ok-section.ensures.few)
    (subst (λ (rows : List UnwindRow). AllByRecursion AreFields rows) c.as_slice.ensures c.in_ok-section.ensures.fits) c.requires.apart small

pub returns-clause-named : goal.returns-clause-named
returns-clause-named c =
    named_each c.args.entries.now c.in_ok-section.section
    (subst (λ (rows : List UnwindRow). IsSection rows c.in_ok-section.section) c.as_slice.ensures c.in_ok-section.ensures.exact)
    (subst (λ (rows : List UnwindRow). length (personalities rows) ≤ 3) c.as_slice.ensures c.in_ok-section.ensures.few)
    (subst (λ (rows : List UnwindRow). AllByRecursion AreFields rows) c.as_slice.ensures c.in_ok-section.ensures.fits)
