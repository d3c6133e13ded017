use Rattle.std.proofs.Common.{◌+◌, ◌<◌, ◌≤◌, ◌^◌, length, arith, subst, rules, ◌∙◌, List, IsTrue}
use Rattle.std.specs.Prelude.{IfOk, sum_by}
use Rattle.fixup_chain.specs.Chained.{AreMany}
use Rattle.fixup_chain.specs.declared.chains.Fixup.{Fixup}
use Rattle.mo_types.specs.declared.loaded.LoadedFile.{LoadedFile}
use Rattle.resolve.specs.Table.{goals_of}
use Rattle.ref_meet.proofs.BindLemmas.{binds_are, few_binds}
use Rattle.ref_meet.proofs.binds.has_many_binds.Goals as goal

pub returns-then-most_binds-lt-IMPORTS-clause-all : goal.returns-then-most_binds-lt-IMPORTS-clause-all
returns-then-most_binds-lt-IMPORTS-clause-all c many =
    let few : c.most_binds.result < 2 ^ 24 = omega (arith, c.if-most_binds-lt-IMPORTS.true) in
    let all : c.saturating_add-slot_count.result + sum_by (λ (file : LoadedFile). length file.refs) c.args.referring.now.loaded.now.files ≤ c.most_binds.result = search rules in
    let most : (length c.args.slots.now.got + length c.args.slots.now.tlv) + sum_by (λ (file : LoadedFile). length file.refs) c.args.referring.now.loaded.now.files ≤ c.most_binds.result =
    omega (arith, all, few, c.saturating_add-slot_count.ensures, c.len.ensures, c.len-2.ensures) in
    absurd (few_binds c.args.referring.now.loaded.now.files c.args.referring.now.symbols.now.literals c.args.referring.now.keys.now (goals_of c.args.referring.now.goals.now) c.args.slots.now c.most_binds.result most few many)

pub returns-clause-only : goal.returns-clause-only
returns-clause-only c =
    subst (λ (xs : List Fixup). IfOk c.has_many_imports-2.result (λ many. IsTrue many → AreMany xs)) (
    c.from_vec.ensures
    ∙ binds_are c.args.referring.now.loaded.now.files c.args.referring.now.symbols.now.literals c.args.referring.now.keys.now (goals_of c.args.referring.now.goals.now) c.args.slots.now
    c.new-all.result.items c.add_slots.new.out.items c.add_slots-2.new.out.items c.add_files.new.out.items
    c.new-all.ensures.items (search rules) (search rules) c.in_ok-add_files.ensures
    ) c.has_many_imports-2.ensures.only

pub returns-clause-all : goal.returns-clause-all
returns-clause-all c =
    subst (λ (xs : List Fixup). IfOk c.has_many_imports-2.result (λ many. AreMany xs → IsTrue many)) (
    c.from_vec.ensures
    ∙ binds_are c.args.referring.now.loaded.now.files c.args.referring.now.symbols.now.literals c.args.referring.now.keys.now (goals_of c.args.referring.now.goals.now) c.args.slots.now
    c.new-all.result.items c.add_slots.new.out.items c.add_slots-2.new.out.items c.add_files.new.out.items
    c.new-all.ensures.items (search rules) (search rules) c.in_ok-add_files.ensures
    ) c.has_many_imports-2.ensures.all
