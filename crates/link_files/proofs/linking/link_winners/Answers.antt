use Rattle.link_steps.proofs.StepLemmas.{checks_ends, checks_on, some_on, unless_ends, unless_on}
use Rattle.link_files.proofs.BoundLemmas.{files_rise, refers_in}
use Rattle.link_files.proofs.linking.link_winners.Goals as goal

pub few_imports-requires-clause-files : goal.few_imports-requires-clause-files
few_imports-requires-clause-files g c = files_rise c.referring-referring.result c.args.inputs.now.named.now.loaded c.referring-referring.ensures.loaded c.requires.whole

pub returns-in_err-all_defined : goal.returns-in_err-all_defined
returns-in_err-all_defined g c =
    some_on _ _ _ _ (rw c.in_ok-goals.ensures at c.in_ok-keys.ensures)
    (unless_ends _ _ _ _ (rw c.in_ok-goals.ensures at c.in_err-all_defined.ensures) c.from_residual-in_err-all_defined.ensures.1)

pub returns-in_err-none_by_dwarf : goal.returns-in_err-none_by_dwarf
returns-in_err-none_by_dwarf g c =
    some_on _ _ _ _ (rw c.in_ok-goals.ensures at c.in_ok-keys.ensures)
    (unless_on _ _ _ (rw c.in_ok-goals.ensures at c.in_ok-all_defined.ensures)
    (checks_ends _ _ _ _ (rw (c.as_slice.ensures, c.in_ok-unwinds.ensures) at c.in_err-none_by_dwarf.ensures) c.from_residual-in_err-none_by_dwarf.ensures.1))

pub returns-in_err-personalities : goal.returns-in_err-personalities
returns-in_err-personalities g c =
    some_on _ _ _ _ (rw c.in_ok-goals.ensures at c.in_ok-keys.ensures)
    (unless_on _ _ _ (rw c.in_ok-goals.ensures at c.in_ok-all_defined.ensures)
    (checks_on _ _ _ (rw c.in_ok-unwinds.ensures at c.in_ok-none_by_dwarf.ensures)
    (checks_ends _ _ _ _ (rw (c.in_ok-unwinds.ensures, c.in_ok-goals.ensures) at c.in_err-personalities.ensures.told) c.from_residual-in_err-personalities.ensures.1)))

pub returns-in_err-few_imports : goal.returns-in_err-few_imports
returns-in_err-few_imports g c =
    let is = c.referring-referring.ensures in
    let refers = refers_in c.referring-referring.result c.args.inputs.now.command.now c.args.inputs.now.libs.now c.args.inputs.now.named.now.loaded c.in_ok-goals.goals c.args.symbols.now c.in_ok-keys.keys c.in_ok-entry.entry
    (record { of_loaded = is.loaded; of_goals = is.goals; of_symbols = is.symbols; of_keys = is.keys; of_entry = is.entry }) c.in_ok-goals.ensures (rw c.as_slice-start.ensures at c.in_ok-entry.ensures) in
    let all = c.in_ok-slots.ensures _ (rw (c.in_ok-unwinds.ensures, c.in_ok-goals.ensures) at c.in_ok-personalities.ensures.listed) in
    some_on _ _ _ _ (rw c.in_ok-goals.ensures at c.in_ok-keys.ensures)
    (unless_on _ _ _ (rw c.in_ok-goals.ensures at c.in_ok-all_defined.ensures)
    (checks_on _ _ _ (rw c.in_ok-unwinds.ensures at c.in_ok-none_by_dwarf.ensures)
    (checks_on _ _ _ (rw (c.in_ok-unwinds.ensures, c.in_ok-goals.ensures) at c.in_ok-personalities.ensures.told)
    (some_on _ _ _ _ (rw refers.needed at all)
    (checks_ends _ _ _ _ (rw (refers.bound c.in_ok-slots.slots) at c.in_err-few_imports.ensures) c.from_residual-in_err-few_imports.ensures.1)))))

pub returns-in_err-all_met : goal.returns-in_err-all_met
returns-in_err-all_met g c =
    let is = c.referring-referring.ensures in
    let refers = refers_in c.referring-referring.result c.args.inputs.now.command.now c.args.inputs.now.libs.now c.args.inputs.now.named.now.loaded c.in_ok-goals.goals c.args.symbols.now c.in_ok-keys.keys c.in_ok-entry.entry
    (record { of_loaded = is.loaded; of_goals = is.goals; of_symbols = is.symbols; of_keys = is.keys; of_entry = is.entry }) c.in_ok-goals.ensures (rw c.as_slice-start.ensures at c.in_ok-entry.ensures) in
    let all = c.in_ok-slots.ensures _ (rw (c.in_ok-unwinds.ensures, c.in_ok-goals.ensures) at c.in_ok-personalities.ensures.listed) in
    some_on _ _ _ _ (rw c.in_ok-goals.ensures at c.in_ok-keys.ensures)
    (unless_on _ _ _ (rw c.in_ok-goals.ensures at c.in_ok-all_defined.ensures)
    (checks_on _ _ _ (rw c.in_ok-unwinds.ensures at c.in_ok-none_by_dwarf.ensures)
    (checks_on _ _ _ (rw (c.in_ok-unwinds.ensures, c.in_ok-goals.ensures) at c.in_ok-personalities.ensures.told)
    (some_on _ _ _ _ (rw refers.needed at all)
    (checks_on _ _ _ (rw (refers.bound c.in_ok-slots.slots) at c.in_ok-few_imports.ensures)
    (checks_ends _ _ _ _ (rw (refers.unmet, is.loaded) at c.in_err-all_met.ensures) c.from_residual-in_err-all_met.ensures.1))))))

pub returns : goal.returns
returns g c =
    let is = c.referring-referring.ensures in
    let refers = refers_in c.referring-referring.result c.args.inputs.now.command.now c.args.inputs.now.libs.now c.args.inputs.now.named.now.loaded c.in_ok-goals.goals c.args.symbols.now c.in_ok-keys.keys c.in_ok-entry.entry
    (record { of_loaded = is.loaded; of_goals = is.goals; of_symbols = is.symbols; of_keys = is.keys; of_entry = is.entry }) c.in_ok-goals.ensures (rw c.as_slice-start.ensures at c.in_ok-entry.ensures) in
    let all = c.in_ok-slots.ensures _ (rw (c.in_ok-unwinds.ensures, c.in_ok-goals.ensures) at c.in_ok-personalities.ensures.listed) in
    some_on _ _ _ _ (rw c.in_ok-goals.ensures at c.in_ok-keys.ensures)
    (unless_on _ _ _ (rw c.in_ok-goals.ensures at c.in_ok-all_defined.ensures)
    (checks_on _ _ _ (rw c.in_ok-unwinds.ensures at c.in_ok-none_by_dwarf.ensures)
    (checks_on _ _ _ (rw (c.in_ok-unwinds.ensures, c.in_ok-goals.ensures) at c.in_ok-personalities.ensures.told)
    (some_on _ _ _ _ (rw refers.needed at all)
    (checks_on _ _ _ (rw (refers.bound c.in_ok-slots.slots) at c.in_ok-few_imports.ensures)
    (checks_on _ _ _ (rw refers.unmet at c.in_ok-all_met.ensures)
    c.image_of.ensures))))))
