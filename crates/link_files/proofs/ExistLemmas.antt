-- Files link to something.
use Rattle.std.proofs.Common.{◌≡◌, ◌≢◌, ℕ, ◌<◌, ◌≤◌, ◌⊎◌, ◌++◌, Bool, inl, inr, fold, length, List, [], Option, Some, None, Ok, Err, refl, ap, arith}
use Rattle.std.specs.Prelude.{All}
use Rattle.std.specs.List.Sorted.{IsStrictlySortedBy}
use Rattle.command_line.specs.declared.command.Command.{Command}
use Rattle.fixup_chain.specs.Chained.{AreChains, AreMany, IsCause}
use Rattle.fixup_chain.specs.Encoded.{IMPORTS}
use Rattle.fixup_chain.specs.ImportOrder.{Import}
use Rattle.fixup_chain.specs.Imports.{AreFormed}
use Rattle.fixup_chain.specs.declared.chains.ChainFault.{ChainFault}
use Rattle.fixup_chain.specs.declared.chains.ChainFault.TheVariants as chain
use Rattle.fixup_chain.specs.declared.chains.Chains.{Chains}
use Rattle.fixup_chain.specs.declared.chains.Fixup.{Fixup}
use Rattle.fixup_chain.proofs.ExistLemmas.{an_answer}
use Rattle.fixup_chain.proofs.OneLemmas.{same_formed}
use Rattle.image_make.specs.Made.{ImageInputs}
use Rattle.image_make.specs.declared.fault.MakeFault.TheVariants as make
use Rattle.image_make.proofs.ExistLemmas.{IsAnswered, answered}
use Rattle.lib_bind.specs.declared.library.LibraryGraph.{LibraryGraph}
use Rattle.link_steps.proofs.StepLemmas.{checks_some, some_some, unless_some}
use Rattle.link_steps.specs.Steps.{IsSome}
use Rattle.liveness.specs.Edges.{edges_by, supports_by}
use Rattle.liveness.specs.Roots.{roots}
use Rattle.mark_core.proofs.ExistLemmas.{kept_exist}
use Rattle.mo_types.specs.GoalOrder.{compare_goals_total}
use Rattle.mo_types.specs.Keys.{compare_keys}
use Rattle.mo_types.specs.Loaded.{IsWholeFile, IsWholeLoaded}
use Rattle.mo_types.specs.declared.answer.Refusal.{Refusal}
use Rattle.mo_types.specs.declared.answer.Refusal.TheVariants.{Duplicate, Limit, NeedsImage, Range}
use Rattle.mo_types.specs.declared.cause.RangeKind.TheVariants.{ImageSize}
use Rattle.mo_types.specs.declared.cause.Which.TheVariants.{Imports}
use Rattle.mo_types.specs.declared.goal.Goal.{Goal}
use Rattle.mo_types.specs.declared.key.AtomKey.{AtomKey}
use Rattle.mo_types.specs.declared.key.FileId.{FileId}
use Rattle.mo_types.specs.declared.loaded.LoadedFile.{LoadedFile}
use Rattle.mo_types.proofs.Goals.{same_goal}
use Rattle.name_ids.proofs.Once.{all}
use Rattle.name_ids.specs.Names.{external_names, numbered}
use Rattle.ref_meet.specs.Binds.{binds}
use Rattle.resolve.specs.Goals.{goal_of_name, goal_table}
use Rattle.sect_place.specs.declared.layout.Layout.{Layout}
use Rattle.sect_place.specs.declared.size.PlaceFault.TheVariants as place
use Rattle.slot_needs.specs.Unmet.{IsFirst, lesser, unmet}
use Rattle.slot_needs.specs.declared.unmet.Unmet.{Unmet}
use Rattle.slot_needs.proofs.UnmetLemmas.{is_first}
use Rattle.slot_plan.specs.Slots.{AreSlots, in_got, in_stubs, in_tlv, needed}
use Rattle.slot_plan.specs.declared.list.Slots.{Slots}
use Rattle.slot_plan.specs.declared.need.Need.{Need}
use Rattle.sort_lemmas.proofs.Sorting.{rising_exists}
use Rattle.symbol_winners.specs.Duplicates.{IsDuplicate}
use Rattle.symbol_winners.specs.SymbolTable.{IsSymbolTable, SymbolTable}
use Rattle.symbol_winners.proofs.ExistLemmas.{duplicate_exists, table_exists}
use Rattle.symbol_winners.proofs.NamedLemmas.{named_by}
use Rattle.unwind_link.specs.Kept.{kept_unwinds}
use Rattle.link_files.specs.Bound.{AreSlotsFor, IsImportsTold, IsUnmetTold, all_needs, start_of}
use Rattle.link_files.specs.Linked.{AreLinkable, AsImage, IsLinked, making}
use Rattle.link_files.specs.Lost.{undefined_refusal}
use Rattle.link_files.specs.Names.{atoms_refusal, label_of, names_refusal, wanted}
use Rattle.link_files.specs.Refusals.{IsDuplicateTold}
use Rattle.link_files.specs.Resolved.{AreKept}
use Rattle.link_files.specs.Unwinding.{AreFewPersonalities, ArePersonalitiesTold, IsEhFrameTold, handlers}
use Rattle.link_files.proofs.KeptLemmas.{IsCut, making_low, making_rises}
use Rattle.link_files.proofs.UnwindingLemmas.{eh_frame_exists, frames_of, personalities_exist}

-- ---- names that two strong definitions have

abbrev all_of : List LoadedFile → List (List ℕ)
all_of files = numbered (external_names files ++ [])

told_exists : (files : List LoadedFile) → (found : Option Refusal) × IsDuplicateTold files found
told_exists files = by (duplicate_exists files (all_of files) (named_by files [] (all_of files) (all (external_names files ++ []))))
  where
    by : (found : Option (ℕ × FileId × FileId)) × IsDuplicate files (all_of files) found → (found : Option Refusal) × IsDuplicateTold files found
    by (None, none) = (None, none)
    by (Some d, least) = (
      Some (Duplicate least.name (label_of files d.1) (label_of files d.2)),
      record { name = least.name; pair = (d.1, d.2); twice = least.twice; least = least.least; told = refl },
    )

-- ---- slots

list_exists : (goals : List Goal) → (slots : List Goal) × AreSlots goals slots
list_exists goals = let rising = rising_exists compare_goals_total same_goal goals in (rising.0, record { rising = rising.1; all = rising.2; only = rising.3 })

slots_exist : (needs : List Need) → (slots : Slots) × AreSlotsFor needs slots
slots_exist needs =
    let got = list_exists (needed in_got needs) in
    let stubs = list_exists (needed in_stubs needs) in
    let tlv = list_exists (needed in_tlv needs) in
    (record { got = got.0; stubs = stubs.0; tlv = tlv.0 }, record { got = got.1; stubs = stubs.1; tlv = tlv.1 })

-- ---- imports

not_many : (fixups : List Fixup) (wide : Bool) (imports : List Import) → AreFormed fixups wide imports → length imports < IMPORTS → ¬ AreMany fixups
not_many fixups wide imports formed few many =
    let same : many.imports ≡ imports = same_formed fixups many.wide wide many.imports imports many.formed formed in
    let size : length many.imports ≡ length imports = ap length same in
    let large : IMPORTS ≤ length many.imports = many.many in
    omega (arith, large, size, few)

-- pointers have chains, or a fault, wherever nothing stands
imports_exist : (fixups : List Fixup) → (found : Option Refusal) × IsImportsTold fixups found
imports_exist fixups = by (an_answer nowhere fixups)
  where
    nowhere : Layout
    nowhere = record { segments = []; sections = []; placed = [] }

    of_fault : (why : ChainFault) → why ≢ chain.OutOfMemory → IsCause nowhere fixups why → (found : Option Refusal) × IsImportsTold fixups found
    of_fault (chain.Limit limit) real cause = (Some (Limit Imports), record { many = cause.1; told = refl })
    of_fault (chain.Range atom place kind value) real cause = (None, not_many fixups cause.wide cause.imports cause.formed cause.few)
    of_fault chain.OutOfMemory real cause = absurd (real refl)

    by : ((chains : Chains) × AreChains nowhere fixups chains) ⊎ ((why : ChainFault) × (why ≢ chain.OutOfMemory) × IsCause nowhere fixups why) → (found : Option Refusal) × IsImportsTold fixups found
    by (inl (chains, are)) = (None, not_many fixups are.wide are.imports are.formed are.few)
    by (inr (why, real, cause)) = of_fault why real cause

-- ---- references that nothing serves

unmet_exists : (files : List LoadedFile) (all : List Unmet) → (found : Option Refusal) × IsUnmetTold files all found
unmet_exists files all = by (fold lesser None all) (is_first all)
  where
    by : (found : Option Unmet) → IsFirst all found → (told : Option Refusal) × IsUnmetTold files all told
    by None none = (None, none)
    by (Some first) is = (
      Some (NeedsImage (label_of files first.reference.atom.file) first.reference.file_place),
      record { first = first; among = is.0; least = is.1; told = refl },
    )

-- ---- the image

are_cut : (files : List LoadedFile) → All IsWholeFile files → All IsCut files
are_cut files whole = λ k d low. (whole k d low).atoms

whole_files : (files : List LoadedFile) → AreLinkable files → IsWholeLoaded (record { files = files })
whole_files files are = record { rises = are.ordered; files = are.whole }

told_image : (m : ImageInputs) → IsAnswered m → IsSome (AsImage m)
told_image m (inl (image, is)) = (Ok image, is)
told_image m (inr (inl (value, is))) = (Err (Range m.command.output 0 ImageSize value), (make.Place (place.ImageSize value), is, refl))
told_image m (inr (inr (None, fault, is))) = (Err (Range m.command.output 0 fault.kind fault.value), (make.Range None fault, is, refl))
told_image m (inr (inr (Some key, fault, is))) = (Err (Range (label_of m.files key.file) fault.file_place fault.kind fault.value), (make.Range (Some key) fault, is, refl))

image_exists : (command : Command) (libs : LibraryGraph) (files : List LoadedFile) (symbols : SymbolTable) (keys : List AtomKey) (slots : Slots) → AreLinkable files → IsSymbolTable command files symbols → IsStrictlySortedBy compare_keys keys
    → AreFewPersonalities (handlers symbols.literals keys (goal_table files libs command) files) → ¬ AreMany (binds files symbols.literals keys (goal_table files libs command) slots)
    → IsSome (AsImage (making command libs files symbols keys slots))
unfolding making
image_exists command libs files symbols keys slots are table rises few_handlers few =
    told_image (making command libs files symbols keys slots) (answered (making command libs files symbols keys slots) (whole_files files are) are.bytes
    (making_rises command libs files symbols keys slots are.ordered (are_cut files are.whole) are.low rises)
    (making_low command libs files symbols keys slots are.low table)
    (frames_of command libs files symbols keys slots are.unwinds few_handlers) few)

-- ---- all steps

pub link_exists : (command : Command) (libs : LibraryGraph) (files : List LoadedFile) → AreLinkable files → IsSome (IsLinked command libs files)
link_exists command libs files are =
    unless_some (names_refusal files (wanted command)) _ (λ few_names.
    unless_some (atoms_refusal files) _ (λ few.
    checks_some (IsDuplicateTold files) _ (told_exists files) (λ once.
    some_some (IsSymbolTable command files) _ (table_exists command files) (λ symbols are_symbols.
    let goals : List (List Goal) = goal_table files libs command in
    let entry : Goal = goal_of_name files libs command command.entry in
    some_some (AreKept command files symbols goals) _ (kept_exist (edges_by files goals) (supports_by files goals) (roots command symbols files)) (λ keys kept.
    unless_some (undefined_refusal command libs files goals keys) _ (λ found.
    checks_some (IsEhFrameTold files (kept_unwinds keys files)) _ (eh_frame_exists files (kept_unwinds keys files)) (λ no_dwarf.
    checks_some (ArePersonalitiesTold (handlers symbols.literals keys goals files)) _ (personalities_exist (handlers symbols.literals keys goals files)) (λ few_handlers.
    some_some (AreSlotsFor (all_needs symbols.literals keys goals files (start_of command entry))) _ (slots_exist (all_needs symbols.literals keys goals files (start_of command entry))) (λ slots served.
    checks_some (IsImportsTold (binds files symbols.literals keys goals slots)) _ (imports_exist (binds files symbols.literals keys goals slots)) (λ few_imports.
    checks_some (IsUnmetTold files (unmet keys goals files)) _ (unmet_exists files (unmet keys goals files)) (λ met.
    image_exists command libs files symbols keys slots are are_symbols kept.rises few_handlers few_imports)))))))))))
