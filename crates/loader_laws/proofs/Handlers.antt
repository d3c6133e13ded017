-- The functions that handle the exceptions of kept atoms are there: they lead somewhere, and the image has the address unless
-- another image has it.
use Rattle.std.proofs.Common.{◌≡◌, ℕ, ◌+◌, ◌++◌, ◌-◌, ◌||◌, Bool, true, false, List, [], filter, Option, Some, None, Result, Ok, Err, inl, inr, refl, sym, ap, ◌∙◌, subst, arith, if◌then◌else◌}
use Rattle.std.specs.Prelude.{is_none, nat_lt, slice_get, option_and_then}
use Rattle.std.specs.List.{enumerate_from, filter_map, flat_map, range_with_len}
use Rattle.std.specs.Option.{option_map, option_map_or}
use Rattle.std.proofs.lemmas.Bool.{false≢true}
use Rattle.list_lemmas.proofs.Members.{In, from_filter, from_filter_map, from_flat, from_map, in_filter, in_filter_map, in_flat, in_left, in_map, in_right}
use Rattle.command_line.specs.declared.command.Command.{Command}
use Rattle.input_files.specs.Files.{HasUnwinds}
use Rattle.lib_bind.specs.declared.library.LibraryGraph.{LibraryGraph}
use Rattle.literal_merge.specs.Representatives.{representatives_of}
use Rattle.literal_merge.specs.declared.representative.Representative.{Representative}
use Rattle.liveness.specs.Edges.{edge_from, edge_to, edges, edges_at, edges_by, file_edges, ref_edges, target_atom, unwind_edges}
use Rattle.liveness.specs.Undefined as names
use Rattle.liveness.specs.Undefined.{lost, lost_at, lost_in, lost_name, lost_names, lost_personality}
use Rattle.mark_core.specs.Kept.{has}
use Rattle.mo_types.specs.RelocationRules.{is_absolute, is_unnameable, section_numbered}
use Rattle.mo_types.specs.Rows.{when}
use Rattle.mo_types.specs.declared.edge.Edge.{Edge}
use Rattle.mo_types.specs.declared.goal.Goal.{Goal}
use Rattle.mo_types.specs.declared.key.AtomKey.{AtomKey}
use Rattle.mo_types.specs.declared.key.FileId.{FileId}
use Rattle.mo_types.specs.declared.loaded.LoadedFile.{LoadedFile}
use Rattle.mo_types.specs.declared.object.Object.{Object}
use Rattle.mo_types.specs.declared.object.RawReloc.{RawReloc}
use Rattle.mo_types.specs.declared.object.Section.{Section}
use Rattle.mo_types.specs.declared.object.Symbol.{Symbol}
use Rattle.mo_types.specs.declared.reference.Target.{Target}
use Rattle.mo_types.specs.declared.reference.Target.TheVariants.{Name, Local}
use Rattle.mo_types.specs.declared.unwind.Unwind.{Unwind}
use Rattle.resolve.specs.Goals.{goal_table, goals_of_symbols, target_goal}
use Rattle.sect_place.specs.declared.layout.Layout.{Layout}
use Rattle.unwind_link.specs.Goals.{goal_at}
use Rattle.unwind_link.specs.Kept.{kept_as, kept_in, kept_unwinds}
use Rattle.unwind_link.specs.Personalities.{personality_goals, personality_of as personality_goal}
use Rattle.unwind_link.specs.declared.kept.KeptUnwind.{KeptUnwind}
use Rattle.unwind_read.specs.Rules.{entry_at, entry_count, entry_relocs, entry_tests, fails_test, has_bad_personality, has_entries, is_bad_name, is_bad_personality}
use Rattle.unwind_read.specs.Spots.{holds, spot_at, spot_of}
use Rattle.unwind_read.specs.Unwinds.{atom_of, first_fault, function_of, kept_function, length_of, offset_of, personality_at, personality_of, section_unwinds, unwind_at, unwind_with, unwinds_of}
use Rattle.unwind_read.specs.declared.entry.CompactUnwindEntry.{CompactUnwindEntry}
use Rattle.unwind_read.specs.declared.fault.UnwindFault.{UnwindFault}
use Rattle.unwind_read.specs.declared.fault.UnwindFault.TheVariants.{BadEntry}
use Rattle.unwind_read.specs.declared.pointers.EntryRelocs.{EntryRelocs}
use Rattle.unwind_read.specs.declared.spots.Spot.{Spot}
use Rattle.unwind_read.proofs.SpotLemmas.{held_linked, held_within}
use Rattle.image_make.specs.Made.{IsLaid, ImageInputs}
use Rattle.image_laws.specs.Means.{AreRising}
use Rattle.image_laws.proofs.Loading.{from_all}
use Rattle.link_files.specs.Unwinding.{handlers}
use Rattle.link_files.proofs.Lists.{from_mapped, from_numbered, from_then, from_when, in_slice, no_some, none_passes, some_is}
use Rattle.link_files.proofs.Refs.{IsPlaceOf, IsTargetOf}
use Rattle.loader_laws.proofs.Finding.{in_all}
use Rattle.loader_laws.proofs.Placing.{IsLinking}
use Rattle.loader_laws.proofs.Targets.{IsReached, goals_there, leads, none_lost, reached_by, table_at, target_same}

-- ---- what an object's entries name

-- the function of an entry that is kept passes all tests
passed : (object : Object) (entry : CompactUnwindEntry) (relocs : EntryRelocs) (function : Spot) → kept_function object entry relocs ≡ Some function → has_bad_personality object entry relocs ≡ false
unfolding kept_function
passed object entry relocs function e = by (fails_test object entry relocs) refl e
  where
    by : (b : Bool) → fails_test object entry relocs ≡ b → (if b then None else option_and_then (λ f. when (nat_lt 0 (length_of entry f)) f) (function_of object entry relocs)) ≡ Some function → has_bad_personality object entry relocs ≡ false
    by true fails there = no_some function there
    by false none there = none_passes (λ test. test object entry relocs) entry_tests has_bad_personality none (inr (inr (inr (inl refl))))

good_name : (object : Object) (number : ℕ) → is_bad_name object number ≡ false → (symbol : Symbol) × (slice_get object.symbols number ≡ Some symbol)
good_name object number e = by (slice_get object.symbols number) refl e
  where
    by : (o : Option Symbol) → slice_get object.symbols number ≡ o → option_map_or (λ symbol. is_unnameable object.sections symbol || is_absolute symbol.kind) o true ≡ false → (symbol : Symbol) × (slice_get object.symbols number ≡ Some symbol)
    by None is bad = absurd (false≢true (sym bad))
    by (Some symbol) is good = (symbol, is)

good_spot : (object : Object) (file : FileId) (number address : ℕ) (spot : Spot) → spot_at object number address ≡ Some spot → IsPlaceOf object file (atom_of file spot) (offset_of spot)
unfolding spot_of
good_spot object file number address spot e =
    let section = from_then (λ (s : Section). when (holds s address) (spot_of object number address s)) (section_numbered object.sections number) spot e in
    let is = from_when (holds section.0 address) (spot_of object number address section.0) spot section.2 in
    subst (λ (s : Spot). IsPlaceOf object file (atom_of file s) (offset_of s)) is.1 (record {
      number = number;
      section = section.0;
      at = address - section.0.address;
      numbered = section.1;
      linked = held_linked section.0 address is.0;
      named = refl;
      within = held_within section.0 address is.0;
      from_cut = refl;
    })

named_target : (object : Object) (file : FileId) (held : ℕ) (reloc : RawReloc) (target : Target) → is_bad_personality object held reloc ≡ false → personality_at object file held reloc ≡ Some target → IsTargetOf object file target
named_target object file held reloc target good is = by reloc.external good is
  where
    by : (b : Bool) → (if b then is_bad_name object reloc.number else is_none (spot_at object reloc.number held)) ≡ false
        → (if b then Some (Name reloc.number) else option_map (λ spot. Local (atom_of file spot) (offset_of spot)) (spot_at object reloc.number held)) ≡ Some target → IsTargetOf object file target
    by true named there = subst (IsTargetOf object file) (some_is (Name reloc.number) target there) (good_name object reloc.number named)
    by false placed there =
        let spot = from_mapped (λ (s : Spot). Local (atom_of file s) (offset_of s)) (spot_at object reloc.number held) target there in
        subst (IsTargetOf object file) spot.2 (good_spot object file reloc.number held spot.0 spot.1)

entry_target : (object : Object) (file : FileId) (entry : CompactUnwindEntry) (relocs : EntryRelocs) (target : Target) → has_bad_personality object entry relocs ≡ false → personality_of object file entry relocs ≡ Some target → IsTargetOf object file target
entry_target object file entry relocs target good is =
    let reloc = from_then (personality_at object file entry.personality) relocs.personality target is in
    named_target object file entry.personality reloc.0 target (ap (λ (o : Option RawReloc). option_map_or (is_bad_personality object entry.personality) o false) (sym reloc.1) ∙ good) reloc.2

numbered_target : (object : Object) (file : FileId) (section : Section) (i : ℕ) (unwind : Unwind) (target : Target) → unwind_at object file section i ≡ Some unwind → unwind.personality ≡ Some target → IsTargetOf object file target
unfolding unwind_at
numbered_target object file section i unwind target e is =
    let of = from_mapped (unwind_with object file (entry_at section i) (entry_relocs section i)) (kept_function object (entry_at section i) (entry_relocs section i)) unwind e in
    entry_target object file (entry_at section i) (entry_relocs section i) target (passed object (entry_at section i) (entry_relocs section i) of.0 of.1) (ap (λ (u : Unwind). u.personality) of.2 ∙ is)

section_target : (object : Object) (file : FileId) (section : Section) (unwind : Unwind) (target : Target) → In unwind (section_unwinds object file section) → unwind.personality ≡ Some target → IsTargetOf object file target
unfolding section_unwinds
section_target object file section unwind target h is = by (has_entries section) h
  where
    by : (b : Bool) → In unwind (if b then filter_map (unwind_at object file section) (range_with_len 0 (entry_count section)) else []) → IsTargetOf object file target
    by true there = let at = from_filter_map (unwind_at object file section) (range_with_len 0 (entry_count section)) unwind there in numbered_target object file section at.0 unwind target at.2 is
    by false none = absurd none

abbrev given : List Unwind → Result (List Unwind) UnwindFault
given entries = Ok entries

abbrev refusal : ℕ → Result (List Unwind) UnwindFault
refusal place = Err (BadEntry place)

same_entries : (xs ys : List Unwind) → given xs ≡ given ys → xs ≡ ys
same_entries xs ys e = cc

no_entries : {Y : Type 0} (place : ℕ) (xs : List Unwind) → refusal place ≡ given xs → Y
no_entries place xs e = absurd cc

of_sections : (object : Object) (file : FileId) (entries : List Unwind) → unwinds_of object file ≡ Ok entries → flat_map (section_unwinds object file) object.sections ≡ entries
unfolding unwinds_of
of_sections object file entries e = by (first_fault object) e
  where
    by : (o : Option ℕ) → option_map_or refusal o (given (flat_map (section_unwinds object file) object.sections)) ≡ given entries → flat_map (section_unwinds object file) object.sections ≡ entries
    by None is = same_entries (flat_map (section_unwinds object file) object.sections) entries is
    by (Some place) is = no_entries place entries is

-- the personality of an object's entry is a symbol of the object, or a place in one of its atoms
personality_target : (object : Object) (file : FileId) (entries : List Unwind) (unwind : Unwind) (target : Target) → unwinds_of object file ≡ Ok entries → In unwind entries → unwind.personality ≡ Some target → IsTargetOf object file target
personality_target object file entries unwind target e h is =
    let section = from_flat (section_unwinds object file) object.sections unwind (subst (In unwind) (sym (of_sections object file entries e)) h) in
    section_target object file section.0 unwind target section.2 is

-- ---- the personalities of kept atoms

-- an unwind entry of a kept atom has this personality, by the symbols of the file at a place
pub record IsHandler (m : ImageInputs) (at : ℕ) (file : LoadedFile) (unwind : Unwind) (target : Target) : Type 0 where
  pub there : slice_get m.files at ≡ Some file
  pub among : In unwind file.unwinds
  pub kept : has m.keys unwind.atom ≡ true
  pub handles : unwind.personality ≡ Some target

pub handler_target : (m : ImageInputs) (at : ℕ) (file : LoadedFile) (unwind : Unwind) (target : Target) → IsLinking m → IsHandler m at file unwind target → IsTargetOf file.object file.id target
handler_target m at file unwind target linking is =
    personality_target file.object file.id file.unwinds unwind target (from_all HasUnwinds m.files file linking.named.unwinds (in_slice m.files at file is.there)) is.among is.handles

-- it is kept with the atom

handler_edge : (literals : List Representative) (goals : List Goal) (unwind : Unwind) (target : Target) (key : AtomKey) → unwind.personality ≡ Some target → target_atom literals goals target ≡ Some key → In (edge_to unwind.atom key) (unwind_edges literals goals unwind)
unfolding unwind_edges
handler_edge literals goals unwind target key is to =
    in_left (edge_from unwind.atom (option_and_then (target_atom literals goals) unwind.personality)) (edge_from unwind.atom (option_map (λ lsda. lsda.0) unwind.lsda)) (edge_to unwind.atom key)
    (rw (is, to) (inl refl))

-- what follows from an entry is kept with its atom
pub entry_edge : (command : Command) (libs : LibraryGraph) (files : List LoadedFile) (at : ℕ) (file : LoadedFile) (unwind : Unwind) (edge : Edge) → slice_get files at ≡ Some file → In unwind file.unwinds → In edge (unwind_edges (representatives_of files) (goals_of_symbols files libs command file) unwind) → In edge (edges files libs command)
unfolding edges_by file_edges
entry_edge command libs files at file unwind edge is h of_entry =
    let literals = representatives_of files in
    let goals : List Goal = goals_of_symbols files libs command file in
    let here : In edge (file_edges literals goals file) =
    in_right (flat_map (ref_edges literals goals) file.refs) (flat_map (unwind_edges literals goals) file.unwinds) edge
    (in_flat (unwind_edges literals goals) file.unwinds unwind edge h of_entry) in
    in_flat (edges_at literals (goal_table files libs command)) (enumerate_from 0 files) (at, file) edge (in_all files at file is)
    (rw (table_at files libs command at file is) here)

handler_kept : (m : ImageInputs) (at : ℕ) (file : LoadedFile) (unwind : Unwind) (target : Target) (key : AtomKey) → IsLinking m → IsHandler m at file unwind target → target_atom (representatives_of m.files) (goals_of_symbols m.files m.libs m.command file) target ≡ Some key → has m.keys key ≡ true
handler_kept m at file unwind target key linking is to =
    from_all (λ (edge : Edge). has m.keys edge.from ≡ true → has m.keys edge.to ≡ true) (edges m.files m.libs m.command) (edge_to unwind.atom key) linking.led
    (entry_edge m.command m.libs m.files at file unwind (edge_to unwind.atom key) is.there is.among
    (handler_edge (representatives_of m.files) (goals_of_symbols m.files m.libs m.command file) unwind target key is.handles to)) is.kept

-- it leads somewhere

handler_found : (m : ImageInputs) (at : ℕ) (file : LoadedFile) (unwind : Unwind) (target : Target) → IsLinking m → IsHandler m at file unwind target → lost_name file.object.symbols (goals_of_symbols m.files m.libs m.command file) target ≡ None
unfolding lost lost_in lost_personality names.kept_unwinds
handler_found m at file unwind target linking is = by (lost_name file.object.symbols goals target) refl
  where
    goals : List Goal
    goals = goals_of_symbols m.files m.libs m.command file

    told : (name : List ℕ) → lost_name file.object.symbols goals target ≡ Some name → In (name, file.label) (lost m.keys m.files m.goals)
    told name e =
        let named : lost_personality file.object.symbols goals unwind ≡ Some name = ap (option_and_then (lost_name file.object.symbols goals)) is.handles ∙ e in
        let here : In (name, file.label) (lost_in m.keys file goals) =
        in_map (λ n. (n, file.label)) (flat_map (lost_names file.object.symbols goals) (names.kept_refs m.keys file) ++ filter_map (lost_personality file.object.symbols goals) (names.kept_unwinds m.keys file)) name
        (in_right (flat_map (lost_names file.object.symbols goals) (names.kept_refs m.keys file)) (filter_map (lost_personality file.object.symbols goals) (names.kept_unwinds m.keys file)) name
        (in_filter_map (lost_personality file.object.symbols goals) (names.kept_unwinds m.keys file) unwind name (in_filter (λ (u : Unwind). has m.keys u.atom) file.unwinds unwind is.among is.kept) named)) in
        in_flat (lost_at m.keys m.goals) (enumerate_from 0 m.files) (at, file) (name, file.label) (in_all m.files at file is.there) (rw (goals_there m at file linking is.there) here)

    by : (o : Option (List ℕ)) → lost_name file.object.symbols goals target ≡ o → o ≡ None
    by None e = refl
    by (Some name) e = absurd (subst (λ (xs : List (List ℕ × List ℕ)). In (name, file.label) xs) (none_lost m linking) (told name e))

pub handler_reached : (m : ImageInputs) (layout : Layout) (at : ℕ) (file : LoadedFile) (unwind : Unwind) (target : Target) → IsLinking m → AreRising m → IsLaid m layout → IsHandler m at file unwind target → IsReached m layout (leads m file target)
handler_reached m layout at file unwind target linking rising laid is =
    reached_by m layout file target linking rising laid (in_slice m.files at file is.there) (handler_target m at file unwind target linking is)
    (handler_found m at file unwind target linking is) (λ key to. handler_kept m at file unwind target key linking is to)

-- ---- their goals

pub goal_leads : (m : ImageInputs) (at : ℕ) (file : LoadedFile) (target : Target) → IsLinking m → slice_get m.files at ≡ Some file → goal_at m.literals m.goals at target ≡ leads m file target
unfolding goal_at
goal_leads m at file target linking is =
    ap (λ (found : Option (List Goal)). target_goal m.literals (option_map_or (λ (some : List Goal). some) found []) target) (goals_there m at file linking is)
    ∙ target_same m file target linking

-- a goal is that of a personality of a kept atom
pub record IsHandledBy (m : ImageInputs) (goal : Goal) : Type 0 where
  pub at : ℕ
  pub file : LoadedFile
  pub unwind : Unwind
  pub target : Target
  pub is : IsHandler m at file unwind target
  pub leads_to : leads m file target ≡ goal

pub handled_by : (m : ImageInputs) (goal : Goal) → IsLinking m → In goal (handlers m.literals m.keys m.goals m.files) → IsHandledBy m goal
unfolding personality_goals kept_unwinds kept_in
handled_by m goal linking h =
    let kept = from_filter_map (personality_goal m.literals m.goals) (kept_unwinds m.keys m.files) goal h in
    let of = from_flat (kept_in m.keys) (enumerate_from 0 m.files) kept.0 kept.1 in
    let place = from_numbered 0 m.files of.0 of.1 in
    let unwind = from_map (kept_as of.0.0) (filter (λ (u : Unwind). has m.keys u.atom) of.0.1.unwinds) kept.0 of.2 in
    let chosen = from_filter (λ (u : Unwind). has m.keys u.atom) of.0.1.unwinds unwind.0 unwind.1 in
    let named = from_mapped (goal_at m.literals m.goals kept.0.file) kept.0.unwind.personality goal kept.2 in
    let first : place.0 ≡ 0 + place.0 = omega arith in
    let there : slice_get m.files of.0.0 ≡ Some of.0.1 = subst (λ (n : ℕ). slice_get m.files n ≡ Some of.0.1) (first ∙ place.1) place.2 in
    record {
      at = of.0.0;
      file = of.0.1;
      unwind = unwind.0;
      target = named.0;
      is = record { there = there; among = chosen.0; kept = chosen.1; handles = ap (λ (k : KeptUnwind). k.unwind.personality) unwind.2 ∙ named.1 };
      leads_to =
          sym (goal_leads m of.0.0 of.0.1 named.0 linking there)
          ∙ ap (λ (n : ℕ). goal_at m.literals m.goals n named.0) (ap (λ (k : KeptUnwind). k.file) unwind.2)
          ∙ named.2;
    }
