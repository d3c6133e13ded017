-- An image tells how the functions of kept atoms are unwound.
use Rattle.std.proofs.Common.{◌≡◌, ◌≢◌, ℕ, ◌+◌, true, pos, List, [], Option, Some, None, Contains, inl, refl, sym, ap, ◌∙◌, subst, arith}
use Rattle.std.specs.Prelude.{IfSome, option_and_then, slice_get}
use Rattle.std.specs.List.{enumerate_from, filter}
use Rattle.std.specs.Option.{option_map}
use Rattle.list_lemmas.proofs.Members.{Contains_from_in, In, in_filter, in_filter_map, in_flat, in_from_Contains, in_map, in_right}
use Rattle.command_line.specs.declared.command.Command.{Command}
use Rattle.field_laws.specs.Memory.{AreInMemory}
use Rattle.field_laws.specs.Pointers.{addresses_of}
use Rattle.lib_bind.specs.declared.library.LibraryGraph.{LibraryGraph}
use Rattle.literal_merge.specs.Representatives.{representatives_of}
use Rattle.literal_merge.specs.declared.representative.Representative.{Representative}
use Rattle.liveness.specs.Edges.{edge_from, edge_to, edges, target_atom, unwind_edges}
use Rattle.mark_core.specs.Kept.{has}
use Rattle.mo_types.specs.declared.edge.Edge.{Edge}
use Rattle.mo_types.specs.declared.goal.Goal.{Goal}
use Rattle.mo_types.specs.declared.key.AtomKey.{AtomKey}
use Rattle.mo_types.specs.declared.loaded.LoadedFile.{LoadedFile}
use Rattle.mo_types.specs.declared.reference.Target.{Target}
use Rattle.mo_types.specs.declared.unwind.Unwind.{Unwind}
use Rattle.resolve.specs.Goals.{goals_of_symbols}
use Rattle.sect_place.specs.Layout as layouts
use Rattle.slot_plan.specs.declared.need.Way.TheVariants.{Got}
use Rattle.unwind_link.specs.Goals.{goal_at}
use Rattle.unwind_link.specs.Kept.{kept_as, kept_in, kept_unwinds}
use Rattle.unwind_link.specs.Personalities.{personality_goals, personality_of}
use Rattle.unwind_link.specs.declared.kept.KeptUnwind.{KeptUnwind}
use Rattle.unwind_out.specs.Law.{IsQuiet}
use Rattle.unwind_out.specs.Lookup.{unwind}
use Rattle.image_make.specs.Made.{ImageInputs, scene_of}
use Rattle.image_make.proofs.EntryLemmas.{kept_entry}
use Rattle.image_read.specs.Fixups.{fixup_at}
use Rattle.image_read.specs.Held.{Held}
use Rattle.image_laws.specs.Means.{Imaged}
use Rattle.image_laws.specs.References.{AreFillable}
use Rattle.image_laws.specs.Unwinding as laws
use Rattle.image_laws.specs.Unwinding.{AreUnwindable, IsEntryServed}
use Rattle.image_laws.proofs.Loading.{from_all}
use Rattle.image_laws.proofs.Stated.{header_is_goal}
use Rattle.image_laws.proofs.Unwound.{each_told, others_quiet, section_tells}
use Rattle.link_files.specs.Linked.{AreOrdered, making}
use Rattle.link_files.proofs.KeptLemmas.{making_low}
use Rattle.link_files.proofs.UnwindingLemmas.{frames_of}
use Rattle.loader_laws.specs.Images.{IsImageOf}
use Rattle.loader_laws.specs.Tellings.{AreNamed, AreWhole, made_of}
use Rattle.loader_laws.specs.Unwinding.{HasUnwind, IsDataAt, IsHandlerAt, IsInNoFunction, IsKeptUnwind, TellsEntry, TellsUnwinding, UnwindInfo}
use Rattle.loader_laws.proofs.FilledIn.{fillable, linking}
use Rattle.loader_laws.proofs.Finding.{at_in, in_all}
use Rattle.loader_laws.proofs.Handlers.{entry_edge, goal_leads}
use Rattle.loader_laws.proofs.Needed.{handler_needed, has_unit}
use Rattle.loader_laws.proofs.Placing.{IsLinking, kept_key_in}
use Rattle.loader_laws.proofs.Seats.{has_key}
use Rattle.loader_laws.proofs.Sectioned.{info_listed}
use Rattle.loader_laws.proofs.Targets.{leads}

-- ---- kept entries

-- an entry of the file at a place, whose atom is kept
record IsEntryAt (m : ImageInputs) (at : ℕ) (file : LoadedFile) (entry : Unwind) : Type 0 where
  pub there : slice_get m.files at ≡ Some file
  pub among : In entry file.unwinds
  pub kept : has m.keys entry.atom ≡ true

entry_at : (m : ImageInputs) (file : LoadedFile) (entry : Unwind) → IsKeptUnwind m.files m.keys file entry → (at : ℕ) × IsEntryAt m at file entry
entry_at m file entry is =
    let place = at_in m.files file (in_from_Contains m.files file is.loaded) in (
      place.0,
      record {
        there = place.1;
        among = in_from_Contains file.unwinds entry is.of_file;
        kept = has_key m.keys entry.atom (in_from_Contains m.keys entry.atom is.kept);
      },
    )

among_kept : (m : ImageInputs) (at : ℕ) (file : LoadedFile) (entry : Unwind) → IsEntryAt m at file entry → In (kept_as at entry) (kept_unwinds m.keys m.files)
unfolding kept_unwinds kept_in
among_kept m at file entry is =
    in_flat (kept_in m.keys) (enumerate_from 0 m.files) (at, file) (kept_as at entry) (in_all m.files at file is.there)
    (in_map (kept_as at) (filter (λ (u : Unwind). has m.keys u.atom) file.unwinds) entry (in_filter (λ (u : Unwind). has m.keys u.atom) file.unwinds entry is.among is.kept))

-- ---- the image has what they lead to

data_edge : (literals : List Representative) (goals : List Goal) (entry : Unwind) (place : AtomKey × ℕ) → entry.lsda ≡ Some place → In (edge_to entry.atom place.0) (unwind_edges literals goals entry)
unfolding unwind_edges
data_edge literals goals entry place is =
    in_right (edge_from entry.atom (option_and_then (target_atom literals goals) entry.personality)) (edge_from entry.atom (option_map (λ lsda. lsda.0) entry.lsda)) (edge_to entry.atom place.0)
    (rw is (inl refl))

data_kept : (m : ImageInputs) (at : ℕ) (file : LoadedFile) (entry : Unwind) → IsLinking m → IsEntryAt m at file entry → IfSome entry.lsda (λ (place : AtomKey × ℕ). has m.keys place.0 ≡ true)
data_kept m at file entry linking is = by entry.lsda refl
  where
    by : (o : Option (AtomKey × ℕ)) → entry.lsda ≡ o → IfSome o (λ (place : AtomKey × ℕ). has m.keys place.0 ≡ true)
    by None e = tt
    by (Some place) e =
        from_all (λ (edge : Edge). has m.keys edge.from ≡ true → has m.keys edge.to ≡ true) (edges m.files m.libs m.command) (edge_to entry.atom place.0) linking.led
        (entry_edge m.command m.libs m.files at file entry (edge_to entry.atom place.0) is.there is.among
        (data_edge (representatives_of m.files) (goals_of_symbols m.files m.libs m.command file) entry place e)) is.kept

handler_has_slot : (m : ImageInputs) (at : ℕ) (file : LoadedFile) (entry : Unwind) → IsLinking m → IsEntryAt m at file entry → IfSome entry.personality (λ (target : Target). Contains m.slots.got (goal_at m.literals m.goals at target))
unfolding personality_goals
handler_has_slot m at file entry linking is = by entry.personality refl
  where
    by : (o : Option Target) → entry.personality ≡ o → IfSome o (λ (target : Target). Contains m.slots.got (goal_at m.literals m.goals at target))
    by None e = tt
    by (Some target) e =
        let goal : Goal = goal_at m.literals m.goals at target in
        has_unit m Got goal linking
        (handler_needed m goal
        (in_filter_map (personality_of m.literals m.goals) (kept_unwinds m.keys m.files) (kept_as at entry) goal (among_kept m at file entry is) (ap (option_map (goal_at m.literals m.goals at)) e)))

entry_served : (m : ImageInputs) (at : ℕ) (file : LoadedFile) (entry : Unwind) → IsLinking m → IsEntryAt m at file entry → IsEntryServed m (kept_as at entry)
entry_served m at file entry linking is = record { lsda = data_kept m at file entry linking is; handler = handler_has_slot m at file entry linking is }

-- ---- the section

-- what an image is made of that tells how functions are unwound
pub record IsUnwound (m : ImageInputs) (image : List ℕ) (of : Imaged m image) : Type 0 where
  pub linking : IsLinking m
  pub able : AreUnwindable m
  pub fillable : AreFillable (scene_of m of.layout) of.fixups
  pub some : m.unwinds ≢ []

info_of : (m : ImageInputs) (image : List ℕ) (of : Imaged m image) → IsUnwound m image of → UnwindInfo image
info_of m image of is =
    let told = section_tells m image of is.able is.some in
    let listed = info_listed m image of told.section is.able.rising told.is in
    record {
      base = layouts.base_of m.command;
      begins = header_is_goal m image of is.able.rising;
      header = listed.header;
      section = listed.section;
      segment = listed.segment;
      name = listed.name;
      bytes = m.info;
      size = listed.size ∙ told.sized;
      there = subst (λ (n : ℕ). AreInMemory image n m.info) (sym listed.address) told.there;
    }

-- ---- one entry

data_told : (m : ImageInputs) (image : List ℕ) (of : Imaged m image) (lsda : Option (AtomKey × ℕ)) (offset : ℕ) → laws.IsDataAt m of.layout image lsda offset → IsDataAt (addresses_of of.layout.placed) (layouts.base_of m.command) lsda offset
data_told m image of None offset is = is
data_told m image of (Some place) offset is = is

handler_told : (m : ImageInputs) (image : List ℕ) (of : Imaged m image) (at : ℕ) (file : LoadedFile) (personality : Option Target) (found : Option ℕ) → IsLinking m → slice_get m.files at ≡ Some file → laws.IsHandlerAt m of.layout image at personality found
    → IsHandlerAt image (addresses_of of.layout.placed) (layouts.base_of m.command) (option_map (leads m file) personality) found
handler_told m image of at file None found known there is = is
handler_told m image of at file (Some target) found known there (slot, named, held) =
    (slot, named, subst (λ (goal : Goal). Held image (addresses_of of.layout.placed) (fixup_at image (layouts.base_of m.command + slot)) goal (pos 0)) (goal_leads m at file target known there) held)

entry_told : (m : ImageInputs) (image : List ℕ) (of : Imaged m image) (is : IsUnwound m image of) (file : LoadedFile) (entry : Unwind) → IsKeptUnwind m.files m.keys file entry → TellsEntry image (addresses_of of.layout.placed) (info_of m image of is) (option_map (leads m file) entry.personality) entry
unfolding info_of
entry_told m image of is file entry kept =
    let place = entry_at m file entry kept in
    let at : ℕ = place.0 in
    let here : IsEntryAt m at file entry = place.1 in
    let listed : Contains m.unwinds (kept_as at entry) = subst (λ (xs : List KeptUnwind). Contains xs (kept_as at entry)) (sym is.able.frames.kept) (Contains_from_in (kept_unwinds m.keys m.files) (kept_as at entry) (among_kept m at file entry here)) in
    let told = each_told m image of (kept_as at entry) is.able is.fillable listed (entry_served m at file entry is.linking here) in
    record {
      start = told.start;
      stands = told.function;
      encoding = told.encoding;
      lsda = told.lsda;
      found = told.found;
      way = told.own;
      flag = told.flag;
      lsda_at = data_told m image of entry.lsda told.lsda told.lsda_at;
      handler = handler_told m image of at file entry.personality _ is.linking here.there told.handler;
    }

-- ---- other addresses

others_told : (m : ImageInputs) (image : List ℕ) (of : Imaged m image) (offset : ℕ) → IsUnwound m image of → IsInNoFunction m.files m.keys (addresses_of of.layout.placed) (layouts.base_of m.command + offset) → IsQuiet (unwind m.info offset)
others_told m image of offset is none = others_quiet m image of offset is.able is.some clear
  where
    clear : laws.IsInNoFunction m of.layout image offset
    clear one start there stands low high =
        let entry = kept_entry m one is.able.frames.kept (in_from_Contains m.unwinds one there) in
        let kept : IsKeptUnwind m.files m.keys entry.file one.unwind = record {
          loaded = Contains_from_in m.files entry.file entry.among;
          of_file = Contains_from_in entry.file.unwinds one.unwind entry.of_file;
          kept = Contains_from_in m.keys one.unwind.atom (kept_key_in m.keys one.unwind.atom entry.kept);
        } in
        none entry.file one.unwind (layouts.base_of m.command + start) kept stands (omega (arith, low)) (omega (arith, high))

-- ---- all of it

all_told : (m : ImageInputs) (image : List ℕ) (of : Imaged m image) → IsUnwound m image of → TellsUnwinding m.command m.libs m.files m.keys image (addresses_of of.layout.placed)
unfolding info_of
all_told m image of is = record {
  info = info_of m image of is;
  each = λ file entry kept. entry_told m image of is file entry kept;
  others = λ offset none. others_told m image of offset is none;
}

some_kept : (m : ImageInputs) → m.unwinds ≡ kept_unwinds m.keys m.files → HasUnwind m.files m.keys → m.unwinds ≢ []
some_kept m are (file, entry, kept) none =
    let place = entry_at m file entry kept in
    subst (λ (xs : List KeptUnwind). In (kept_as place.0 entry) xs) (sym are ∙ none) (among_kept m place.0 file entry place.1)

-- ---- of files

able_of : (command : Command) (libs : LibraryGraph) (files : List LoadedFile) (image : List ℕ) (is : IsImageOf command libs files image) → AreOrdered files → AreWhole files → AreNamed command libs files → AreUnwindable (made_of is)
unfolding making
able_of command libs files image is ordered whole named =
    let frames = frames_of command libs files is.symbols is.keys is.slots named.unwinds is.inside.few_handlers in
    record {
      whole = record { rises = ordered; files = whole };
      rising = is.rising;
      low = making_low command libs files is.symbols is.keys is.slots named.low is.inside.symbols_are;
      frames = record { kept = frames.kept; read = frames.read; handlers = frames.handlers; are_handlers = frames.are_handlers; few = frames.few };
    }

pub image_unwinds : (command : Command) (libs : LibraryGraph) (files : List LoadedFile) (image : List ℕ) (is : IsImageOf command libs files image) → AreOrdered files → AreWhole files → AreNamed command libs files → HasUnwind files is.keys → TellsUnwinding command libs files is.keys image (addresses_of is.imaged.layout.placed)
unfolding making
image_unwinds command libs files image is ordered whole named some =
    let able = able_of command libs files image is ordered whole named in
    all_told (made_of is) image is.imaged (record {
      linking = linking command libs files image is ordered whole named;
      able = able;
      fillable = fillable command libs files image is ordered whole named;
      some = some_kept (made_of is) able.frames.kept some;
    })
