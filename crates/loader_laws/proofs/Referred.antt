-- Each reference of a kept atom tells where it leads.
use Rattle.std.proofs.Common.{◌≡◌, ◌⊎◌, ℕ, ◌+◌, ◌*◌, ◌^◌, inl, inr, true, List, Option, Some, None, refl, sym, ap, ◌∙◌, subst}
use Rattle.std.specs.Prelude.{slice_get}
use Rattle.std.specs.Option.{option_map, option_map_or}
use Rattle.std.specs.Ordering.{is_eq}
use Rattle.std.proofs.lemmas.Bool.{eq-eqb, false≢true}
use Rattle.list_lemmas.proofs.Members.{Contains_from_in, In, any_from_in, in_from_Contains}
use Rattle.command_line.specs.declared.command.Command.{Command}
use Rattle.lib_bind.specs.declared.library.LibraryGraph.{LibraryGraph}
use Rattle.literal_merge.proofs.RepresentativeLemmas.{atoms_of_file}
use Rattle.mark_core.specs.Kept.{has}
use Rattle.mo_types.specs.Atoms as cuts
use Rattle.mo_types.specs.Keys.{compare_keys}
use Rattle.mo_types.specs.Loaded.{IsWholeFile}
use Rattle.mo_types.specs.RelocationRules.{section_numbered}
use Rattle.mo_types.specs.declared.atom.Atom.{Atom}
use Rattle.mo_types.specs.declared.goal.Goal.{Goal}
use Rattle.mo_types.specs.declared.key.AtomKey.{AtomKey}
use Rattle.mo_types.specs.declared.loaded.LoadedFile.{LoadedFile}
use Rattle.mo_types.specs.declared.object.Section.{Section}
use Rattle.mo_types.specs.declared.reference.Ref.{Ref}
use Rattle.mo_types.specs.declared.reference.Target.{Target}
use Rattle.patch.specs.declared.range.PlacedWork.{PlacedWork}
use Rattle.ref_meet.specs.Scene as scenes
use Rattle.ref_meet.specs.Scene.{is_ref_of}
use Rattle.sect_place.specs.Addresses.{address_in}
use Rattle.sect_place.specs.declared.layout.Layout.{Layout}
use Rattle.field_laws.specs.Pointers.{addresses_of}
use Rattle.field_laws.proofs.Found.{address_found}
use Rattle.image_make.specs.Made.{IsLaid, ImageInputs, rows_of, scene_of}
use Rattle.image_make.specs.declared.kept.KeptAtom.{KeptAtom}
use Rattle.image_read.specs.Denotes.{Denotes, Places}
use Rattle.image_laws.specs.Means.{AreRising, Imaged, IsWritten, IsZerofill}
use Rattle.image_laws.specs.References.{IsReferenceOf, TellsGoal, section_of}
use Rattle.image_laws.proofs.Loading.{from_all}
use Rattle.image_laws.proofs.Rowed.{row_in}
use Rattle.image_laws.proofs.Telling.{references_tell}
use Rattle.link_files.specs.Linked.{AreOrdered, making}
use Rattle.link_files.proofs.Cuts.{HasKey, atom_there, key_at}
use Rattle.link_files.proofs.Refs.{IsRead, is_read}
use Rattle.loader_laws.specs.Images.{IsImageOf}
use Rattle.loader_laws.specs.LinkOf.{IsKeptReference, TellsItsGoal, places_of, template_atoms, template_offsets}
use Rattle.loader_laws.specs.Tellings.{AreNamed, AreWhole, made_of}
use Rattle.loader_laws.proofs.Fillable.{are_fillable}
use Rattle.loader_laws.proofs.Finding.{key_itself}
use Rattle.loader_laws.proofs.Needed.{stubs_have_slots}
use Rattle.loader_laws.proofs.Offsets.{are_offsets}
use Rattle.loader_laws.proofs.Placing.{IsLinking, files_of, linking_of}
use Rattle.loader_laws.proofs.Seats.{IsOne, IsSeat, kept_key, one_of, piece_one, seat_of}
use Rattle.loader_laws.proofs.RowRefs.{of_row}
use Rattle.loader_laws.proofs.Served.{is_served}
use Rattle.loader_laws.proofs.Targets.{leads, scene_leads}
use Rattle.loader_laws.proofs.Typed.{zerofill_there}

-- ---- goals by their targets

minus_leads : (m : ImageInputs) (layout : Layout) (at : ℕ) (file : LoadedFile) (minus : Option Target) → IsLinking m → slice_get m.files at ≡ Some file → option_map (scenes.goal_of (scene_of m layout) at) minus ≡ option_map (leads m file) minus
minus_leads m layout at file None linking there = refl
minus_leads m layout at file (Some target) linking there = ap Some (scene_leads m layout at file target linking there)

-- ---- the field

-- what a row's reference tells, by the file's own goals
told_so : (m : ImageInputs) (image : List ℕ) (of : Imaged m image) (row : PlacedWork) (file : LoadedFile) (r : Ref) (section : Section) (is : IsReferenceOf m row r) → IsLinking m → slice_get m.files row.file ≡ Some file → section_of is ≡ section.kind
    → TellsGoal m of.layout image (template_offsets (template_atoms (addresses_of of.layout.placed) m.files)) (section_of is) row r
    → Denotes image (places_of m.files (addresses_of of.layout.placed)) (row.address + r.place) section.kind r (leads m file r.target) (option_map (leads m file) r.minus)
told_so m image of row file r section is linking there kind tells =
    let places : Places = places_of m.files (addresses_of of.layout.placed) in
    let p : ℕ = row.address + r.place in
    let goal = scene_leads m of.layout row.file file r.target linking there in
    let minus = minus_leads m of.layout row.file file r.minus linking there in
    subst (λ (o : Option Goal). Denotes image places p section.kind r (leads m file r.target) o) minus
    (subst (λ (g : Goal). Denotes image places p section.kind r g (option_map (scenes.goal_of (scene_of m of.layout) row.file) r.minus)) goal
    (subst (λ (n : ℕ). Denotes image places p n r (scenes.goal_of (scene_of m of.layout) row.file r.target) (option_map (scenes.goal_of (scene_of m of.layout) row.file) r.minus)) kind tells))

-- the atom that has a reference
record HasRef (m : ImageInputs) (file : LoadedFile) (r : Ref) : Type 0 where
  pub read : IsRead file.object file.id r
  pub atom : Atom
  pub cut : In atom (cuts.atoms_of file.object file.id)
  pub named : atom.key ≡ r.atom
  pub kept : IsOne m file atom
  pub of_section : section_numbered file.object.sections r.atom.section ≡ Some read.section

has_ref : (m : ImageInputs) (file : LoadedFile) (r : Ref) → IsLinking m → In file m.files → In r file.refs → has m.keys r.atom ≡ true → HasRef m file r
has_ref m file r linking among of_refs kept =
    let whole : IsWholeFile file = from_all IsWholeFile m.files file linking.solid.whole among in
    let read : IsRead file.object file.id r = is_read file.object file.id file.refs r whole.refs of_refs in
    let piece : HasKey (cuts.atoms_of file.object file.id) (key_at file.id read.number (cuts.cut_of file.object read.number read.section read.at)) = atom_there file.object file.id read.number read.section read.at read.numbered read.linked in
    let named : piece.0.key ≡ r.atom = piece.2 ∙ ap (key_at file.id read.number) (sym read.cut) ∙ sym read.atom in
    let of_file : In piece.0 file.atoms = subst (λ (xs : List Atom). In piece.0 xs) (sym whole.atoms) piece.1 in
    let number : r.atom.section ≡ read.number = ap (λ (k : AtomKey). k.section) read.atom in
    record {
      read = read;
      atom = piece.0;
      cut = piece.1;
      named = named;
      kept = piece_one m file piece.0 (files_of m linking) among of_file (ap (has m.keys) named ∙ kept);
      of_section = ap (section_numbered file.object.sections) number ∙ read.numbered;
    }

pub tells_its_goal : (m : ImageInputs) (image : List ℕ) (of : Imaged m image) (file : LoadedFile) (r : Ref) → IsLinking m → AreRising m → In file m.files → In r file.refs → has m.keys r.atom ≡ true → TellsItsGoal m.command m.libs m.files image (addresses_of of.layout.placed) file r
tells_its_goal m image of file r linking rising among of_refs kept = by seat.address seat.stands
  where
    layout : Layout
    layout = of.layout

    laid : IsLaid m layout
    laid = of.is_image.laid

    ref : HasRef m file r
    ref = has_ref m file r linking among of_refs kept

    at : ℕ
    at = ref.kept.at

    one : KeptAtom
    one = one_of m at ref.atom

    named : one.atom.key ≡ r.atom
    named = kept_key m at ref.atom ∙ ref.named

    seat : IsSeat m layout one
    seat = seat_of m layout file ref.atom rising laid ref.kept

    whole : IsWholeFile file
    whole = from_all IsWholeFile m.files file linking.solid.whole among

    by : (address : ℕ) → IsWritten m layout one address ⊎ IsZerofill m layout one address → TellsItsGoal m.command m.libs m.files image (addresses_of layout.placed) file r
    by address (inl written) =
        let row : PlacedWork = written.row in
        let listed : In row (rows_of m layout) = in_from_Contains (rows_of m layout) row written.of_rows in
        let key : row.atom.key ≡ r.atom = ap (λ (a : Atom). a.key) written.atom ∙ named in
        let place : slice_get m.files row.file ≡ Some file = ap (slice_get m.files) written.file ∙ ref.kept.there in
        let same : r.atom.section * 2 ^ 64 + r.atom.offset ≡ row.atom.key.section * 2 ^ 64 + row.atom.key.offset = ap (λ (k : AtomKey). k.section * 2 ^ 64 + k.offset) (sym key) in
        let own : is_ref_of row.atom.key.section row.atom.key.offset r ≡ true = eq-eqb _ _ same in
        let is : IsReferenceOf m row r = record { file = file; of_file = place; among = Contains_from_in file.refs r of_refs; of_atom = own } in
        let kind : section_of is ≡ ref.read.section.kind = ap (λ (o : Option Section). option_map_or (λ (s : Section). s.kind) o 0) (ap (λ (k : AtomKey). section_numbered file.object.sections k.section) key ∙ ref.of_section) in
        let tells =
        references_tell m image of (template_offsets (template_atoms (addresses_of layout.placed) m.files)) row r linking.solid.whole rising (are_fillable m image of linking rising) (stubs_have_slots m linking)
        (are_offsets m layout linking rising laid) written.of_rows is (is_served m layout row r linking rising laid listed (of_row m row file r place of_refs own)) in
        record {
          address = row.address;
          stands = address_found layout.placed r.atom ∙ ap (address_in layout.placed) (sym key) ∙ (row_in m layout row rising laid listed).stood;
          section = ref.read.section;
          of_section = ref.of_section;
          tells = told_so m image of row file r ref.read.section is linking place kind tells;
        }
    by address (inr bare) =
        let listed : In ref.atom.key bare.section.section.atoms = subst (λ (k : AtomKey). In k bare.section.section.atoms) (kept_key m at ref.atom) (in_from_Contains bare.section.section.atoms one.atom.key bare.listed) in
        let own : section_numbered file.object.sections ref.atom.key.section ≡ Some ref.read.section = ap (λ (k : AtomKey). section_numbered file.object.sections k.section) ref.named ∙ ref.of_section in
        let of_id : file.id ≡ ref.atom.key.file = sym (atoms_of_file file.object file.id ref.atom ref.cut) in
        let empty = zerofill_there m layout bare.section file ref.atom.key ref.read.section laid linking.ordered among whole.object of_id own (in_from_Contains layout.sections bare.section bare.of_layout) listed bare.zerofill in
        absurd (false≢true (sym ref.read.solid ∙ empty))

pub reference_tells : (command : Command) (libs : LibraryGraph) (files : List LoadedFile) (image : List ℕ) (is : IsImageOf command libs files image) (file : LoadedFile) (reference : Ref) → AreOrdered files → AreWhole files → AreNamed command libs files → In file files → In reference file.refs → has is.keys reference.atom ≡ true
    → TellsItsGoal command libs files image (addresses_of is.imaged.layout.placed) file reference
unfolding making
reference_tells command libs files image is file reference ordered whole named among of_refs kept =
    tells_its_goal (made_of is) image is.imaged file reference (linking_of command libs files is.symbols is.keys is.slots is.info ordered whole named is.inside) is.rising among of_refs kept

-- the same of a reference of a kept atom
pub kept_reference_tells : (command : Command) (libs : LibraryGraph) (files : List LoadedFile) (image : List ℕ) (is : IsImageOf command libs files image) → AreOrdered files → AreWhole files → AreNamed command libs files → (file : LoadedFile) (reference : Ref) → IsKeptReference files is.keys file reference
    → TellsItsGoal command libs files image (addresses_of is.imaged.layout.placed) file reference
kept_reference_tells command libs files image is ordered whole named file reference kept =
    reference_tells command libs files image is file reference ordered whole named (in_from_Contains files file kept.loaded) (in_from_Contains file.refs reference kept.of_file)
    (any_from_in (λ (other : AtomKey). is_eq (compare_keys other reference.atom)) is.keys reference.atom (in_from_Contains is.keys reference.atom kept.kept) (key_itself reference.atom))
