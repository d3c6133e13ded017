-- A layout spreads the unwind entries of an image: each stands in the atom of its function, within 2^32 bytes from the
-- image's first address, and no two have a byte in common.
use Rattle.std.proofs.Common.{◌≡◌, ◌≢◌, ℕ, ◌+◌, ◌-◌, ◌<◌, ◌≤◌, ◌^◌, ◌⊎◌, inl, inr, Bool, true, false, List, length, map, codes, All, Option, Some, None, Contains, refl, sym, ap, ◌∙◌, subst, arith}
use Rattle.std.specs.Prelude.{slice_get}
use Rattle.std.specs.List.{AllPairs, filter}
use Rattle.std.specs.Option.{option_and_then, option_map, option_map_or}
use Rattle.std.specs.Ordering.{is_eq}
use Rattle.std.specs.declared.cmp.Ordering.{Ordering}
use Rattle.std.specs.declared.cmp.Ordering.TheVariants.{Less, Equal, Greater}
use Rattle.std.proofs.lemmas.Bool.{false≢true}
use Rattle.std.proofs.lemmas.Cmp.{tied_itself}
use Rattle.std.proofs.lemmas.List.Elements.{All-from_recursion, recursion_from_All}
use Rattle.std.proofs.lemmas.List.Quantifiers.{position-Some}
use Rattle.list_lemmas.proofs.Members.{Contains_from_in, In, all_from_in, all_in, from_map, in_from_Contains, in_map}
use Rattle.atom_cut.specs.Laws.{HasItsBytes}
use Rattle.atom_cut.proofs.OwnBytes.{atoms_have_bytes}
use Rattle.atom_index.proofs.Keys.{same_key}
use Rattle.literal_merge.proofs.RepresentativeLemmas.{atoms_of_file}
use Rattle.mark_core.specs.Kept.{has}
use Rattle.mo_types.specs.Atoms.{atoms_of}
use Rattle.mo_types.specs.Goals.{compare_goals}
use Rattle.mo_types.specs.Keys.{compare_keys}
use Rattle.mo_types.specs.Loaded.{IsBefore, IsWholeFile, IsWholeLoaded}
use Rattle.mo_types.specs.RelocationRules.{section_numbered}
use Rattle.mo_types.specs.declared.atom.Atom.{Atom}
use Rattle.mo_types.specs.declared.goal.Goal.{Goal}
use Rattle.mo_types.specs.declared.goal.Goal.TheVariants.{Nobody}
use Rattle.mo_types.specs.declared.key.AtomKey.{AtomKey}
use Rattle.mo_types.specs.declared.loaded.LoadedFile.{LoadedFile}
use Rattle.mo_types.specs.declared.object.Section.{Section}
use Rattle.mo_types.specs.declared.reference.Target.{Target}
use Rattle.mo_types.proofs.KeyOrder.{compare_keys_total}
use Rattle.patch.proofs.ChosenLemmas.{all_pairs, pairs_weaker}
use Rattle.ref_meet.specs.Scene.{Scene}
use Rattle.sect_list.specs.OutSections.{home_in, home_of, is_in, out_sections}
use Rattle.sect_list.proofs.Listed.{kept_are_listed}
use Rattle.sect_list.proofs.Once.{listed_once}
use Rattle.sect_place.specs.Addresses.{address_in}
use Rattle.sect_place.specs.Layout.{IsLayoutOf, base_of, end_of_image, image_sections, image_size, plan_of}
use Rattle.sect_place.specs.Places.{spaced}
use Rattle.sect_place.specs.declared.layout.Layout.{Layout}
use Rattle.sect_place.specs.declared.layout.PlacedSection.{PlacedSection}
use Rattle.sect_place.proofs.Meaning.{sections_aligned}
use Rattle.slot_place.specs.Places.{number_of, own_section, slot_address, start_in, starts_of, unit_at}
use Rattle.slot_place.specs.Stubs.{AreNear}
use Rattle.slot_place.proofs.ReachLemmas.{AreWithin, within}
use Rattle.slot_plan.specs.declared.need.Way.TheVariants.{Got}
use Rattle.tlv_plan.specs.Template.{atoms_of as listed_atoms, keys_of}
use Rattle.unwind_link.specs.Kept.{kept_unwinds}
use Rattle.unwind_link.specs.Rows.{AreBeside, AreSpread, offset_of, place_offset, row_of, slot_offset}
use Rattle.unwind_link.specs.Twice.{AreOfText}
use Rattle.unwind_link.specs.declared.kept.KeptUnwind.{KeptUnwind}
use Rattle.unwind_out.specs.Law.{AreFields}
use Rattle.image_make.specs.Atoms.{AreLow, AreRising, atom_of, kept_as}
use Rattle.image_make.specs.Frames.{AreUnwound, HaveFrames}
use Rattle.image_make.specs.Made.{ImageInputs, kept_of, plan_for, plan_with, scene_of, sizes_of}
use Rattle.image_make.specs.declared.kept.KeptAtom.{KeptAtom}
use Rattle.image_make.proofs.EntryLemmas.{IsKeptEntry, IsOfObject, StandApart, kept_entry, kept_has, kept_piece, of_object, part_of, unwound_of, raised_key, raised_size, stand_apart}
pub use Rattle.image_make.proofs.HandlerLemmas.{few}
use Rattle.image_make.proofs.HomeLemmas.{section_home, text_home, text_listed}
use Rattle.image_make.proofs.KeptListLemmas.{rising_atoms}
use Rattle.image_make.proofs.OwnLemmas.{have_atoms}
use Rattle.image_make.proofs.Rowed.{find_mapped, kept_found}
use Rattle.image_make.proofs.StandLemmas.{HasPlace, has_place, no_place, stands_apart, stands_within}
use Rattle.image_make.proofs.TextLemmas.{IsOfText, IsPlaceIn, is_entry}

-- ---- kept pieces and their places

-- an image's layout, which has fewer than 2^32 bytes
record IsPlacing (m : ImageInputs) (layout : Layout) : Type 0 where
  whole : IsWholeLoaded (record { files = m.files })
  rising : AreRising (kept_of m)
  layout_of : IsLayoutOf m.command (plan_for m) layout
  small : image_size (plan_for m) < 2 ^ 32

abbrev atoms_in : ImageInputs → List Atom
atoms_in m = map atom_of (kept_of m)

keys_apart : (m : ImageInputs) → AreRising (kept_of m) → AllPairs (λ (a : AtomKey) (b : AtomKey). a ≢ b) (keys_of (out_sections m.files (atoms_in m)))
keys_apart m rising = listed_once m.files (atoms_in m) (rising_atoms (kept_of m) rising)

piece_place : (m : ImageInputs) (layout : Layout) (at : ℕ) (file : LoadedFile) (atom : Atom) (section : Section) → IsPlacing m layout → slice_get m.files at ≡ Some file → IsWholeFile file → In atom (atoms_of file.object file.id) → section_numbered file.object.sections atom.key.section ≡ Some section → has m.keys atom.key ≡ true → HasPlace (plan_for m) layout atom.key atom.size
unfolding plan_with
piece_place m layout at file atom section placing there whole piece numbered kept =
    let one : KeptAtom = kept_as m.literals at atom in
    let among = kept_piece m at file atom there whole.atoms piece kept in
    let known = find_mapped (kept_of m) one.atom.key one (kept_found m one placing.rising (Contains_from_in (kept_of m) one among)) in
    let key : one.atom.key ≡ atom.key = raised_key m atom in
    let home : home_of m.files file.id atom.key.section ≡ Some (home_in section) = section_home m.files at file atom.key.section section placing.whole.rises there whole.object.few_sections numbered in
    let goes : home_of m.files one.atom.key.file one.atom.key.section ≡ Some (home_in section) =
    ap (λ (k : AtomKey). home_of m.files k.file k.section) key ∙ ap (λ (id : _). home_of m.files id atom.key.section) (atoms_of_file file.object file.id atom piece) ∙ home in
    let listed = kept_are_listed m.files (atoms_in m) one.atom (home_in section) (Contains_from_in (atoms_in m) one.atom (in_map atom_of (kept_of m) one among)) (sym goes) in
    subst (λ (k : AtomKey). HasPlace (plan_for m) layout k atom.size) key
    (subst (λ (n : ℕ). HasPlace (plan_for m) layout one.atom.key n) (raised_size m atom)
    (has_place (atoms_in m) (out_sections m.files (atoms_in m)) m.slots m.islands (sizes_of m.command m.libs (length m.info)) m.command layout one.atom (keys_apart m placing.rising) placing.layout_of known listed))

-- an atom that isn't kept has no place
absent : (m : ImageInputs) (layout : Layout) (key : AtomKey) → IsPlacing m layout → has m.keys key ≡ false → address_in layout.placed key ≡ None
unfolding plan_with
absent m layout key placing gone =
    no_place (atoms_in m) (out_sections m.files (atoms_in m)) m.slots m.islands (sizes_of m.command m.libs (length m.info)) m.command layout key (keys_apart m placing.rising) placing.layout_of (λ atom h named. by atom h named)
  where
    by : (atom : Atom) → In atom (atoms_in m) → atom.key ≡ key → ⊥
    by atom h named =
        let one = from_map atom_of (kept_of m) atom h in
        false≢true (sym gone ∙ ap (has m.keys) (sym named ∙ ap (λ (a : Atom). a.key) (sym one.2)) ∙ kept_has m one.0 one.1)

-- ---- offsets

base_is : (m : ImageInputs) → (plan_for m).base ≡ base_of m.command
unfolding plan_with plan_of
base_is m = refl

-- a place in an atom is within 2^32 bytes from the image's first address
near : (m : ImageInputs) (layout : Layout) (key : AtomKey) (size offset : ℕ) → IsPlacing m layout → HasPlace (plan_for m) layout key size → offset ≤ size → place_offset (scene_of m layout) key offset < 2 ^ 32
unfolding place_offset
near m layout key size offset placing has inside =
    let plan = plan_for m in
    let bounds = stands_within plan key size has.address has.standing in
    let base : plan.base ≡ base_of m.command = base_is m in
    let small : end_of_image plan - plan.base < 2 ^ 32 = placing.small in
    let low : has.address + offset - base_of m.command < 2 ^ 32 = omega (arith, bounds.0, bounds.1, base, small, inside) in
    subst (λ (o : Option ℕ). offset_of (base_of m.command) (option_map (λ (at : ℕ). at + offset) o) < 2 ^ 32) (sym has.stood) low

nothing_near : (m : ImageInputs) (layout : Layout) (key : AtomKey) (offset : ℕ) → address_in layout.placed key ≡ None → place_offset (scene_of m layout) key offset < 2 ^ 32
unfolding place_offset
nothing_near m layout key offset none =
    let low : 0 < 2 ^ 32 = omega arith in
    subst (λ (o : Option ℕ). offset_of (base_of m.command) (option_map (λ (at : ℕ). at + offset) o) < 2 ^ 32) (sym none) low

-- ---- slots

slots_within : (m : ImageInputs) (layout : Layout) → IsPlacing m layout → AreWithin (base_of m.command) m.slots layout.sections
unfolding plan_with plan_of image_sections spaced listed_atoms
slots_within m layout placing =
    let plan = plan_for m in
    let small = placing.small in
    subst (λ (there : List PlacedSection). AreWithin (base_of m.command) m.slots there) (sym placing.layout_of.sections)
    (within plan.atoms (base_of m.command) 0 plan.lead (out_sections m.files (atoms_in m)) m.slots (sizes_of m.command m.libs (length m.info)) (record { none = refl; have_atoms = have_atoms m.files (atoms_in m) }) (omega (arith, small)) (sections_aligned plan))

slot_near : (m : ImageInputs) (layout : Layout) (goal : Goal) → IsPlacing m layout → offset_of (base_of m.command) (slot_address (starts_of layout.sections) m.slots Got goal) < 2 ^ 32
unfolding starts_of Rattle.slot_place.specs.Places.address_from
slot_near m layout goal placing = by (number_of m.slots.got goal) refl (own_section layout.sections Got) refl
  where
    none : 0 < 2 ^ 32
    none = omega arith

    by : (n : Option ℕ) → number_of m.slots.got goal ≡ n → (p : Option PlacedSection) → own_section layout.sections Got ≡ p
        → offset_of (base_of m.command) (option_and_then (λ number. option_map (λ at. unit_at 8 at number) (option_map (λ (placed : PlacedSection). placed.address) p)) n) < 2 ^ 32
    by None e p f = none
    by (Some n) e None f = none
    by (Some n) e (Some p) f =
        let is : AreNear (base_of m.command) 8 p.address m.slots.got = (slots_within m layout placing).near Got p f in
        let before = is.before in
        let low = (position-Some (λ (other : Goal). is_eq (compare_goals other goal)) m.slots.got n Nobody e).0 in
        omega (arith, before, low)

-- ---- the row of an entry

function_is : (s : Scene) (one : KeptUnwind) (address : ℕ) → address_in s.layout.placed one.unwind.atom ≡ Some address → (row_of s one).function ≡ address + one.unwind.offset - s.base
unfolding row_of place_offset
function_is s one address e = ap (λ (o : Option ℕ). offset_of s.base (option_map (λ (at : ℕ). at + one.unwind.offset) o)) e

end_is : (s : Scene) (one : KeptUnwind) → (row_of s one).end ≡ (row_of s one).function + one.unwind.length
unfolding row_of
end_is s one = refl

-- an entry with its place: of an atom that stands in the image it has some bytes
record IsSpread (m : ImageInputs) (layout : Layout) (one : KeptUnwind) : Type 0 where
  size : ℕ
  has : HasPlace (plan_for m) layout one.unwind.atom size
  some : 0 < one.unwind.length
  inside : one.unwind.offset + one.unwind.length ≤ size
  fields : AreFields (row_of (scene_of m layout) one)

-- the language-specific data of an entry
data_near : (m : ImageInputs) (layout : Layout) (one : KeptUnwind) (is : IsKeptEntry m one) → IsPlacing m layout → IsOfObject m one is.file → (row_of (scene_of m layout) one).lsda < 2 ^ 32
unfolding row_of
data_near m layout one is placing of = by one.unwind.lsda refl
  where
    s : Scene
    s = scene_of m layout

    none : 0 < 2 ^ 32
    none = omega arith

    placed : (place : AtomKey × ℕ) → IsPlaceIn is.file.object is.file.id place → (b : Bool) → has m.keys place.0 ≡ b → place_offset s place.0 place.1 < 2 ^ 32
    placed place in_atom true kept =
        let bytes : HasItsBytes is.file.object in_atom.atom = all_in (HasItsBytes is.file.object) (atoms_of is.file.object is.file.id) in_atom.atom (recursion_from_All (HasItsBytes is.file.object) (atoms_of is.file.object is.file.id) (atoms_have_bytes is.file.object is.file.id of.whole.object)) in_atom.among in
        let there = piece_place m layout one.file is.file in_atom.atom bytes.section placing is.there of.whole in_atom.among bytes.numbered (ap (has m.keys) in_atom.named ∙ kept) in
        subst (λ (key : AtomKey). place_offset s key place.1 < 2 ^ 32) in_atom.named (near m layout in_atom.atom.key in_atom.atom.size place.1 placing there in_atom.within)
    placed place in_atom false gone = nothing_near m layout place.0 place.1 (absent m layout place.0 placing gone)

    by : (o : Option (AtomKey × ℕ)) → one.unwind.lsda ≡ o → option_map_or (λ (lsda : AtomKey × ℕ). place_offset s lsda.0 lsda.1) one.unwind.lsda 0 < 2 ^ 32
    by None e = rw e none
    by (Some place) e = rw e (placed place (of.entry.lsda place e) (has m.keys place.0) refl)

personality_near : (m : ImageInputs) (layout : Layout) (one : KeptUnwind) → IsPlacing m layout → (row_of (scene_of m layout) one).personality < 2 ^ 32
unfolding row_of slot_offset
personality_near m layout one placing = by one.unwind.personality
  where
    none : 0 < 2 ^ 32
    none = omega arith

    by : (o : Option Target) → option_map_or (slot_offset (scene_of m layout) one.file) o 0 < 2 ^ 32
    by None = none
    by (Some target) = slot_near m layout _ placing

spread_one : (m : ImageInputs) (layout : Layout) (one : KeptUnwind) → IsPlacing m layout → HaveFrames m → In one m.unwinds → IsSpread m layout one
spread_one m layout one placing frames h =
    let s = scene_of m layout in
    let is = kept_entry m one frames.kept h in
    let of = of_object m one is placing.whole.files frames.read in
    let part = of.part in
    let named : part.atom.key ≡ one.unwind.atom = part.key in
    let piece = in_from_Contains (atoms_of is.file.object is.file.id) part.atom part.among in
    let numbered = ap (λ (key : AtomKey). section_numbered is.file.object.sections key.section) named ∙ of.entry.function.numbered in
    let there = piece_place m layout one.file is.file part.atom of.entry.function.section placing is.there of.whole piece numbered (ap (has m.keys) named ∙ is.kept) in
    let has_it = subst (λ (key : AtomKey). HasPlace (plan_for m) layout key part.atom.size) named there in
    let plan = plan_for m in
    let bounds = stands_within plan one.unwind.atom part.atom.size has_it.address has_it.standing in
    let base : plan.base ≡ base_of m.command = base_is m in
    let small : end_of_image plan - plan.base < 2 ^ 32 = placing.small in
    let function = function_is s one has_it.address has_it.stood in
    let end = end_is s one in
    let inside = part.within in
    record {
      size = part.atom.size;
      has = has_it;
      some = part.some;
      inside = inside;
      fields = record {
        function = omega (arith, function, bounds.0, bounds.1, base, small, inside);
        end = omega (arith, end, function, bounds.0, bounds.1, base, small, inside);
        lsda = data_near m layout one is placing of;
        personality = personality_near m layout one placing;
      };
    }

-- ---- two entries

same_atom : (m : ImageInputs) (layout : Layout) (a b : KeptUnwind) → IsPlacing m layout → IsSpread m layout a → IsSpread m layout b → a.unwind.atom ≡ b.unwind.atom → (a.unwind.offset + a.unwind.length ≤ b.unwind.offset) ⊎ (b.unwind.offset + b.unwind.length ≤ a.unwind.offset) → AreBeside (row_of (scene_of m layout) a) (row_of (scene_of m layout) b)
same_atom m layout a b placing one other same apart =
    let s = scene_of m layout in
    let plan = plan_for m in
    let bounds = stands_within plan a.unwind.atom one.size one.has.address one.has.standing in
    let base : plan.base ≡ base_of m.command = base_is m in
    let stood : address_in layout.placed b.unwind.atom ≡ Some one.has.address = ap (address_in layout.placed) (sym same) ∙ one.has.stood in
    let first = function_is s a one.has.address one.has.stood in
    let second = function_is s b one.has.address stood in
    let first_end = end_is s a in
    let second_end = end_is s b in
    elim apart [
      | inl before ↦ inl (omega (arith, before, first, second, first_end, bounds.0, base))
      | inr behind ↦ inr (omega (arith, behind, first, second, second_end, bounds.0, base))
    ]

other_atom : (m : ImageInputs) (layout : Layout) (a b : KeptUnwind) → IsPlacing m layout → IsSpread m layout a → IsSpread m layout b → (a.unwind.atom ≡ b.unwind.atom → ⊥) → AreBeside (row_of (scene_of m layout) a) (row_of (scene_of m layout) b)
other_atom m layout a b placing one other differ =
    let s = scene_of m layout in
    let plan = plan_for m in
    let bounds = stands_within plan a.unwind.atom one.size one.has.address one.has.standing in
    let beyond = stands_within plan b.unwind.atom other.size other.has.address other.has.standing in
    let base : plan.base ≡ base_of m.command = base_is m in
    let first = function_is s a one.has.address one.has.stood in
    let second = function_is s b other.has.address other.has.stood in
    let first_end = end_is s a in
    let second_end = end_is s b in
    let room = one.inside in
    let beside = other.inside in
    elim (stands_apart plan a.unwind.atom b.unwind.atom one.size other.size one.has.address other.has.address one.has.standing other.has.standing differ) [
      | inl before ↦ inl (omega (arith, before, first, second, first_end, room, bounds.0, beyond.0, base))
      | inr behind ↦ inr (omega (arith, behind, first, second, second_end, beside, bounds.0, beyond.0, base))
    ]

not_tied : (a b : AtomKey) (r : Ordering) → compare_keys a b ≡ r → (r ≡ Equal → ⊥) → a ≡ b → ⊥
not_tied a b r e other same = other (sym e ∙ ap (λ (k : AtomKey). compare_keys k b) same ∙ tied_itself compare_keys_total b)

beside_one : (m : ImageInputs) (layout : Layout) (a b : KeptUnwind) → IsPlacing m layout → IsSpread m layout a → IsSpread m layout b → StandApart a b → AreBeside (row_of (scene_of m layout) a) (row_of (scene_of m layout) b)
beside_one m layout a b placing one other apart = by (compare_keys a.unwind.atom b.unwind.atom) refl
  where
    by : (r : Ordering) → compare_keys a.unwind.atom b.unwind.atom ≡ r → AreBeside (row_of (scene_of m layout) a) (row_of (scene_of m layout) b)
    by Less e = other_atom m layout a b placing one other (not_tied a.unwind.atom b.unwind.atom Less e (λ f. cc))
    by Equal e = let same = same_key a.unwind.atom b.unwind.atom e in same_atom m layout a b placing one other same (apart same)
    by Greater e = other_atom m layout a b placing one other (not_tied a.unwind.atom b.unwind.atom Greater e (λ f. cc))

-- ---- all entries

pub spread : (m : ImageInputs) (layout : Layout) → IsWholeLoaded (record { files = m.files }) → AreRising (kept_of m) → AreLow (kept_of m) → HaveFrames m → IsLayoutOf m.command (plan_for m) layout → image_size (plan_for m) < 2 ^ 32 → AreSpread (scene_of m layout) m.unwinds
spread m layout whole rising low frames layout_of small = record {
  some = All-from_recursion Some_bytes m.unwinds (all_from_in Some_bytes m.unwinds (λ one h. (each one h).some));
  fields = All-from_recursion Has_fields m.unwinds (all_from_in Has_fields m.unwinds (λ one h. (each one h).fields));
  beside = all_pairs Beside m.unwinds (pairs_weaker StandApart Beside m.unwinds (λ a b h k apart. beside_one m layout a b placing (each a h) (each b k) apart) (stand_apart m frames.kept whole.rises frames.read));
}
  where
    placing : IsPlacing m layout
    placing = record { whole = whole; rising = rising; layout_of = layout_of; small = small }

    each : (one : KeptUnwind) → In one m.unwinds → IsSpread m layout one
    each one h = spread_one m layout one placing frames h

    Some_bytes : KeptUnwind → Type 0
    Some_bytes one = 0 < one.unwind.length

    Has_fields : KeptUnwind → Type 0
    Has_fields one = AreFields (row_of (scene_of m layout) one)

    Beside : KeptUnwind → KeptUnwind → Type 0
    Beside a b = AreBeside (row_of (scene_of m layout) a) (row_of (scene_of m layout) b)

-- they are of atoms of `__TEXT`

-- Files as they are read: in order, each cut into the pieces of its object, with the object's unwind entries.
pub record AreRead (files : List LoadedFile) : Type 0 where
  pub rises : AllPairs (λ (a : LoadedFile) (b : LoadedFile). IsBefore a.id b.id) files
  pub cut : All (λ (file : LoadedFile). file.atoms ≡ atoms_of file.object file.id) files
  pub few : All (λ (file : LoadedFile). length file.object.sections ≤ 255) files
  pub unwinds : AreUnwound files

pub read_text : (m : ImageInputs) → AreRead m.files → m.unwinds ≡ kept_unwinds m.keys m.files → AreOfText (out_sections m.files (map atom_of (kept_of m))) m.unwinds
read_text m read are = All-from_recursion Listed m.unwinds (all_from_in Listed m.unwinds each)
  where
    Listed : KeptUnwind → Type 0
    Listed one = Contains (keys_of (filter (is_in (codes "__TEXT")) (out_sections m.files (map atom_of (kept_of m))))) one.unwind.atom

    each : (one : KeptUnwind) → In one m.unwinds → Listed one
    each one h =
        let is = kept_entry m one are h in
        let cut = all_in (λ (file : LoadedFile). file.atoms ≡ atoms_of file.object file.id) m.files is.file (recursion_from_All (λ (file : LoadedFile). file.atoms ≡ atoms_of file.object file.id) m.files read.cut) is.among in
        let few_sections = all_in (λ (file : LoadedFile). length file.object.sections ≤ 255) m.files is.file (recursion_from_All (λ (file : LoadedFile). length file.object.sections ≤ 255) m.files read.few) is.among in
        let entry = is_entry is.file.object is.file.id is.file.unwinds one.unwind (unwound_of m is.file read.unwinds is.among) is.of_file in
        let function : IsOfText is.file.object one.unwind = entry.function in
        let part = part_of m is.file one.unwind read.unwinds is.among is.of_file in
        let named : part.atom.key ≡ one.unwind.atom = part.key in
        let piece = in_from_Contains (atoms_of is.file.object is.file.id) part.atom part.among in
        let kept : KeptAtom = kept_as m.literals one.file part.atom in
        let among = kept_piece m one.file is.file part.atom is.there cut piece (ap (has m.keys) named ∙ is.kept) in
        let key : kept.atom.key ≡ part.atom.key = raised_key m part.atom in
        let numbered = ap (λ (k : AtomKey). section_numbered is.file.object.sections k.section) named ∙ function.numbered in
        let home = section_home m.files one.file is.file part.atom.key.section function.section read.rises is.there few_sections numbered in
        let goes : home_of m.files kept.atom.key.file kept.atom.key.section ≡ Some (home_in function.section) =
        ap (λ (k : AtomKey). home_of m.files k.file k.section) key ∙ ap (λ (id : _). home_of m.files id part.atom.key.section) (atoms_of_file is.file.object is.file.id part.atom piece) ∙ home in
        subst (λ (k : AtomKey). Contains (keys_of (filter (is_in (codes "__TEXT")) (out_sections m.files (map atom_of (kept_of m))))) k) (key ∙ named)
        (text_listed m.files (map atom_of (kept_of m)) kept.atom (home_in function.section) (in_map atom_of (kept_of m) kept among) goes (text_home function.section function.text))

pub of_text : (m : ImageInputs) → IsWholeLoaded (record { files = m.files }) → AreRising (kept_of m) → HaveFrames m → AreOfText (out_sections m.files (map atom_of (kept_of m))) m.unwinds
of_text m whole rising frames =
    read_text m (record { rises = whole.rises; cut = λ k d low. (whole.files k d low).atoms; few = λ k d low. (whole.files k d low).object.few_sections; unwinds = frames.read }) frames.kept
