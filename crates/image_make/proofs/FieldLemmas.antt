-- The references of the atoms of an image have fields that lie apart in them.
use Rattle.std.proofs.Common.{◌≡◌, ℕ, ◌+◌, ◌-◌, ◌<◌, ◌≤◌, ◌^◌, ◌==◌, ◌⊎◌, inl, inr, ℤ, pos, Bool, true, false, List, [], ◌∷◌, length, take, drop, Option, Some, None, Ok, Contains, refl, sym, ap, ◌∙◌, subst, arith, if◌then◌else◌}
use Rattle.std.specs.Prelude.{All, slice_get}
use Rattle.std.specs.List.{AllPairs, filter_map}
use Rattle.std.specs.Option.{option_map, option_map_or}
use Rattle.std.proofs.lemmas.Bool.{eqb-true}
use Rattle.std.proofs.lemmas.List.{take-append-drop}
use Rattle.std.proofs.lemmas.List.Elements.{All-contains, All-from_recursion, All-head, All-tail}
use Rattle.list_lemmas.proofs.Members.{Contains_from_in, In, all_from_in, from_filter, from_filter_map, in_either}
use Rattle.fixup_chain.specs.declared.chains.ChainWord.{ChainWord}
use Rattle.mo_types.specs.AtomBytes.{atom_bytes}
use Rattle.mo_types.specs.Loaded.{IsWholeFile}
use Rattle.mo_types.specs.Refs as refs
use Rattle.mo_types.specs.Rows.{field_size}
use Rattle.mo_types.specs.declared.atom.Atom.{Atom}
use Rattle.mo_types.specs.declared.goal.Goal.{Goal}
use Rattle.mo_types.specs.declared.key.AtomKey.{AtomKey}
use Rattle.mo_types.specs.declared.key.TheConstants.{COMMON_SECTION}
use Rattle.mo_types.specs.declared.loaded.LoadedFile.{LoadedFile}
use Rattle.mo_types.specs.declared.reference.Ref.{Ref}
use Rattle.mo_types.specs.declared.reference.RefKind.{RefKind}
use Rattle.mo_types.specs.declared.reference.RefKind.TheVariants.{Pointer, Diff32, Diff64, Branch, Page, PageOff, GotPage, GotPageOff, GotDelta, GotPointer, TlvPage, TlvPageOff}
use Rattle.literal_merge.proofs.RepresentativeLemmas.{atoms_of_file}
use Rattle.liveness.specs.Order.{place_of}
use Rattle.patch.specs.Patched.{AreApart, size_of}
use Rattle.patch.specs.Range.{AreWork, HasFields, bytes_of}
use Rattle.patch.specs.declared.met.Met.{Met}
use Rattle.patch.specs.declared.range.PlacedWork.{PlacedWork}
use Rattle.patch.proofs.ChosenLemmas.{Pairs, all_pairs, from_mapped, from_then, in_slice, pairs_filter}
use Rattle.patch.proofs.ReferenceLemmas.{LieApart, apart_refs, atom_low, low_offset, within_atom}
use Rattle.ref_meet.specs.Addresses.{address_by}
use Rattle.ref_meet.specs.Mets.{chained_met, met_by, met_of, met_with, mets_of, minus_address, added, pointer_met, told_met, word_at}
use Rattle.ref_meet.specs.Scene.{Scene, goal_of, is_ref_of, refs_among, refs_of}
use Rattle.ref_meet.specs.Template.{holds_offset, template_offset}
use Rattle.sect_place.specs.Whole.{AreInSegments, IsIn, IsWholeSegment}
use Rattle.sect_place.specs.declared.layout.Layout.{Layout}
use Rattle.sect_place.specs.declared.layout.PlacedSection.{PlacedSection}
use Rattle.sect_place.specs.declared.layout.Segment.{Segment}
use Rattle.slot_needs.specs.Needs.{way_of}
use Rattle.slot_plan.specs.declared.need.Way.{Way}
use Rattle.image_make.specs.Atoms.{AreLow, AreRising, raised}
use Rattle.image_make.specs.Made.{IsLaid, ImageInputs, kept_of, rows_of, scene_of}
use Rattle.image_make.specs.Parts.{linkedit_offset}
use Rattle.image_make.proofs.RefLemmas.{section_low}
use Rattle.image_make.proofs.RoomLemmas.{whole_layout}
use Rattle.image_make.proofs.Rowed.{row_in}
use Rattle.image_make.proofs.WorkLemmas.{IsOfFile, IsPieceOf, are_standing, few_bytes, row_of_file}

-- ---- a reference that is met has its own place and kind

pub record IsMetOf (r : Ref) (met : Met) : Type 0 where
  pub value : ℕ
  pub minus : ℕ
  pub addend : ℤ
  pub is : met_with r value minus addend ≡ met

chained_is : (words : List ChainWord) (item : PlacedWork) (r : Ref) (met : Met) → chained_met words item r ≡ Some met → IsMetOf r met
chained_is words item r met e =
    let found = from_mapped (λ (word : ℕ). met_with r word 0 (pos 0)) (word_at words (item.address + r.place)) met e in
    record { value = found.0; minus = 0; addend = pos 0; is = found.2 }

pointer_is : (scene : Scene) (words : List ChainWord) (item : PlacedWork) (r : Ref) (goal : Goal) (met : Met) → pointer_met scene words item r goal ≡ Some met → IsMetOf r met
pointer_is scene words item r goal met e = by (holds_offset scene.files item goal) e
  where
    by : (b : Bool) → (if b then option_map (λ (offset : ℕ). met_with r offset 0 r.addend) (template_offset scene goal) else chained_met words item r) ≡ Some met → IsMetOf r met
    by true is =
        let found = from_mapped (λ (offset : ℕ). met_with r offset 0 r.addend) (template_offset scene goal) met is in
        record { value = found.0; minus = 0; addend = r.addend; is = found.2 }
    by false is = chained_is words item r met is

told_is : (scene : Scene) (item : PlacedWork) (r : Ref) (way : Option Way) (goal : Goal) (met : Met) → told_met scene item r way goal ≡ Some met → IsMetOf r met
told_is scene item r way goal met e =
    let value = from_then (λ (v : ℕ). option_map (λ (minus : ℕ). met_with r v minus (added way r)) (minus_address scene item r)) (address_by scene way goal) met e in
    let minus = from_mapped (λ (minus : ℕ). met_with r value.0 minus (added way r)) (minus_address scene item r) met value.2 in
    record { value = value.0; minus = minus.0; addend = added way r; is = minus.2 }

by_kind : (kind : RefKind) (scene : Scene) (words : List ChainWord) (item : PlacedWork) (r : Ref) (goal : Goal) (met : Met) → met_by kind scene words item r goal ≡ Some met → IsMetOf r met
by_kind Pointer scene words item r goal met e = pointer_is scene words item r goal met e
by_kind GotPointer scene words item r goal met e = chained_is words item r met e
by_kind Diff32 scene words item r goal met e = told_is scene item r (way_of Diff32 r.addend goal) goal met e
by_kind Diff64 scene words item r goal met e = told_is scene item r (way_of Diff64 r.addend goal) goal met e
by_kind Branch scene words item r goal met e = told_is scene item r (way_of Branch r.addend goal) goal met e
by_kind Page scene words item r goal met e = told_is scene item r (way_of Page r.addend goal) goal met e
by_kind PageOff scene words item r goal met e = told_is scene item r (way_of PageOff r.addend goal) goal met e
by_kind GotPage scene words item r goal met e = told_is scene item r (way_of GotPage r.addend goal) goal met e
by_kind GotPageOff scene words item r goal met e = told_is scene item r (way_of GotPageOff r.addend goal) goal met e
by_kind GotDelta scene words item r goal met e = told_is scene item r (way_of GotDelta r.addend goal) goal met e
by_kind TlvPage scene words item r goal met e = told_is scene item r (way_of TlvPage r.addend goal) goal met e
by_kind TlvPageOff scene words item r goal met e = told_is scene item r (way_of TlvPageOff r.addend goal) goal met e

pub as_met : (scene : Scene) (words : List ChainWord) (item : PlacedWork) (r : Ref) (met : Met) → met_of scene words item r ≡ Some met → IsMetOf r met
unfolding met_of
as_met scene words item r met e = by_kind r.kind scene words item r (goal_of scene item.file r.target) met e

-- ---- the references of a row

refs_are : (files : List LoadedFile) (item : PlacedWork) (file : LoadedFile) → slice_get files item.file ≡ Some file → refs_of files item ≡ refs_among file.refs item.atom.key
unfolding refs_of
refs_are files item file there = ap (λ (o : Option LoadedFile). option_map_or (λ (f : LoadedFile). refs_among f.refs item.atom.key) o []) there

-- a reference of a row is one of its file's and of its atom, whose bytes have its field
pub record IsRefOf (m : ImageInputs) (row : PlacedWork) (r : Ref) : Type 0 where
  pub file : LoadedFile
  pub there : slice_get m.files row.file ≡ Some file
  pub whole : IsWholeFile file
  pub among : In r file.refs
  pub section : r.atom.section ≡ row.atom.key.section
  pub offset : r.atom.offset ≡ row.atom.key.offset
  pub piece : IsPieceOf m.literals file row.atom
  pub within : r.place + field_size r.kind ≤ length (bytes_of m.files row)

far : (r : Ref) (offset : ℕ) → r.atom.section ≤ 255 → r.atom.offset < 2 ^ 31 → place_of r.atom.section r.atom.offset ≡ place_of 256 offset → ⊥
far r offset few low e = omega (arith, few, low, e)

bytes_are : (m : ImageInputs) (row : PlacedWork) (file : LoadedFile) (among : Atom) → slice_get m.files row.file ≡ Some file → raised m.literals among ≡ row.atom → bytes_of m.files row ≡ atom_bytes file.object among
unfolding bytes_of raised
bytes_are m row file among there is =
    ap (λ (o : Option LoadedFile). option_map_or (λ (f : LoadedFile). atom_bytes f.object row.atom) o []) there
    ∙ ap (λ (a : Atom). atom_bytes file.object a) (sym is)

key_of_raised : (m : ImageInputs) (row : PlacedWork) (among : Atom) → raised m.literals among ≡ row.atom → among.key ≡ row.atom.key
unfolding raised
key_of_raised m row among is = ap (λ (a : Atom). a.key) is

-- a piece is of its file
pub row_key_file : (m : ImageInputs) (row : PlacedWork) (file : LoadedFile) → IsWholeFile file → IsPieceOf m.literals file row.atom → row.atom.key.file ≡ file.id
row_key_file m row file whole (among, listed, is) =
    ap (λ (k : AtomKey). k.file) (sym (key_of_raised m row among is)) ∙ atoms_of_file file.object file.id among (subst (λ (xs : List Atom). In among xs) whole.atoms listed)

whole_at : (m : ImageInputs) (row : PlacedWork) (file : LoadedFile) → All IsWholeFile m.files → slice_get m.files row.file ≡ Some file → IsWholeFile file
whole_at m row file whole there = All-contains IsWholeFile m.files file whole (Contains_from_in m.files file (in_slice m.files row.file file there))

pub ref_of_row : (m : ImageInputs) (layout : Layout) (row : PlacedWork) (r : Ref) → All IsWholeFile m.files → In row (rows_of m layout) → In r (refs_of m.files row) → IsRefOf m row r
ref_of_row m layout row r whole h k = by of.from
  where
    of : IsOfFile m row
    of = row_of_file m layout row h

    file : IsWholeFile of.file
    file = whole_at m row of.file whole of.there

    passed : In r of.file.refs × ((place_of r.atom.section r.atom.offset == place_of row.atom.key.section row.atom.key.offset) ≡ true)
    passed = from_filter (is_ref_of row.atom.key.section row.atom.key.offset) of.file.refs r (subst (λ (rs : List Ref). In r rs) (refs_are m.files row of.file of.there) k)

    same : place_of r.atom.section r.atom.offset ≡ place_of row.atom.key.section row.atom.key.offset
    same = eqb-true (place_of r.atom.section r.atom.offset) (place_of row.atom.key.section row.atom.key.offset) passed.1

    low : r.atom.offset < 2 ^ 31
    low = low_offset of.file.object of.file.id of.file.refs r file.refs passed.0

    by : IsPieceOf m.literals of.file row.atom ⊎ (row.atom.key.section ≡ COMMON_SECTION) → IsRefOf m row r
    by (inr common) = absurd (far r row.atom.key.offset (section_low of.file r file passed.0) low (same ∙ ap (λ (s : ℕ). place_of s row.atom.key.offset) common))
    by (inl (among, listed, is)) =
        let key = key_of_raised m row among is in
        let here : In among (Rattle.mo_types.specs.Atoms.atoms_of of.file.object of.file.id) = subst (λ (xs : List Atom). In among xs) file.atoms listed in
        let small : among.key.offset < 2 ^ 63 = atom_low of.file.object of.file.id among file.object here in
        let small_row : row.atom.key.offset < 2 ^ 63 = subst (λ (k : AtomKey). k.offset < 2 ^ 63) key small in
        let section : r.atom.section ≡ row.atom.key.section = omega (arith, same, low, small_row) in
        let offset : r.atom.offset ≡ row.atom.key.offset = omega (arith, same, low, small_row) in
        record {
          file = of.file;
          there = of.there;
          whole = file;
          among = passed.0;
          section = section;
          offset = offset;
          piece = (among, listed, is);
          within = subst (λ (bs : List ℕ). r.place + field_size r.kind ≤ length bs) (sym (bytes_are m row of.file among of.there is))
              (within_atom of.file.object of.file.id of.file.refs among r file.object file.refs here passed.0 (section ∙ ap (λ (k : AtomKey). k.section) (sym key)) (offset ∙ ap (λ (k : AtomKey). k.offset) (sym key)));
        }

-- ---- their fields

-- what is found of pairs
pub pairs_found : {X Y : Type 0} (f : X → Option Y) (R : X → X → Type 0) (S : Y → Y → Type 0) (xs : List X) → ((a b : X) (x y : Y) → In a xs → In b xs → f a ≡ Some x → f b ≡ Some y → R a b → S x y) → Pairs R xs → Pairs S (filter_map f xs)
pairs_found f R S [] leads pairs = tt
pairs_found {Y = Y} f R S (a ∷ xs) leads pairs = by (f a) refl (pairs_found f R S xs (λ b c x y h k. leads b c x y (inr h) (inr k)) pairs.1)
  where
    by : (o : Option Y) → f a ≡ o → Pairs S (filter_map f xs) → Pairs S (filter_map f (a ∷ xs))
    by None e rest = rw e rest
    by (Some x) e rest = rw e ((λ y h. let found = from_filter_map f xs y h in leads a found.0 x y (inl refl) (inr found.1) e found.2 (pairs.0 found.0 found.1)), rest)

-- the fields of two references lie apart
abbrev pub Beside : Ref → Ref → Type 0
Beside a b = (a.place + field_size a.kind ≤ b.place) ⊎ (b.place + field_size b.kind ≤ a.place)

-- the references of a file are those of its object, or there are none
abbrev pub HasRefs : LoadedFile → Type 0
HasRefs file = (refs.refs_of file.object file.id ≡ Ok file.refs) ⊎ (file.refs ≡ [])

among_apart : (file : LoadedFile) (key : AtomKey) → HasRefs file → Pairs Beside (refs_among file.refs key)
among_apart file key (inr none) = rw none tt
among_apart file key (inl read) =
    Rattle.patch.proofs.ChosenLemmas.pairs_weaker LieApart Beside (refs_among file.refs key) lie (pairs_filter LieApart (is_ref_of key.section key.offset) file.refs (apart_refs file.object file.id file.refs read))
  where
    lie : (a b : Ref) → In a (refs_among file.refs key) → In b (refs_among file.refs key) → LieApart a b → Beside a b
    lie a b h k apart =
        let first = from_filter (is_ref_of key.section key.offset) file.refs a h in
        let second = from_filter (is_ref_of key.section key.offset) file.refs b k in
        let low = low_offset file.object file.id file.refs a read first.0 in
        let small = low_offset file.object file.id file.refs b read second.0 in
        let one = eqb-true (place_of a.atom.section a.atom.offset) (place_of key.section key.offset) first.1 in
        let other = eqb-true (place_of b.atom.section b.atom.offset) (place_of key.section key.offset) second.1 in
        apart (omega (arith, one, other, low, small)) (omega (arith, one, other, low, small))

pub refs_beside : (files : List LoadedFile) (row : PlacedWork) → All HasRefs files → Pairs Beside (refs_of files row)
unfolding refs_of
refs_beside files row read = by (slice_get files row.file) refl
  where
    by : (o : Option LoadedFile) → slice_get files row.file ≡ o → Pairs Beside (option_map_or (λ (f : LoadedFile). refs_among f.refs row.atom.key) o [])
    by None e = tt
    by (Some file) e = among_apart file row.atom.key (All-contains HasRefs files file read (Contains_from_in files file (in_slice files row.file file e)))

met_apart : (scene : Scene) (words : List ChainWord) (item : PlacedWork) (a b : Ref) (x y : Met) → met_of scene words item a ≡ Some x → met_of scene words item b ≡ Some y → Beside a b → AreApart x y
met_apart scene words item a b x y as_x as_y apart =
    let one = as_met scene words item a x as_x in
    let two = as_met scene words item b y as_y in
    let lie : AreApart (met_with a one.value one.minus one.addend) (met_with b two.value two.minus two.addend) = apart in
    subst (λ (z : Met). AreApart x z) two.is (subst (λ (z : Met). AreApart z (met_with b two.value two.minus two.addend)) one.is lie)

pub mets_apart : (scene : Scene) (words : List ChainWord) (row : PlacedWork) → All HasRefs scene.files → AllPairs AreApart (mets_of scene words row)
unfolding mets_of
mets_apart scene words row read =
    all_pairs AreApart (filter_map (met_of scene words row) (refs_of scene.files row))
    (pairs_found (met_of scene words row) Beside AreApart (refs_of scene.files row) (λ a b x y h k. met_apart scene words row a b x y) (refs_beside scene.files row read))

-- the references of each row have fields that lie apart
pub rows_apart : (m : ImageInputs) (layout : Layout) (words : List ChainWord) → All HasRefs m.files → All (λ (row : PlacedWork). AllPairs AreApart (mets_of (scene_of m layout) words row)) (rows_of m layout)
rows_apart m layout words read = λ k d low. mets_apart (scene_of m layout) words (Rattle.std.proofs.Common.get_or (rows_of m layout) k d) read

fields_within : (m : ImageInputs) (layout : Layout) (words : List ChainWord) (row : PlacedWork) → All IsWholeFile m.files → In row (rows_of m layout) → All (λ (met : Met). met.place + size_of met ≤ length (bytes_of m.files row)) (mets_of (scene_of m layout) words row)
unfolding mets_of
fields_within m layout words row whole h = All-from_recursion Fit mets (all_from_in Fit mets each)
  where
    mets : List Met
    mets = filter_map (met_of (scene_of m layout) words row) (refs_of m.files row)

    Fit : Met → Type 0
    Fit met = met.place + size_of met ≤ length (bytes_of m.files row)

    each : (met : Met) → In met mets → Fit met
    each met k =
        let from = from_filter_map (met_of (scene_of m layout) words row) (refs_of m.files row) met k in
        let one = as_met (scene_of m layout) words row from.0 met from.2 in
        let of = ref_of_row m layout row from.0 whole h from.1 in
        let fits : Fit (met_with from.0 one.value one.minus one.addend) = of.within in
        subst Fit one.is fits

-- ---- addresses are low

pub placed_low : (segments : List Segment) (sections : List PlacedSection) (section : PlacedSection) → All IsWholeSegment segments → AreInSegments segments sections → In section sections → section.address + section.size < 2 ^ 63
placed_low [] sections section whole are h = absurd (subst (λ (ss : List PlacedSection). In section ss) are h)
placed_low (segment ∷ segments) sections section whole are h =
    elim (in_either (take segment.sections sections) (drop segment.sections sections) section (subst (λ (ss : List PlacedSection). In section ss) (sym (take-append-drop segment.sections sections)) h)) [
      | inl here ↦
          let first : IsWholeSegment segment = All-head IsWholeSegment segment segments whole in
          let small = first.small in
          let within : IsIn segment section = All-contains (IsIn segment) (take segment.sections sections) section are.1 (Contains_from_in (take segment.sections sections) section here) in
          omega (arith, small, within.1)
      | inr later ↦ placed_low segments (drop segment.sections sections) section (All-tail IsWholeSegment segment segments whole) are.2 later
    ]

pub row_low : (m : ImageInputs) (layout : Layout) (row : PlacedWork) → AreRising (kept_of m) → IsLaid m layout → In row (rows_of m layout) → row.address + row.atom.size < 2 ^ 63
row_low m layout row rising laid h =
    let in_section = row_in m layout row rising laid h in
    let whole = whole_layout m layout laid in
    let small = placed_low layout.segments layout.sections in_section.section whole.segments whole.sections in_section.among in
    let high = in_section.within.high in
    omega (arith, small, high)

pub fields_of : (m : ImageInputs) (layout : Layout) (words : List ChainWord) (row : PlacedWork) → All IsWholeFile m.files → AreRising (kept_of m) → IsLaid m layout → In row (rows_of m layout) → HasFields m.files (mets_of (scene_of m layout) words) row
fields_of m layout words row whole rising laid h =
    let low = row_low m layout row rising laid h in
    let few = few_bytes m.files row in
    record {
      addresses = omega (arith, low, few);
      within = fields_within m layout words row whole h;
      apart = mets_apart (scene_of m layout) words row (λ k d within. inl (whole k d within).refs);
    }

pub are_work : (m : ImageInputs) (layout : Layout) (words : List ChainWord) (size : ℕ) → All IsWholeFile m.files → AreRising (kept_of m) → AreLow (kept_of m) → IsLaid m layout → linkedit_offset layout.segments ≤ size → AreWork m.files (mets_of (scene_of m layout) words) 0 size (rows_of m layout)
are_work m layout words size whole rising low laid behind =
    record {
      stand = are_standing m layout size rising low laid behind;
      fields = All-from_recursion (HasFields m.files (mets_of (scene_of m layout) words)) (rows_of m layout) (all_from_in (HasFields m.files (mets_of (scene_of m layout) words)) (rows_of m layout)
          (λ row h. fields_of m layout words row whole rising laid h));
    }
