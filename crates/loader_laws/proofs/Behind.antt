-- The bytes of an atom that its object doesn't have are zeros in the image.
use Rattle.std.proofs.Common.{◌≡◌, ◌≢◌, ℕ, ◌+◌, ◌-◌, ◌<◌, ◌≤◌, ◌⊎◌, inl, inr, true, List, [], length, get_or, map, Some, sym, ap, ◌∙◌, arith, subst}
use Rattle.std.specs.Prelude.{All, slice_get}
use Rattle.std.specs.Ordering.{is_eq}
use Rattle.std.proofs.lemmas.Bool.{cases_Bool, cases_lt, false≢true}
use Rattle.std.proofs.lemmas.Option.{slice_get-get_or}
use Rattle.list_lemmas.proofs.Members.{In}
use Rattle.mo_types.specs.Keys.{compare_keys}
use Rattle.mo_types.specs.declared.atom.Atom.{Atom}
use Rattle.mo_types.specs.declared.key.AtomKey.{AtomKey}
use Rattle.patch.specs.Range.{IsBeside, bytes_of}
use Rattle.patch.specs.declared.range.PlacedWork.{PlacedWork}
use Rattle.sect_place.specs.Addresses.{address_in}
use Rattle.sect_place.specs.declared.layout.Layout.{Layout}
use Rattle.sect_place.specs.declared.layout.PlacedSection.{PlacedSection}
use Rattle.sect_place.specs.declared.layout.Segment.{Segment}
use Rattle.sect_place.proofs.Positions.{found_atom}
use Rattle.slot_place.specs.Places.{own_section}
use Rattle.slot_plan.specs.declared.need.Way.{Way}
use Rattle.image_make.specs.Atoms.{atom_of, kept_at}
use Rattle.image_make.specs.Made.{IsLaid, ImageInputs, front_of, kept_of, plan_for, rows_of}
use Rattle.image_make.specs.Parts.{info_section, linkedit_offset}
use Rattle.image_make.specs.declared.kept.KeptAtom.{KeptAtom}
use Rattle.image_make.proofs.RoomLemmas.{counts}
use Rattle.image_make.proofs.WorkLemmas.{few_bytes}
use Rattle.image_read.specs.Mapped.{mapped}
use Rattle.image_laws.specs.Means.{AreRising, Imaged}
use Rattle.image_laws.proofs.Begun.{beside_atoms, image_long}
use Rattle.image_laws.proofs.Blank.{zero_byte}
use Rattle.image_laws.proofs.InfoPlace.{info_bare}
use Rattle.image_laws.proofs.Layouts.{HasPlace, all_places, is_plan, own_bare, place_before, row_at_place, same_section, stored_place}
use Rattle.image_laws.proofs.Mapping.{section_stored}
use Rattle.image_laws.proofs.Planned.{in_turn}
use Rattle.image_laws.proofs.Rowed.{IsRowIn, find_mapped, row_in}
use Rattle.image_laws.proofs.Turned.{InTurn, IsAt, one_address}
use Rattle.link_files.proofs.Lists.{some_is}
use Rattle.loader_laws.proofs.Finding.{key_found, key_itself}
use Rattle.loader_laws.proofs.Spread.{row_spread, stand_apart}

-- two keys are one or differ
pub cases_key : (a b : AtomKey) → (a ≡ b) ⊎ (a ≢ b)
cases_key a b = elim (cases_Bool (is_eq (compare_keys a b))) [
  | inl tie ↦ inl (key_found a b tie)
  | inr differ ↦ inr (λ e. false≢true (sym differ ∙ subst (λ (k : AtomKey). is_eq (compare_keys a k) ≡ true) e (key_itself a)))
]

-- the kept atom of a row's key
row_known : (m : ImageInputs) (layout : Layout) (row : PlacedWork) (is : IsRowIn m layout row) → kept_at (kept_of m) row.atom.key ≡ Some is.kept
row_known m layout row is =
    let named : is.kept.atom.key ≡ is.key = (found_atom (map atom_of (kept_of m)) is.key is.kept.atom (find_mapped (kept_of m) is.key is.kept is.known)).0 in
    let key : is.key ≡ row.atom.key = sym named ∙ ap (λ (r : PlacedWork). r.atom.key) is.is in
    subst (λ (k : AtomKey). kept_at (kept_of m) k ≡ Some is.kept) key is.known

-- rows of one atom have the same bytes at the same address
record AreSame (m : ImageInputs) (a b : PlacedWork) : Type 0 where
  pub bytes : bytes_of m.files a ≡ bytes_of m.files b
  pub address : a.address ≡ b.address

same_rows : (m : ImageInputs) (layout : Layout) (a b : PlacedWork) → IsRowIn m layout a → IsRowIn m layout b → a.atom.key ≡ b.atom.key → AreSame m a b
unfolding bytes_of
same_rows m layout a b first second e =
    let kept : first.kept ≡ second.kept = some_is first.kept second.kept (sym (row_known m layout a first) ∙ ap (kept_at (kept_of m)) e ∙ row_known m layout b second) in
    let file : a.file ≡ b.file = sym (ap (λ (r : PlacedWork). r.file) first.is) ∙ ap (λ (k : KeptAtom). k.file) kept ∙ ap (λ (r : PlacedWork). r.file) second.is in
    let atom : a.atom ≡ b.atom = sym (ap (λ (r : PlacedWork). r.atom) first.is) ∙ ap (λ (k : KeptAtom). k.atom) kept ∙ ap (λ (r : PlacedWork). r.atom) second.is in
    record {
      bytes = ap (λ (n : ℕ). bytes_of m.files (record a { file = n })) file ∙ ap (λ (x : Atom). bytes_of m.files (record b { atom = x })) atom;
      address = some_is a.address b.address (sym first.stood ∙ ap (address_in layout.placed) e ∙ second.stood);
    }

-- a place in the file behind an atom's bytes, and before the atom's end, is part of no atom's bytes
clear_behind : (m : ImageInputs) (image : List ℕ) (of : Imaged m image) (row : PlacedWork) (k : ℕ) → AreRising m → In row (rows_of m of.layout) → length (bytes_of m.files row) ≤ k → k < row.atom.size → All (IsBeside m.files 0 (row.at + k)) (rows_of m of.layout)
clear_behind m image of row k rising h past low = all_places (IsBeside m.files 0 (row.at + k)) (rows_of m of.layout) each
  where
    clash : (other : PlacedWork) → In other (rows_of m of.layout) → other.at ≤ row.at + k → row.at + k < other.at + length (bytes_of m.files other) → IsBeside m.files 0 (row.at + k) other
    clash other h' begun short =
        let one = row_in m of.layout row rising of.is_image.laid h in
        let two = row_in m of.layout other rising of.is_image.laid h' in
        let here = row_at_place m of.layout row rising of.is_image.laid h in
        let there = row_at_place m of.layout other rising of.is_image.laid h' in
        let few = few_bytes m.files other in
        let stored = here.bytes (omega arith) in
        let stored' = there.bytes (omega arith) in
        let where_at = here.place in
        let where_at' = there.place in
        let above = here.low in
        let above' = there.low in
        let a : IsAt here.segment (row.address + k) (row.at + k) = (omega arith, omega arith, omega arith) in
        let b : IsAt there.segment (other.address + (row.at + k - other.at)) (row.at + k) = (omega arith, omega arith, omega arith) in
        let turn = subst (λ (ss : List Segment). InTurn 0 0 ss) (sym of.is_image.laid.layout_of.segments) (in_turn m.command (plan_for m) (is_plan m of.layout of.is_image.laid)) in
        let at : row.address + k ≡ other.address + (row.at + k - other.at) = one_address 0 0 of.layout.segments here.segment there.segment (row.address + k) (other.address + (row.at + k - other.at)) (row.at + k) turn here.among there.among a b in
        elim (cases_key row.atom.key other.atom.key) [
          | inl same ↦
              let rows = same_rows m of.layout row other one two same in
              let long : length (bytes_of m.files row) ≡ length (bytes_of m.files other) = ap length rows.bytes in
              let stands = rows.address in
              absurd (omega (arith, at, long, stands, past, begun, short))
          | inr differ ↦ elim (stand_apart m row.atom.key other.atom.key row.atom other.atom row.address other.address (row_spread m of.layout row rising of.is_image.laid h) (row_spread m of.layout other rising of.is_image.laid h') differ) [
            | inl before ↦ absurd (omega (arith, at, before, low, begun))
            | inr behind ↦ absurd (omega (arith, at, behind, few, begun, short))
          ]
        ]

    each : (other : PlacedWork) → In other (rows_of m of.layout) → IsBeside m.files 0 (row.at + k) other
    each other h' = elim (cases_lt (row.at + k) other.at) [
      | inl before ↦ inl (omega arith)
      | inr begun ↦ elim (cases_lt (row.at + k) (other.at + length (bytes_of m.files other))) [
        | inl short ↦ clash other h' begun short
        | inr gone ↦ inr (omega arith)
      ]
    ]

pub zero_behind : (m : ImageInputs) (image : List ℕ) (of : Imaged m image) (row : PlacedWork) (k : ℕ) → AreRising m → In row (rows_of m of.layout) → length (bytes_of m.files row) ≤ k → k < row.atom.size → mapped image (row.address + k) ≡ Some 0
zero_behind m image of row k rising h past low =
    ap (mapped image) (sym address) ∙ stored ∙ ap (slice_get image) place ∙ slice_get-get_or image (row.at + k) 0 (omega (arith, long, before)) ∙ ap Some zero
  where
    laid : IsLaid m of.layout
    laid = of.is_image.laid

    of_section : IsRowIn m of.layout row
    of_section = row_in m of.layout row rising laid h

    section : PlacedSection
    section = of_section.section

    from : section.address ≤ row.address
    from = of_section.within.low

    to : row.address + row.atom.size ≤ section.address + section.size
    to = of_section.within.high

    at : section.file_offset + (row.address - section.address) ≡ row.at
    at = ap (λ (r : PlacedWork). r.at) of_section.is

    stored : mapped image (section.address + (row.address - section.address + k)) ≡ slice_get image (section.file_offset + (row.address - section.address + k))
    stored = section_stored m image of section (row.address - section.address + k) rising of_section.among of_section.solid (omega (arith, from, to, low))

    address : section.address + (row.address - section.address + k) ≡ row.address + k
    address = omega (arith, from)

    place : section.file_offset + (row.address - section.address + k) ≡ row.at + k
    place = omega (arith, at)

    here : HasPlace m of.layout section (row.at + k)
    here = stored_place m of.layout section (row.at + k) laid of_section.among of_section.solid (omega (arith, at)) (omega (arith, at, from, to, low))

    before : row.at + k < linkedit_offset of.layout.segments
    before = place_before m of.layout section (row.at + k) laid here

    long : length image ≡ linkedit_offset of.layout.segments + length of.chains.blob
    long = image_long m image of

    -- the linker's own sections list no atoms
    bare : (way : Way) (other : PlacedSection) → own_section of.layout.sections way ≡ Some other → HasPlace m of.layout other (row.at + k) → ⊥
    bare way other e there =
        let same : section ≡ other = same_section m of.layout section other (row.at + k) laid here there in
        let none : section.section.atoms ≡ [] = ap (λ (s : PlacedSection). s.section.atoms) same ∙ own_bare m of.layout way other laid e in
        subst (λ (keys : List AtomKey). In of_section.key keys) none of_section.listed

    bare_info : (other : PlacedSection) → info_section of.layout.sections ≡ Some other → HasPlace m of.layout other (row.at + k) → ⊥
    bare_info other e there =
        let same : section ≡ other = same_section m of.layout section other (row.at + k) laid here there in
        let none : section.section.atoms ≡ [] = ap (λ (s : PlacedSection). s.section.atoms) same ∙ info_bare m of.layout other laid e in
        subst (λ (keys : List AtomKey). In of_section.key keys) none of_section.listed

    past_front : length (front_of m of.layout of.fixups of.chains) ≤ row.at + k
    past_front =
        let room = (counts m of.layout of.fixups of.chains laid).room in
        let behind = here.behind in
        omega (arith, room, behind)

    zero : get_or image (row.at + k) 0 ≡ 0
    zero =
        beside_atoms m image of (row.at + k) (clear_behind m image of row k rising h past low)
        ∙ zero_byte m of.layout of.chains (front_of m of.layout of.fixups of.chains) (row.at + k) laid past_front before bare bare_info
