-- The linker's own sections and the chains of an image, as the loader finds them.
use Rattle.std.proofs.Common.{◌≡◌, ℕ, zero, suc, ◌+◌, ◌*◌, ◌<◌, ◌≤◌, ◌^◌, inl, inr, List, [], ◌∷◌, ◌++◌, length, get_or, take, drop, Option, Some, refl, sym, ap, ◌∙◌, arith, subst, length-append}
use Rattle.std.specs.Prelude.{unwrap_or}
use Rattle.std.specs.List.{enumerate_from, flat_map}
use Rattle.std.proofs.Math.ListN.{get_or-append}
use Rattle.std.proofs.Math.Nat.{mul-suc}
use Rattle.std.proofs.Math.Seq.{drop-append-add}
use Rattle.std.proofs.lemmas.Bool.{le-leb}
use Rattle.std.proofs.lemmas.List.{ext_get_or, get_or-drop, get_or-take, length-drop, length-take-le}
use Rattle.std.proofs.lemmas.Option.{slice_get-get_or}
use Rattle.list_lemmas.proofs.Members.{In}
use Rattle.mo_bytes.specs.Number.{number, number_bytes}
use Rattle.mo_bytes.proofs.Numbers.{length-number_bytes}
use Rattle.mo_types.specs.declared.goal.Goal.{Goal}
use Rattle.mo_types.specs.declared.key.AtomKey.{AtomKey}
use Rattle.fixup_chain.specs.declared.chains.ChainWord.{ChainWord}
use Rattle.sect_place.specs.declared.layout.Layout.{Layout}
use Rattle.sect_place.specs.declared.layout.PlacedSection.{PlacedSection}
use Rattle.slot_place.specs.Places.{own_section, unit_at}
use Rattle.slot_plan.specs.declared.need.Way.{Way}
use Rattle.chain_laws.proofs.Standing.{Stands, number_stands}
use Rattle.field_laws.specs.Memory.{AreInMemory}
use Rattle.field_laws.proofs.Numbers.{long_there}
use Rattle.image_make.specs.Made.{ImageInputs, front_of}
use Rattle.image_make.specs.Parts.{info_section, linkedit_offset, own_bytes, slot_word}
use Rattle.image_make.proofs.RoomLemmas.{counts, front_room}
use Rattle.ref_meet.specs.Mets.{word_at}
use Rattle.image_read.specs.Fixups.{long_at}
use Rattle.image_read.specs.Mapped.{mapped}
use Rattle.image_read.specs.Meaning.{long_in}
use Rattle.image_laws.specs.Means.{AreRising, Imaged}
use Rattle.image_laws.proofs.Begun.{beside_atoms, image_long}
use Rattle.image_laws.proofs.Blank.{chains_byte, info_byte, own_byte, own_long}
use Rattle.image_laws.proofs.InfoPlace.{info_bare, info_in, info_is, info_solid}
use Rattle.image_laws.proofs.Layouts.{HasPlace, beside_rows, own_bare, own_in, own_is, own_solid, place_before, same_section, stored_place}
use Rattle.image_laws.proofs.Mapping.{section_stored}

-- ---- in memory

no_key : (keys : List AtomKey) (key : AtomKey) → keys ≡ [] → In key keys → ⊥
no_key keys key none h = subst (λ (ks : List AtomKey). In key ks) none h

-- what an own section holds stands at its address
pub own_there : (m : ImageInputs) (image : List ℕ) (of : Imaged m image) (way : Way) (placed : PlacedSection) → AreRising m → own_section of.layout.sections way ≡ Some placed → AreInMemory image placed.address (own_bytes of.layout m.slots of.chains.words way)
own_there m image of way placed rising e = λ k low.
    let laid = of.is_image.laid in
    let layout : Layout = of.layout in
    let bytes : List ℕ = own_bytes of.layout m.slots of.chains.words way in
    let place = placed.file_offset + k in
    let among = own_in m of.layout way placed e in
    let solid = own_solid m of.layout way placed laid e in
    let long = own_long of.layout m.slots of.chains.words way in
    let sized = (own_is m of.layout way placed laid e).sized in
    let within : k < placed.size = omega (arith, low, long, sized) in
    let has : HasPlace m of.layout placed place = stored_place m of.layout placed place laid among solid (omega arith) (omega arith) in
    let before = place_before m of.layout placed place laid has in
    let whole = image_long m image of in
    let count = counts m of.layout of.fixups of.chains laid in
    let beside = beside_rows m of.layout place rising laid (λ other key there listed full.
    let same = same_section m of.layout placed other place laid has there in
    no_key other.section.atoms key (ap (λ (s : PlacedSection). s.section.atoms) (sym same) ∙ own_bare m of.layout way placed laid e) listed) in
    section_stored m image of placed k rising among solid within
    ∙ slice_get-get_or image place 0 (omega (arith, before, whole))
    ∙ ap Some (beside_atoms m image of place beside ∙ own_byte m of.layout of.chains (front_of m of.layout of.fixups of.chains) way placed k laid count.room e low)
    ∙ sym (slice_get-get_or bytes k 0 low)

-- and so does `__unwind_info`
pub info_in_memory : (m : ImageInputs) (image : List ℕ) (of : Imaged m image) (placed : PlacedSection) → AreRising m → info_section of.layout.sections ≡ Some placed → AreInMemory image placed.address m.info
info_in_memory m image of placed rising e = λ k low.
    let laid = of.is_image.laid in
    let place = placed.file_offset + k in
    let among = info_in of.layout placed e in
    let solid = info_solid m of.layout placed laid e in
    let sized = (info_is m of.layout placed laid e).sized in
    let within : k < placed.size = omega (arith, low, sized) in
    let has : HasPlace m of.layout placed place = stored_place m of.layout placed place laid among solid (omega arith) (omega arith) in
    let before = place_before m of.layout placed place laid has in
    let whole = image_long m image of in
    let count = counts m of.layout of.fixups of.chains laid in
    let beside = beside_rows m of.layout place rising laid (λ other key there listed full.
    let same = same_section m of.layout placed other place laid has there in
    no_key other.section.atoms key (ap (λ (s : PlacedSection). s.section.atoms) (sym same) ∙ info_bare m of.layout placed laid e) listed) in
    section_stored m image of placed k rising among solid within
    ∙ slice_get-get_or image place 0 (omega (arith, before, whole))
    ∙ ap Some (beside_atoms m image of place beside ∙ info_byte m of.layout of.chains (front_of m of.layout of.fixups of.chains) placed k laid count.room e low)
    ∙ sym (slice_get-get_or m.info k 0 low)

-- the chains stand behind all else
pub chains_there : (m : ImageInputs) (image : List ℕ) (of : Imaged m image) → AreRising m → take (length of.chains.blob) (drop (linkedit_offset of.layout.segments) image) ≡ of.chains.blob
chains_there m image of rising =
    let laid = of.is_image.laid in
    let n = length of.chains.blob in
    let at = linkedit_offset of.layout.segments in
    let whole = image_long m image of in
    let count = counts m of.layout of.fixups of.chains laid in
    let room = front_room m of.layout laid in
    let enough : n ≤ length (drop at image) = omega (arith, whole, length-drop at image) in
    let size : length (take n (drop at image)) ≡ n = length-take-le n (drop at image) enough in
    ext_get_or 0 (take n (drop at image)) of.chains.blob size (λ k within.
    let low : k < n = omega (arith, within, size) in
    get_or-take n (drop at image) k 0 low
    ∙ get_or-drop at image k 0
    ∙ beside_atoms m image of (at + k) (beside_rows m of.layout (at + k) rising laid (λ other key there listed full. (let before = place_before m of.layout other (at + k) laid there in absurd (omega (arith, before)))))
    ∙ chains_byte m of.layout of.chains (front_of m of.layout of.fixups of.chains) k laid (omega (arith, count.room, room.lead)) low)

-- bytes that stand among those in memory
pub part_there : (image : List ℕ) (address at : ℕ) (bytes part : List ℕ) → AreInMemory image address bytes → Stands bytes at part → at + length part ≤ length bytes → AreInMemory image (address + at) part
part_there image address at bytes part there stand room = λ k low.
    let moved : address + at + k ≡ address + (at + k) = omega arith in
    let here : get_or bytes (at + k) 0 ≡ get_or part k 0 =
    sym (get_or-drop at bytes k 0) ∙ ap (λ (xs : List ℕ). get_or xs k 0) stand.is ∙ get_or-append part stand.rest 0 k low in
    ap (mapped image) moved ∙ there (at + k) (omega (arith, low, room)) ∙ slice_get-get_or bytes (at + k) 0 (omega (arith, low, room)) ∙ ap Some here ∙ sym (slice_get-get_or part k 0 low)

-- ---- units of one size, one behind the other

pub units_stand : (f : ℕ × Goal → List ℕ) (unit at : ℕ) (goals : List Goal) (n : ℕ) (d : Goal) → ((k : ℕ) (goal : Goal) → In goal goals → length (f (k, goal)) ≡ unit) → n < length goals → Stands (flat_map f (enumerate_from at goals)) (unit * n) (f (at + n, get_or goals n d))
units_stand f unit at [] n d each low = absurd (omega arith)
units_stand f unit at (goal ∷ goals) zero d each low = record {
  rest = flat_map f (enumerate_from (at + 1) goals);
  is = ap (λ (k : ℕ). drop k (f (at, goal) ++ flat_map f (enumerate_from (at + 1) goals))) (let e : unit * 0 ≡ 0 = omega arith in e)
      ∙ ap (λ (k : ℕ). f (k, goal) ++ flat_map f (enumerate_from (at + 1) goals)) (let e : at ≡ at + 0 = omega arith in e);
}
units_stand f unit at (goal ∷ goals) (suc n) d each low =
    let later = units_stand f unit (at + 1) goals n d (λ k g h. each k g (inr h)) (omega arith) in
    let long = each at goal (inl refl) in
    let more : List ℕ = flat_map f (enumerate_from (at + 1) goals) in
    let place : unit * suc n ≡ length (f (at, goal)) + unit * n = omega (arith, mul-suc unit n, long) in
    record {
      rest = later.rest;
      is = ap (λ (k : ℕ). drop k (f (at, goal) ++ more)) place
          ∙ drop-append-add (f (at, goal)) more (unit * n)
          ∙ later.is
          ∙ ap (λ (k : ℕ). f (k, get_or goals n d) ++ later.rest) (let e : at + 1 + n ≡ at + suc n = omega arith in e);
    }

pub units_long : (f : ℕ × Goal → List ℕ) (unit at : ℕ) (goals : List Goal) → ((k : ℕ) (goal : Goal) → In goal goals → length (f (k, goal)) ≡ unit) → length (flat_map f (enumerate_from at goals)) ≡ unit * length goals
units_long f unit at [] each = omega arith
units_long f unit at (goal ∷ goals) each =
    let rest = units_long f unit (at + 1) goals (λ k g h. each k g (inr h)) in
    let here = each at goal (inl refl) in
    length-append (f (at, goal)) (flat_map f (enumerate_from (at + 1) goals)) ∙ omega (arith, mul-suc unit (length goals), here, rest)

-- ---- slots

slot_long : (words : List ChainWord) (start k : ℕ) (goal : Goal) → length (slot_word words start (k, goal)) ≡ 8
slot_long words start k goal = length-number_bytes 8 (unwrap_or (word_at words (unit_at 8 start k)) 0)

long_of : (image : List ℕ) (address n : ℕ) → address + 8 ≤ 2 ^ 64 → long_in image address ≡ Some n → long_at image address ≡ Some n
long_of image address n low e = rw (le-leb (address + 8) (2 ^ 64) low) at e

-- bytes of slots in memory hold the words of their slots
pub slot_holds : (image : List ℕ) (words : List ChainWord) (start n word : ℕ) (goals : List Goal) (d : Goal) → AreInMemory image start (flat_map (slot_word words start) (enumerate_from 0 goals)) → n < length goals → length (flat_map (slot_word words start) (enumerate_from 0 goals)) ≡ 8 * length goals → start + 8 * n + 8 ≤ 2 ^ 64 → word_at words (unit_at 8 start n) ≡ Some word → word < 2 ^ 64 → long_at image (start + 8 * n) ≡ Some word
slot_holds image words start n word goals d there low long room is small =
    let bytes : List ℕ = flat_map (slot_word words start) (enumerate_from 0 goals) in
    let stand = units_stand (slot_word words start) 8 0 goals n d (λ k goal h. slot_long words start k goal) low in
    let same : slot_word words start (0 + n, get_or goals n d) ≡ number_bytes 8 word = ap (λ (k : ℕ). number_bytes 8 (unwrap_or (word_at words (unit_at 8 start k)) 0)) (let e : 0 + n ≡ n = omega arith in e) ∙ ap (λ (o : Option ℕ). number_bytes 8 (unwrap_or o 0)) is in
    let read : number 8 bytes (8 * n) ≡ word = number_stands bytes (8 * n) 8 word (omega (arith, small)) (subst (λ (z : List ℕ). Stands bytes (8 * n) z) same stand) in
    long_of image (start + 8 * n) word room (long_there image bytes start (8 * n) there (omega (arith, low, long)) room ∙ ap Some read)
