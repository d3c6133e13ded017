-- What stands in an image before its atoms are written: the header, the linker's own sections, and the chains of pointers.
use Rattle.std.proofs.Common.{◌≡◌, ℕ, ◌+◌, ◌-◌, ◌*◌, ◌<◌, ◌≤◌, ◌&&◌, inl, inr, nat_le, nat_lt, Bool, true, false, List, [], ◌∷◌, ◌++◌, length, get_or, Option, Some, None, refl, sym, ap, ◌∙◌, arith, length-append}
use Rattle.std.specs.List.{AllByRecursion, enumerate_from, flat_map}
use Rattle.std.specs.Option.{option_map_or}
use Rattle.std.proofs.lemmas.Bool.{le-leb, lt-ltb}
use Rattle.mo_bytes.specs.Number.{number_bytes}
use Rattle.mo_bytes.proofs.Numbers.{length-number_bytes}
use Rattle.mo_types.specs.declared.goal.Goal.{Goal}
use Rattle.mo_types.specs.declared.out_section.OutSection.{OutSection}
use Rattle.fixup_chain.specs.declared.chains.ChainWord.{ChainWord}
use Rattle.fixup_chain.specs.declared.chains.Chains.{Chains}
use Rattle.sect_place.specs.Arrangement.{section_of}
use Rattle.sect_place.specs.declared.layout.Layout.{Layout}
use Rattle.sect_place.specs.declared.layout.PlacedSection.{PlacedSection}
use Rattle.sect_place.specs.declared.part.Made.TheVariants.{UnwindInfo}
use Rattle.slot_place.specs.Places.{goals_for, made_for, own_section, slot_address, starts_of, unit_at, unit_of}
use Rattle.slot_place.specs.Stubs.{stub_bytes, stub_of, stubs_bytes, stubs_from}
use Rattle.slot_place.specs.declared.places.SlotStarts.{SlotStarts}
use Rattle.slot_plan.specs.declared.list.Slots.{Slots}
use Rattle.slot_plan.specs.declared.need.Way.{Way}
use Rattle.slot_plan.specs.declared.need.Way.TheVariants.{Got, Stub, Tlv}
use Rattle.image_join.specs.Joined.{byte_at, covers}
use Rattle.image_join.specs.declared.parts.Part.{Part}
use Rattle.image_join.proofs.JoinedLemmas.{byte_here, byte_of_joined, byte_past, covered_inside, covers_not}
use Rattle.ref_meet.specs.Mets.{word_at}
use Rattle.image_make.specs.Made.{IsLaid, ImageInputs, plan_for}
use Rattle.image_make.specs.Parts.{blank_of, image_parts, info_part, info_section, linkedit_offset, own_bytes, own_part, slot_word, slot_words}
use Rattle.image_laws.proofs.InfoPlace.{info_in, info_is, info_solid}
use Rattle.image_laws.proofs.Layouts.{HasPlace, own_in, own_is, own_solid, place_before, same_section, stored_place}
use Rattle.std.specs.Prelude.{unwrap_or}

-- ---- how many bytes the linker's own sections have

pub slots_long : (words : List ChainWord) (start at : ℕ) (goals : List Goal) → length (flat_map (slot_word words start) (enumerate_from at goals)) ≡ 8 * length goals
slots_long words start at [] = refl
slots_long words start at (goal ∷ goals) =
    let rest = slots_long words start (at + 1) goals in
    length-append (slot_word words start (at, goal)) (flat_map (slot_word words start) (enumerate_from (at + 1) goals))
    ∙ omega (arith, rest, length-number_bytes 8 (unwrap_or (word_at words (unit_at 8 start at)) 0))

words_long : (words : List ChainWord) (start : Option ℕ) (goals : List Goal) → length (slot_words words start goals) ≤ 8 * length goals
unfolding slot_words
words_long words None goals = omega arith
words_long words (Some at) goals = omega (arith, slots_long words at 0 goals)

twelve : (a b c : ℕ) → length (number_bytes 4 a ++ (number_bytes 4 b ++ number_bytes 4 c)) ≡ 12
twelve a b c =
    length-append (number_bytes 4 a) (number_bytes 4 b ++ number_bytes 4 c)
    ∙ omega (arith, length-number_bytes 4 a, length-number_bytes 4 b, length-number_bytes 4 c, length-append (number_bytes 4 b) (number_bytes 4 c))

pub stub_long : (at slot : ℕ) → length (stub_bytes at slot) ≡ 12
unfolding stub_bytes
stub_long at slot =
    twelve _ _ _

stub_short : (starts : SlotStarts) (slots : Slots) (start : ℕ) (p : ℕ × Goal) → length (stub_of starts slots start p) ≤ 12
stub_short starts slots start p = by (slot_address starts slots Got p.1)
  where
    by : (slot : Option ℕ) → length (option_map_or (λ (n : ℕ). stub_bytes (unit_at 12 start p.0) n) slot []) ≤ 12
    by None = omega arith
    by (Some n) = omega (arith, stub_long (unit_at 12 start p.0) n)

stubs_short : (starts : SlotStarts) (slots : Slots) (start at : ℕ) (goals : List Goal) → length (flat_map (stub_of starts slots start) (enumerate_from at goals)) ≤ 12 * length goals
stubs_short starts slots start at [] = omega arith
stubs_short starts slots start at (goal ∷ goals) =
    let rest = stubs_short starts slots start (at + 1) goals in
    let here = stub_short starts slots start (at, goal) in
    omega (arith, length-append (stub_of starts slots start (at, goal)) (flat_map (stub_of starts slots start) (enumerate_from (at + 1) goals)))

stubs_long : (starts : SlotStarts) (slots : Slots) → length (stubs_bytes starts slots) ≤ 12 * length slots.stubs
unfolding stubs_bytes stubs_from
stubs_long starts slots = by starts.stubs
  where
    by : (start : Option ℕ) → length (option_map_or (stubs_from starts slots) start []) ≤ 12 * length slots.stubs
    by None = omega arith
    by (Some start) = stubs_short starts slots start 0 slots.stubs

pub own_long : (layout : Layout) (slots : Slots) (words : List ChainWord) (way : Way) → length (own_bytes layout slots words way) ≤ unit_of way * length (goals_for slots way)
own_long layout slots words Got = words_long words _ slots.got
own_long layout slots words Stub = stubs_long (starts_of layout.sections) slots
own_long layout slots words Tlv = words_long words _ slots.tlv

-- ---- which part has a place of the file

away : (b : Bool) → (b ≡ true → ⊥) → b ≡ false
away true never = absurd (never refl)
away false never = refl

byte_skip : (xs ys : List Part) (k : ℕ) → AllByRecursion (λ (p : Part). covers k p ≡ false) xs → byte_at (xs ++ ys) k ≡ byte_at ys k
byte_skip [] ys k none = refl
byte_skip (x ∷ xs) ys k none = byte_past x (xs ++ ys) k none.0 ∙ byte_skip xs ys k none.1

none_there : (k : ℕ) → byte_at [] k ≡ 0
unfolding byte_at
none_there k = refl

abbrev part_of : Layout → Slots → List ChainWord → Way → PlacedSection → Part
part_of layout slots words way placed = record { from = placed.file_offset; bytes = own_bytes layout slots words way }

part_found : (layout : Layout) (slots : Slots) (words : List ChainWord) (way : Way) (placed : PlacedSection) → own_section layout.sections way ≡ Some placed → own_part layout slots words way ≡ part_of layout slots words way placed ∷ []
unfolding own_part
part_found layout slots words way placed e = rw e refl

-- a place that an own section's part covers is the section's
own_place : (m : ImageInputs) (layout : Layout) (words : List ChainWord) (way : Way) (placed : PlacedSection) (k : ℕ) → IsLaid m layout → own_section layout.sections way ≡ Some placed → covers k (part_of layout m.slots words way placed) ≡ true → HasPlace m layout placed k
own_place m layout words way placed k laid e is =
    let inside = covered_inside k (part_of layout m.slots words way placed) is in
    let long = own_long layout m.slots words way in
    let sized = (own_is m layout way placed laid e).sized in
    stored_place m layout placed k laid (own_in m layout way placed e) (own_solid m layout way placed laid e) inside.0 (omega (arith, inside.1))

-- a place that isn't an own section's isn't in its part
abbrev IsApart : (m : ImageInputs) → Layout → ℕ → Way → Type 0
IsApart m layout k way = (placed : PlacedSection) → own_section layout.sections way ≡ Some placed → HasPlace m layout placed k → ⊥

clear : (m : ImageInputs) (layout : Layout) (words : List ChainWord) (way : Way) (k : ℕ) → IsLaid m layout → IsApart m layout k way → AllByRecursion (λ (p : Part). covers k p ≡ false) (own_part layout m.slots words way)
unfolding own_part
clear m layout words way k laid apart = by (own_section layout.sections way) refl
  where
    by : (found : Option PlacedSection) → own_section layout.sections way ≡ found → AllByRecursion (λ (p : Part). covers k p ≡ false) (option_map_or (λ (placed : PlacedSection). part_of layout m.slots words way placed ∷ []) found [])
    by None e = tt
    by (Some placed) e = (away (covers k (part_of layout m.slots words way placed)) (λ is. apart placed e (own_place m layout words way placed k laid e is)), tt)

-- the part `__unwind_info`
abbrev part_with : List ℕ → PlacedSection → Part
part_with info placed = record { from = placed.file_offset; bytes = info }

info_found : (layout : Layout) (info : List ℕ) (placed : PlacedSection) → info_section layout.sections ≡ Some placed → info_part layout info ≡ part_with info placed ∷ []
unfolding info_part
info_found layout info placed e = rw e refl

info_place : (m : ImageInputs) (layout : Layout) (placed : PlacedSection) (k : ℕ) → IsLaid m layout → info_section layout.sections ≡ Some placed → covers k (part_with m.info placed) ≡ true → HasPlace m layout placed k
info_place m layout placed k laid e is =
    let inside = covered_inside k (part_with m.info placed) is in
    let sized = (info_is m layout placed laid e).sized in
    stored_place m layout placed k laid (info_in layout placed e) (info_solid m layout placed laid e) inside.0 (omega (arith, inside.1, sized))

-- a place that isn't one of `__unwind_info`
abbrev pub IsBesideInfo : ImageInputs → Layout → ℕ → Type 0
IsBesideInfo m layout k = (placed : PlacedSection) → info_section layout.sections ≡ Some placed → HasPlace m layout placed k → ⊥

info_clear : (m : ImageInputs) (layout : Layout) (k : ℕ) → IsLaid m layout → IsBesideInfo m layout k → AllByRecursion (λ (p : Part). covers k p ≡ false) (info_part layout m.info)
unfolding info_part
info_clear m layout k laid beside = by (info_section layout.sections) refl
  where
    by : (found : Option PlacedSection) → info_section layout.sections ≡ found → AllByRecursion (λ (p : Part). covers k p ≡ false) (option_map_or (λ (placed : PlacedSection). part_with m.info placed ∷ []) found [])
    by None e = tt
    by (Some placed) e = (away (covers k (part_with m.info placed)) (λ is. beside placed e (info_place m layout placed k laid e is)), tt)

abbrev front_part : List ℕ → Part
front_part front = record { from = 0; bytes = front }

abbrev chains_part : Layout → Chains → Part
chains_part layout chains = record { from = linkedit_offset layout.segments; bytes = chains.blob }

blank_byte : (m : ImageInputs) (layout : Layout) (chains : Chains) (front : List ℕ) (k : ℕ) → k < linkedit_offset layout.segments + length chains.blob → get_or (blank_of layout m.slots m.info chains front) k 0 ≡ byte_at (image_parts layout m.slots m.info chains front) k
unfolding blank_of
blank_byte m layout chains front k low = byte_of_joined (record { size = linkedit_offset layout.segments + length chains.blob; parts = image_parts layout m.slots m.info chains front }) k low

past_front : (front : List ℕ) (parts : List Part) (k : ℕ) → length front ≤ k → byte_at (front_part front ∷ parts) k ≡ byte_at parts k
past_front front parts k past = byte_past (front_part front) parts k (covers_not k (front_part front) (inr (omega arith)))

-- ---- the bytes

pub front_byte : (m : ImageInputs) (layout : Layout) (chains : Chains) (front : List ℕ) (k : ℕ) → k < length front → length front ≤ linkedit_offset layout.segments → get_or (blank_of layout m.slots m.info chains front) k 0 ≡ get_or front k 0
unfolding image_parts
front_byte m layout chains front k low room =
    blank_byte m layout chains front k (omega arith)
    ∙ byte_here (front_part front) _ k (covered k (length front) low)
    ∙ ap (λ (i : ℕ). get_or front i 0) (let e : k - 0 ≡ k = omega arith in e)
  where
    covered : (k n : ℕ) → k < n → (nat_le 0 k && nat_lt k (0 + n)) ≡ true
    covered k n low = rw (le-leb 0 k (omega arith), lt-ltb k (0 + n) (omega arith)) refl

-- none of the own sections has the place
past_own : (m : ImageInputs) (layout : Layout) (chains : Chains) (front : List ℕ) (k : ℕ) → IsLaid m layout → length front ≤ k → ((way : Way) → IsApart m layout k way) → IsBesideInfo m layout k → byte_at (image_parts layout m.slots m.info chains front) k ≡ byte_at (chains_part layout chains ∷ []) k
unfolding image_parts
past_own m layout chains front k laid past apart beside =
    let words = chains.words in
    past_front front _ k past
    ∙ byte_skip (own_part layout m.slots words Stub) _ k (clear m layout words Stub k laid (apart Stub))
    ∙ byte_skip (info_part layout m.info) _ k (info_clear m layout k laid beside)
    ∙ byte_skip (own_part layout m.slots words Got) _ k (clear m layout words Got k laid (apart Got))
    ∙ byte_skip (own_part layout m.slots words Tlv) _ k (clear m layout words Tlv k laid (apart Tlv))

-- a place before the chains that is none of these
pub zero_byte : (m : ImageInputs) (layout : Layout) (chains : Chains) (front : List ℕ) (k : ℕ) → IsLaid m layout → length front ≤ k → k < linkedit_offset layout.segments → ((way : Way) → IsApart m layout k way) → IsBesideInfo m layout k → get_or (blank_of layout m.slots m.info chains front) k 0 ≡ 0
zero_byte m layout chains front k laid past before apart beside =
    blank_byte m layout chains front k (omega arith)
    ∙ past_own m layout chains front k laid past apart beside
    ∙ byte_past (chains_part layout chains) [] k (covers_not k (chains_part layout chains) (inl before))
    ∙ none_there k

-- the chains
pub chains_byte : (m : ImageInputs) (layout : Layout) (chains : Chains) (front : List ℕ) (k : ℕ) → IsLaid m layout → length front ≤ linkedit_offset layout.segments → k < length chains.blob → get_or (blank_of layout m.slots m.info chains front) (linkedit_offset layout.segments + k) 0 ≡ get_or chains.blob k 0
chains_byte m layout chains front k laid room low =
    let place = linkedit_offset layout.segments + k in
    blank_byte m layout chains front place (omega arith)
    ∙ past_own m layout chains front place laid (omega arith) (λ way placed e has. (let before = place_before m layout placed place laid has in absurd (omega arith)))
    (λ placed e has. (let before = place_before m layout placed place laid has in absurd (omega arith)))
    ∙ byte_here (chains_part layout chains) [] place (covers_inside place (chains_part layout chains) (omega arith) (omega arith))
    ∙ ap (λ (i : ℕ). get_or chains.blob i 0) (let e : place - linkedit_offset layout.segments ≡ k = omega arith in e)
  where
    covers_inside : (place : ℕ) (part : Part) → part.from ≤ place → place < part.from + length part.bytes → covers place part ≡ true
    covers_inside place part low high = rw (le-leb part.from place low, lt-ltb place (part.from + length part.bytes) high) refl

-- ---- the own sections' bytes

-- the type of a way's section
kinds_differ : (one other : Way) (p q : PlacedSection) → p ≡ q → p.section ≡ section_of (made_for one) → q.section ≡ section_of (made_for other) → (section_of (made_for one)).kind ≡ (section_of (made_for other)).kind
kinds_differ one other p q same a b = ap (λ (s : OutSection). s.kind) (sym a) ∙ ap (λ (s : PlacedSection). s.section.kind) same ∙ ap (λ (s : OutSection). s.kind) b

-- the place of one is none of another's
others_apart : (m : ImageInputs) (layout : Layout) (one other : Way) (placed : PlacedSection) (k : ℕ) → IsLaid m layout → own_section layout.sections one ≡ Some placed → HasPlace m layout placed k → ((section_of (made_for one)).kind ≡ (section_of (made_for other)).kind → ⊥) → IsApart m layout k other
others_apart m layout one other placed k laid e has differ = λ q f there.
    differ (kinds_differ one other placed q (same_section m layout placed q k laid has there) (own_is m layout one placed laid e).is (own_is m layout other q laid f).is)

-- the byte of one of the own parts, which others don't cover
parted_byte : (place : ℕ) (parts : Way → List Part) (infos : List Part) (part : Part) (last : List Part) (way : Way) → parts way ≡ part ∷ [] → covers place part ≡ true → ((other : Way) → ((section_of (made_for way)).kind ≡ (section_of (made_for other)).kind → ⊥) → AllByRecursion (λ (p : Part). covers place p ≡ false) (parts other)) → AllByRecursion (λ (p : Part). covers place p ≡ false) infos
    → byte_at (parts Stub ++ (infos ++ (parts Got ++ (parts Tlv ++ last)))) place ≡ get_or part.bytes (place - part.from) 0
parted_byte place parts infos part last Stub is covered rest none =
    ap (λ (xs : List Part). byte_at (xs ++ (infos ++ (parts Got ++ (parts Tlv ++ last)))) place) is ∙ byte_here part (infos ++ (parts Got ++ (parts Tlv ++ last))) place covered
parted_byte place parts infos part last Got is covered rest none =
    byte_skip (parts Stub) (infos ++ (parts Got ++ (parts Tlv ++ last))) place (rest Stub (λ same. absurd (omega (arith, same))))
    ∙ byte_skip infos (parts Got ++ (parts Tlv ++ last)) place none
    ∙ ap (λ (xs : List Part). byte_at (xs ++ (parts Tlv ++ last)) place) is ∙ byte_here part (parts Tlv ++ last) place covered
parted_byte place parts infos part last Tlv is covered rest none =
    byte_skip (parts Stub) (infos ++ (parts Got ++ (parts Tlv ++ last))) place (rest Stub (λ same. absurd (omega (arith, same))))
    ∙ byte_skip infos (parts Got ++ (parts Tlv ++ last)) place none
    ∙ byte_skip (parts Got) (parts Tlv ++ last) place (rest Got (λ same. absurd (omega (arith, same))))
    ∙ ap (λ (xs : List Part). byte_at (xs ++ last) place) is ∙ byte_here part last place covered

-- nor does `__unwind_info` have it, whose type is none of theirs
kind_of_info : (way : Way) → (section_of (made_for way)).kind ≡ (section_of UnwindInfo).kind → ⊥
kind_of_info Stub same = absurd (omega (arith, same))
kind_of_info Got same = absurd (omega (arith, same))
kind_of_info Tlv same = absurd (omega (arith, same))

own_or_info : (m : ImageInputs) (layout : Layout) (way : Way) (placed info : PlacedSection) → IsLaid m layout → own_section layout.sections way ≡ Some placed → info_section layout.sections ≡ Some info → placed ≡ info → ⊥
own_or_info m layout way placed info laid e f same =
    kind_of_info way (ap (λ (s : OutSection). s.kind) (sym (own_is m layout way placed laid e).is) ∙ ap (λ (s : PlacedSection). s.section.kind) same ∙ ap (λ (s : OutSection). s.kind) (info_is m layout info laid f).is)

pub own_byte : (m : ImageInputs) (layout : Layout) (chains : Chains) (front : List ℕ) (way : Way) (placed : PlacedSection) (k : ℕ) → IsLaid m layout → length front ≤ (plan_for m).lead → own_section layout.sections way ≡ Some placed → k < length (own_bytes layout m.slots chains.words way) → get_or (blank_of layout m.slots m.info chains front) (placed.file_offset + k) 0 ≡ get_or (own_bytes layout m.slots chains.words way) k 0
unfolding image_parts
own_byte m layout chains front way placed k laid room e low =
    blank_byte m layout chains front place (omega (arith, before))
    ∙ past_front front _ place past
    ∙ parted_byte place (own_part layout m.slots chains.words) (info_part layout m.info) part (chains_part layout chains ∷ []) way (part_found layout m.slots chains.words way placed e) part_is rest
    (info_clear m layout place laid (λ info f there. own_or_info m layout way placed info laid e f (same_section m layout placed info place laid has there)))
    ∙ ap (λ (i : ℕ). get_or (own_bytes layout m.slots chains.words way) i 0) (let here : place - placed.file_offset ≡ k = omega arith in here)
  where
    place : ℕ
    place = placed.file_offset + k

    part : Part
    part = part_of layout m.slots chains.words way placed

    part_is : covers place part ≡ true
    part_is = rw (le-leb placed.file_offset place (omega arith), lt-ltb place (placed.file_offset + length (own_bytes layout m.slots chains.words way)) (omega arith)) refl

    has : HasPlace m layout placed place
    has = own_place m layout chains.words way placed place laid e part_is

    before : place < linkedit_offset layout.segments
    before = place_before m layout placed place laid has

    past : length front ≤ place
    past = let behind = has.behind in omega arith

    rest : (other : Way) → ((section_of (made_for way)).kind ≡ (section_of (made_for other)).kind → ⊥) → AllByRecursion (λ (p : Part). covers place p ≡ false) (own_part layout m.slots chains.words other)
    rest other differ = clear m layout chains.words other place laid (others_apart m layout way other placed place laid e has differ)

-- ---- `__unwind_info`

pub info_byte : (m : ImageInputs) (layout : Layout) (chains : Chains) (front : List ℕ) (placed : PlacedSection) (k : ℕ) → IsLaid m layout → length front ≤ (plan_for m).lead → info_section layout.sections ≡ Some placed → k < length m.info → get_or (blank_of layout m.slots m.info chains front) (placed.file_offset + k) 0 ≡ get_or m.info k 0
unfolding image_parts
info_byte m layout chains front placed k laid room e low =
    blank_byte m layout chains front place (omega (arith, before))
    ∙ past_front front _ place past
    ∙ byte_skip (own_part layout m.slots chains.words Stub) _ place (clear m layout chains.words Stub place laid (λ own f there. own_or_info m layout Stub own placed laid f e (same_section m layout own placed place laid there has)))
    ∙ ap (λ (xs : List Part). byte_at (xs ++ later) place) (info_found layout m.info placed e)
    ∙ byte_here (part_with m.info placed) later place part_is
    ∙ ap (λ (i : ℕ). get_or m.info i 0) (let here : place - placed.file_offset ≡ k = omega arith in here)
  where
    place : ℕ
    place = placed.file_offset + k

    later : List Part
    later = own_part layout m.slots chains.words Got ++ (own_part layout m.slots chains.words Tlv ++ chains_part layout chains ∷ [])

    part_is : covers place (part_with m.info placed) ≡ true
    part_is = rw (le-leb placed.file_offset place (omega arith), lt-ltb place (placed.file_offset + length m.info) (omega arith)) refl

    has : HasPlace m layout placed place
    has = info_place m layout placed place laid e part_is

    before : place < linkedit_offset layout.segments
    before = place_before m layout placed place laid has

    past : length front ≤ place
    past = let behind = has.behind in omega arith
