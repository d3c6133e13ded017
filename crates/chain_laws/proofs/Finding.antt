-- What the loader finds at an address, by the segment that holds it, the start of its page and the page's chain.
use Rattle.std.proofs.Common.{◌≡◌, ◌≢◌, ℕ, ◌+◌, ◌-◌, ◌*◌, ◌/◌, ◌%◌, ◌^◌, ◌<◌, ◌≤◌, ◌==◌, ◌&&◌, Bool, true, false, List, length, get_or, nat_le, nat_lt, Contains, Option, Some, None, Result, Ok, Err, refl, sym, ap, subst, ◌∙◌, inl, inr, arith}
use Rattle.std.specs.List.{All, filter}
use Rattle.std.proofs.lemmas.Bool.{cases_Bool, cases_lt, eq-eqb, eqb-true, leb-true}
use Rattle.std.proofs.lemmas.List.{get_or_default}
use Rattle.list_lemmas.proofs.Members.{In, from_filter, from_map, in_filter, in_from_Contains}
use Rattle.image_format.specs.declared.fixup_chains.TheConstants.{DYLD_CHAINED_PTR_START_NONE}
use Rattle.mo_types.specs.Gives.{◌>>=◌}
use Rattle.sect_place.specs.Whole.{IsWholeSegment}
use Rattle.sect_place.specs.declared.layout.Segment.{Segment}
use Rattle.fixup_chain.specs.Places as chain
use Rattle.fixup_chain.specs.Places.{addresses_of, is_in, least, page_in, page_of, pages_of}
use Rattle.fixup_chain.specs.Starts.{segment_bytes}
use Rattle.fixup_chain.specs.declared.chains.Fixup.{Fixup}
use Rattle.fixup_chain.proofs.PlaceLemmas.{IsAt, IsLeast, at_index, in_turn, index_in, least_some, none_is, start_by}
use Rattle.image_read.specs.Fixups.{PAGE, chain_from, fixup_of, fixup_read, header_read, held_at, held_on, holding_of, or_plain, page_start, starts_of, unless}
use Rattle.image_read.specs.declared.fixups.FixupRead.{FixupRead}
use Rattle.image_read.specs.declared.fixups.FixupRead.TheVariants.{Plain}
use Rattle.image_read.specs.declared.fixups.Holding.{Holding}
use Rattle.image_read.specs.declared.imports.FixupsHeader.{FixupsHeader}
use Rattle.chain_laws.specs.Carried.{StandAs, segments_of}
use Rattle.chain_laws.proofs.Holding.{IsAmong, IsWithin, among_layout, held_by, holding_is, within_layout}
use Rattle.chain_laws.proofs.Standing.{Stands}
use Rattle.chain_laws.proofs.StartReading.{SegmentStands, TableStands, page_reached, pages_few, start_past, start_read, starts_none, starts_there}
use Rattle.chain_laws.proofs.Steps.{ends, goes_on}
use Rattle.chain_laws.proofs.Walking.{AreInMemory, IsRun, run_holds, walk_from}

-- What is known of an image that carries chains.
pub record IsKnown (image : List ℕ) (segments : List Segment) (fixups : List Fixup) (base : ℕ) (header : FixupsHeader) (word : Fixup → ℕ) : Type 0 where
  pub small : length image < 2 ^ 32
  pub reads : header_read image ≡ Ok header
  pub stand : StandAs (segments_of image) segments
  pub table : TableStands image (addresses_of fixups) base (header.at + header.starts_offset) segments
  pub memory : AreInMemory image fixups word
  pub whole : All IsWholeSegment segments
  pub early : (segment : Segment) → In segment segments → (a : ℕ) → In a (addresses_of fixups) → is_in segment a ≡ true → page_in segment a < 0xffff

-- the reading from the segment on
abbrev pub from_holding : List ℕ → ℕ → FixupsHeader → Holding → Result FixupRead FixupRead
from_holding image address header holding = do
  starts ← starts_of image header holding.index
  start ← page_start image starts ((address - holding.vmaddr) / PAGE)
  held ← held_on image (address - (address - holding.vmaddr) % PAGE) start ((address - holding.vmaddr) % PAGE)
  word ← or_plain held
  fixup_of image header word

read_from : (image : List ℕ) (address : ℕ) (header : FixupsHeader) (holding : Holding) (answer : Result FixupRead FixupRead) → header_read image ≡ Ok header → holding_of image address ≡ Some holding → from_holding image address header holding ≡ answer → fixup_read image address ≡ answer
unfolding fixup_read
read_from image address header holding answer h o rest =
    goes_on (header_read image) header _ answer h (goes_on (or_plain (holding_of image address)) holding _ answer (ap or_plain o) rest)

no_holder : (image : List ℕ) (address : ℕ) (header : FixupsHeader) → header_read image ≡ Ok header → holding_of image address ≡ None → fixup_read image address ≡ Err Plain
unfolding fixup_read
no_holder image address header h o =
    goes_on (header_read image) header _ (Err Plain) h (ends (or_plain (holding_of image address)) Plain _ (ap or_plain o))

-- ---- one address, in a segment of the layout

pub record IsPlace (image : List ℕ) (segments : List Segment) (address : ℕ) (k : ℕ) (segment : Segment) : Type 0 where
  pub within : k < length segments
  pub is : get_or segments k segment ≡ segment
  pub held : holding_of image address ≡ Some (held_by k segment.address)
  pub above : segment.address ≤ address

place_of : (image : List ℕ) (segments : List Segment) (address : ℕ) (holding : Holding) → IsAmong segments address 0 holding → holding_of image address ≡ Some holding → (k : ℕ) × (segment : Segment) × IsPlace image segments address k segment
place_of image segments address holding among held = (
  among.k,
  among.segment,
  record {
    within = among.within;
    is = among.is;
    held = held ∙ same holding.index holding.vmaddr among.k among.segment.address (omega (arith, among.index_is)) among.vmaddr;
    above = among.above;
  },
)
  where
    same : (i v k a : ℕ) → i ≡ k → v ≡ a → Some (held_by i v) ≡ Some (held_by k a)
    same i v k a e f = rw (e, f) refl

-- the numbers of a place in a segment that begins with a page
record IsPaged (segment : Segment) (address : ℕ) : Type 0 where
  pub page : page_of segment.address + (address - segment.address) / PAGE ≡ page_of address
  pub offset : (address - segment.address) % PAGE ≡ address % PAGE
  pub base : address - (address - segment.address) % PAGE ≡ page_of address * PAGE

paged : (segment : Segment) (address : ℕ) → IsWholeSegment segment → segment.address ≤ address → IsPaged segment address
paged segment address whole above =
    let count = whole.page.0 in
    let whole_page : segment.address ≡ count * 0x4000 = whole.page.1 in
    record {
      page = omega (arith, whole_page, above);
      offset = omega (arith, whole_page, above);
      base = omega (arith, whole_page, above);
    }

whole_at : (segments : List Segment) (k : ℕ) (segment : Segment) → All IsWholeSegment segments → k < length segments → get_or segments k segment ≡ segment → IsWholeSegment segment
whole_at segments k segment all within is = subst IsWholeSegment is (all k segment within)

-- the pages of a segment have numbers of 16 bits
few_pages : (image : List ℕ) (segments : List Segment) (fixups : List Fixup) (base : ℕ) (header : FixupsHeader) (word : Fixup → ℕ) (segment : Segment) → IsKnown image segments fixups base header word → In segment segments → pages_of (addresses_of fixups) segment < 2 ^ 16
few_pages image segments fixups base header word segment known there =
    let most : pages_of (addresses_of fixups) segment ≤ 0xffff = pages_few (addresses_of fixups) segment 0xffff (known.early segment there) in
    omega (arith, most)

-- what the loader reads behind the start of a page
abbrev pub from_start : List ℕ → FixupsHeader → ℕ → ℕ → Result FixupRead FixupRead
from_start image header address start = do
  held ← held_on image (page_of address * PAGE) start (address % PAGE)
  word ← or_plain held
  fixup_of image header word

-- The segment has no pointer.
none_in_segment : (image : List ℕ) (segments : List Segment) (fixups : List Fixup) (base : ℕ) (header : FixupsHeader) (word : Fixup → ℕ) (address k : ℕ) (segment : Segment) → IsKnown image segments fixups base header word → IsPlace image segments address k segment → (pages_of (addresses_of fixups) segment == 0) ≡ true → fixup_read image address ≡ Err Plain
none_in_segment image segments fixups base header word address k segment known place none =
    let empty : (pages_of (addresses_of fixups) (get_or segments k segment) == 0) ≡ true = ap (λ (s : Segment). pages_of (addresses_of fixups) s == 0) place.is ∙ none in
    read_from image address header (held_by k segment.address) (Err Plain) known.reads place.held
    (ends (starts_of image header k) Plain _ (starts_none image (addresses_of fixups) base k segments segment header place.within known.table empty))

-- It has pointers: the loader reads the start of the page, or finds that the segment's starts end before.
some_in_segment : (image : List ℕ) (segments : List Segment) (fixups : List Fixup) (base : ℕ) (header : FixupsHeader) (word : Fixup → ℕ) (address k : ℕ) (segment : Segment) (answer : Result FixupRead FixupRead) → IsKnown image segments fixups base header word → IsPlace image segments address k segment → (pages_of (addresses_of fixups) segment == 0) ≡ false → ((address - segment.address) / PAGE < pages_of (addresses_of fixups) segment → (unless DYLD_CHAINED_PTR_START_NONE (chain.page_start (addresses_of fixups) (page_of address)) >>= from_start image header address) ≡ answer) → (pages_of (addresses_of fixups) segment ≤ (address - segment.address) / PAGE → Err Plain ≡ answer) → fixup_read image address ≡ answer
some_in_segment image segments fixups base header word address k segment answer known place some on past =
    read_from image address header (held_by k segment.address) answer known.reads place.held
    (goes_on (starts_of image header k) stands.place _ answer stands.told
    (elim (cases_lt page count) [
      | inl low ↦ read_on low
      | inr high ↦ ends (page_start image stands.place page) Plain _ (start_past image addresses base stands.place segment count page few address_small there high) ∙ past high
    ]))
  where
    addresses : List ℕ
    addresses = addresses_of fixups

    count : ℕ
    count = pages_of addresses segment

    page : ℕ
    page = (address - segment.address) / PAGE

    whole : IsWholeSegment segment
    whole = whole_at segments k segment known.whole place.within place.is

    address_small : segment.address < 2 ^ 63
    address_small = let small : segment.address + segment.vmsize < 2 ^ 63 = whole.small in omega (arith, small)

    member : In segment segments
    member = in_from_Contains segments segment (k, place.within, place.is)

    few : count < 2 ^ 16
    few = few_pages image segments fixups base header word segment known member

    stands : SegmentStands image addresses base (header.at + header.starts_offset) k segments segment header
    stands =
        let not_empty : (pages_of addresses (get_or segments k segment) == 0) ≡ false = ap (λ (s : Segment). pages_of addresses s == 0) place.is ∙ some in
        starts_there image addresses base k segments segment header known.small place.within known.table not_empty

    there : Stands image stands.place (segment_bytes addresses base segment count)
    there = subst (λ (s : Segment). Stands image stands.place (segment_bytes addresses base s (pages_of addresses s))) place.is stands.stands

    numbers : IsPaged segment address
    numbers = paged segment address whole place.above

    read_on : page < count → (page_start image stands.place page >>= λ start. held_on image (address - (address - segment.address) % PAGE) start ((address - segment.address) % PAGE) >>= λ held. or_plain held >>= λ word. fixup_of image header word) ≡ answer
    read_on low =
        let told : page_start image stands.place page ≡ unless DYLD_CHAINED_PTR_START_NONE (chain.page_start addresses (page_of address)) =
        start_read image addresses base stands.place segment count page few address_small there low
        ∙ ap (λ (p : ℕ). unless DYLD_CHAINED_PTR_START_NONE (chain.page_start addresses p)) numbers.page in
        rw (told, numbers.base, numbers.offset) (on low)

-- ---- one page

abbrev pub on_page : List Fixup → ℕ → List ℕ
on_page fixups page = filter (λ address. page_of address == page) (addresses_of fixups)

-- the page has no pointer
start_none : (fixups : List Fixup) (page : ℕ) → least (on_page fixups page) ≡ None → unless DYLD_CHAINED_PTR_START_NONE (chain.page_start (addresses_of fixups) page) ≡ Err Plain
start_none fixups page none =
    let start : chain.page_start (addresses_of fixups) page ≡ DYLD_CHAINED_PTR_START_NONE = start_by (addresses_of fixups) page None none in
    rw start refl

-- it begins with one
start_some : (fixups : List Fixup) (page first : ℕ) → least (on_page fixups page) ≡ Some first → unless DYLD_CHAINED_PTR_START_NONE (chain.page_start (addresses_of fixups) page) ≡ Ok (first % PAGE)
start_some fixups page first some =
    let start : chain.page_start (addresses_of fixups) page ≡ first % PAGE = start_by (addresses_of fixups) page (Some first) some in
    let other : (first % PAGE == DYLD_CHAINED_PTR_START_NONE) ≡ false = by (first % PAGE == DYLD_CHAINED_PTR_START_NONE) refl in
    rw (start, other) refl
  where
    by : (b : Bool) → (first % PAGE == DYLD_CHAINED_PTR_START_NONE) ≡ b → (first % PAGE == DYLD_CHAINED_PTR_START_NONE) ≡ false
    by true e = let same : first % PAGE ≡ DYLD_CHAINED_PTR_START_NONE = eqb-true (first % PAGE) DYLD_CHAINED_PTR_START_NONE e in absurd (omega (arith, same))
    by false e = e

-- the walk along a page, from its first pointer on
pub record IsPageRun (image : List ℕ) (fixups : List Fixup) (word : Fixup → ℕ) (page first : ℕ) : Type 0 where
  pub pointers : List (ℕ × ℕ)
  pub holds : (place : ℕ) → held_on image (page * PAGE) (first % PAGE) place ≡ Ok (held_at place pointers)
  pub hit : (fixup : Fixup) → Contains fixups fixup → page_of fixup.address ≡ page → held_at (fixup.address % PAGE) pointers ≡ Some (word fixup)
  pub miss : (place : ℕ) → ((fixup : Fixup) → Contains fixups fixup → page_of fixup.address ≡ page → fixup.address % PAGE ≡ place → ⊥) → held_at place pointers ≡ None

page_run : (image : List ℕ) (fixups : List Fixup) (word : Fixup → ℕ) (page first : ℕ) → AreInMemory image fixups word → least (on_page fixups page) ≡ Some first → IsPageRun image fixups word page first
unfolding addresses_of
page_run image fixups word page first m some = by (from_map (λ (f : Fixup). f.address) fixups first found.0)
  where
    one : IsLeast (on_page fixups page) first
    one = least_some (on_page fixups page) first some

    found : In first (addresses_of fixups) × ((page_of first == page) ≡ true)
    found = from_filter (λ (address : ℕ). page_of address == page) (addresses_of fixups) first one.member

    on : page_of first ≡ page
    on = eqb-true (page_of first) page found.1

    place : IsAt fixups first
    place = at_index fixups first found.0

    by : (x : Fixup) × In x fixups × (x.address ≡ first) → IsPageRun image fixups word page first
    by (d, there, is) = record {
      pointers = run.pointers;
      holds = λ at. run_holds image (page * PAGE) (first % PAGE) at run.pointers (ap (λ (a : ℕ). chain_from image (page * PAGE) 0x1001 (a % PAGE)) (sym (place.is d)) ∙ run.is);
      hit = λ fixup h same.
          let e : get_or fixups h.0 d ≡ fixup = get_or_default fixups h.0 d fixup h.1 ∙ h.2 in
          let also : page_of (get_or fixups h.0 d).address ≡ page = ap (λ (f : Fixup). page_of f.address) e ∙ same in
          ap (λ (f : Fixup). held_at (f.address % PAGE) run.pointers) (sym e) ∙ run.hit h.0 (behind h.0 h.1 also) h.1 also ∙ ap (λ (f : Fixup). Some (word f)) e;
      miss = λ at none.
          run.miss at (λ k up low same e. none (get_or fixups k d) (k, low, get_or_default fixups k (get_or fixups k d) d low) same e);
    }
      where
        at_first : (get_or fixups place.k d).address ≡ first
        at_first = place.is d

        run : IsRun image fixups word page 0x1001 place.k d
        run = walk_from image fixups word page 0x1001 place.k d m place.within (ap page_of at_first ∙ on) (omega arith)

        behind : (k : ℕ) → k < length fixups → page_of (get_or fixups k d).address ≡ page → place.k ≤ k
        behind k low same = elim (cases_lt k place.k) [
          | inl less ↦
              (let far : (get_or fixups k d).address + 8 ≤ (get_or fixups place.k d).address = in_turn fixups k place.k d m.apart less place.within in
              let up : first ≤ (get_or fixups k d).address =
              one.low (get_or fixups k d).address (in_filter (λ (address : ℕ). page_of address == page) (addresses_of fixups) (get_or fixups k d).address (index_in fixups k d low) (eq-eqb (page_of (get_or fixups k d).address) page same)) in
              absurd (omega (arith, far, up, at_first)))
          | inr more ↦ more
        ]

-- ---- what is found

same_place : (a b : ℕ) → page_of a ≡ page_of b → a % PAGE ≡ b % PAGE → a ≡ b
same_place a b p q = omega (arith, p, q)

-- nothing at an address without a pointer
pub found_nothing : (image : List ℕ) (segments : List Segment) (fixups : List Fixup) (base : ℕ) (header : FixupsHeader) (word : Fixup → ℕ) (address : ℕ) → IsKnown image segments fixups base header word → ((fixup : Fixup) → Contains fixups fixup → fixup.address ≢ address) → fixup_read image address ≡ Err Plain
found_nothing image segments fixups base header word address known none = by_holder (holding_of image address) refl
  where
    on_some_page : (first : ℕ) → least (on_page fixups (page_of address)) ≡ Some first → (unless DYLD_CHAINED_PTR_START_NONE (chain.page_start (addresses_of fixups) (page_of address)) >>= from_start image header address) ≡ Err Plain
    on_some_page first some =
        let run = page_run image fixups word (page_of address) first known.memory some in
        let missed : held_at (address % PAGE) run.pointers ≡ None = run.miss (address % PAGE) (λ fixup h same e. none fixup h (same_place fixup.address address same e)) in
        goes_on (unless DYLD_CHAINED_PTR_START_NONE (chain.page_start (addresses_of fixups) (page_of address))) (first % PAGE) _ (Err Plain) (start_some fixups (page_of address) first some)
        (goes_on (held_on image (page_of address * PAGE) (first % PAGE) (address % PAGE)) (held_at (address % PAGE) run.pointers) _ (Err Plain) (run.holds (address % PAGE))
        (ends (or_plain (held_at (address % PAGE) run.pointers)) Plain _ (ap or_plain missed)))

    by_page : (o : Option ℕ) → least (on_page fixups (page_of address)) ≡ o → (unless DYLD_CHAINED_PTR_START_NONE (chain.page_start (addresses_of fixups) (page_of address)) >>= from_start image header address) ≡ Err Plain
    by_page None e = ends (unless DYLD_CHAINED_PTR_START_NONE (chain.page_start (addresses_of fixups) (page_of address))) Plain _ (start_none fixups (page_of address) e)
    by_page (Some first) e = on_some_page first e

    by_segment : (k : ℕ) (segment : Segment) → IsPlace image segments address k segment → fixup_read image address ≡ Err Plain
    by_segment k segment place = elim (cases_Bool (pages_of (addresses_of fixups) segment == 0)) [
      | inl empty ↦ none_in_segment image segments fixups base header word address k segment known place empty
      | inr some ↦ some_in_segment image segments fixups base header word address k segment (Err Plain) known place some (λ low. by_page (least (on_page fixups (page_of address))) refl) (λ high. refl)
    ]

    by_holder : (o : Option Holding) → holding_of image address ≡ o → fixup_read image address ≡ Err Plain
    by_holder None e = no_holder image address header known.reads e
    by_holder (Some holding) e =
        let place = place_of image segments address holding (among_layout (segments_of image) segments address 0 holding known.stand (sym (holding_is image address) ∙ e)) e in
        by_segment place.0 place.1 place.2

-- a pointer at its address
pub found_pointer : (image : List ℕ) (segments : List Segment) (fixups : List Fixup) (base : ℕ) (header : FixupsHeader) (word : Fixup → ℕ) (fixup : Fixup) (one : Segment) (answer : Result FixupRead FixupRead) → IsKnown image segments fixups base header word → Contains fixups fixup → In one segments → is_in one fixup.address ≡ true → fixup_of image header (word fixup) ≡ answer → fixup_read image fixup.address ≡ answer
found_pointer image segments fixups base header word fixup one answer known there member inside reads = by (within_layout (segments_of image) segments fixup.address 0 one known.stand member inside)
  where
    address : ℕ
    address = fixup.address

    among : In address (addresses_of fixups)
    among = subst (λ (a : ℕ). In a (addresses_of fixups)) (ap (λ (f : Fixup). f.address) there.2) (index_in fixups there.0 fixup there.1)

    on_some_page : (first : ℕ) → least (on_page fixups (page_of address)) ≡ Some first → (unless DYLD_CHAINED_PTR_START_NONE (chain.page_start (addresses_of fixups) (page_of address)) >>= from_start image header address) ≡ answer
    on_some_page first some =
        let run = page_run image fixups word (page_of address) first known.memory some in
        let hit : held_at (address % PAGE) run.pointers ≡ Some (word fixup) = run.hit fixup there refl in
        goes_on (unless DYLD_CHAINED_PTR_START_NONE (chain.page_start (addresses_of fixups) (page_of address))) (first % PAGE) _ answer (start_some fixups (page_of address) first some)
        (goes_on (held_on image (page_of address * PAGE) (first % PAGE) (address % PAGE)) (held_at (address % PAGE) run.pointers) _ answer (run.holds (address % PAGE))
        (goes_on (or_plain (held_at (address % PAGE) run.pointers)) (word fixup) _ answer (ap or_plain hit) reads))

    by_page : (o : Option ℕ) → least (on_page fixups (page_of address)) ≡ o → (unless DYLD_CHAINED_PTR_START_NONE (chain.page_start (addresses_of fixups) (page_of address)) >>= from_start image header address) ≡ answer
    by_page None e = absurd (none_is (on_page fixups (page_of address)) e address (in_filter (λ (a : ℕ). page_of a == page_of address) (addresses_of fixups) address among (eq-eqb (page_of address) (page_of address) refl)))
    by_page (Some first) e = on_some_page first e

    by : IsWithin (segments_of image) segments address 0 → fixup_read image address ≡ answer
    by w =
        let reached : page_in w.segment address < pages_of (addresses_of fixups) w.segment = page_reached (addresses_of fixups) w.segment address among w.inside in
        let low : w.segment.address ≤ address = above w.segment w.inside in
        let index : 0 + w.k ≡ w.k = omega arith in
        let place : IsPlace image segments address w.k w.segment = record {
          within = w.within;
          is = w.is;
          held = holding_is image address ∙ w.found ∙ ap (λ (n : ℕ). Some (held_by n w.segment.address)) index;
          above = low;
        } in
        some_in_segment image segments fixups base header word address w.k w.segment answer known place (some w.segment reached)
        (λ before. by_page (least (on_page fixups (page_of address))) refl)
        (λ past. absurd (omega (arith, past, reached)))
      where
        both : (a b : Bool) → (a && b) ≡ true → (a ≡ true) × (b ≡ true)
        both true true e = (refl, refl)
        both true false e = cc
        both false b e = cc

        above : (segment : Segment) → is_in segment address ≡ true → segment.address ≤ address
        above segment e = leb-true segment.address address (both (nat_le segment.address address) (nat_lt (address - segment.address) segment.vmsize) e).0

        not_true : (b : Bool) → (b ≡ true → ⊥) → b ≡ false
        not_true true never = absurd (never refl)
        not_true false never = refl

        some : (segment : Segment) → page_in segment address < pages_of (addresses_of fixups) segment → (pages_of (addresses_of fixups) segment == 0) ≡ false
        some segment reached = not_true (pages_of (addresses_of fixups) segment == 0) (λ e. let z : pages_of (addresses_of fixups) segment ≡ 0 = eqb-true (pages_of (addresses_of fixups) segment) 0 e in omega (arith, z, reached))
