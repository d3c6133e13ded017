-- In an image that carries chains the loader finds each pointer, and no others.
use Rattle.std.proofs.Common.{rules, ◌≡◌, ◌≢◌, ℕ, zero, suc, ◌+◌, ◌-◌, ◌/◌, ◌%◌, ◌^◌, ◌<◌, ◌≤◌, ◌==◌, ◌&&◌, ◌||◌, Bool, true, false, not, ℤ, pos, ◌-ℤ◌, List, [], ◌∷◌, ◌++◌, length, get_or, map, nat_le, nat_lt, is_none, unwrap_or, Contains, Option, Some, None, FitsSigned, Ok, Err, if◌then◌else◌, refl, sym, ap, subst, ◌∙◌, inl, inr, arith, lit<, length-append}
use Rattle.std.specs.Int.{cast_signed, w64}
use Rattle.std.specs.List.{All, filter, list_any, position_or_len}
use Rattle.std.specs.Option.{option_map_or}
use Rattle.std.specs.Ordering.{eq_by_cmp}
use Rattle.std.proofs.lemmas.Bool.{cases_lt, eqb-true, le-leb, lt-ltb, ltb-true, false≢true}
use Rattle.std.proofs.lemmas.List.{get_or_default}
use Rattle.list_lemmas.proofs.Members.{In, any_from_in, from_filter, from_map, in_filter, in_from_Contains, in_map, Contains_from_in}
use Rattle.mo_types.specs.Goals.{name_of}
use Rattle.mo_types.specs.declared.cause.RangeKind.TheVariants.{FixupPlace, RebaseTarget}
use Rattle.sect_place.specs.Whole.{IsWholeLayout, IsWholeSegment}
use Rattle.sect_place.specs.declared.layout.Layout.{Layout}
use Rattle.sect_place.specs.declared.layout.Segment.{Segment}
use Rattle.fixup_chain.specs.Chained.{AreChains}
use Rattle.fixup_chain.specs.Encoded.{IMPORTS, blob_of, joined, padded}
use Rattle.fixup_chain.specs.Faults.{base_of, fault_of, is_closed, is_far, is_misplaced, is_text, range_of, target_of}
use Rattle.fixup_chain.specs.ImportOrder as order
use Rattle.fixup_chain.specs.ImportOrder.{compare_imports}
use Rattle.fixup_chain.specs.Imports.{AreFormed, AreImports, bound, import_of, imports_by, is_bound, is_small, is_wide, names_with_nul, last_name, optional_of, pool_of}
use Rattle.fixup_chain.specs.Places as chain
use Rattle.fixup_chain.specs.Places.{addresses_of, is_after, is_in, least, next_after, page_in, page_of, steps_to_next}
use Rattle.fixup_chain.specs.Pool.{rows_from}
use Rattle.fixup_chain.specs.Starts.{starts_bytes}
use Rattle.fixup_chain.specs.Words.{chain_word, in_rebase, number_of, word_addend, word_by, words_of}
use Rattle.fixup_chain.specs.declared.chains.ChainFault.{ChainFault}
use Rattle.fixup_chain.specs.declared.chains.ChainWord.{ChainWord}
use Rattle.fixup_chain.specs.declared.chains.Chains.{Chains}
use Rattle.fixup_chain.specs.declared.chains.Fixup.{Fixup}
use Rattle.fixup_chain.proofs.OneLemmas.{same_imports}
use Rattle.fixup_chain.proofs.PlaceLemmas.{after_true, least_some}
use Rattle.image_read.specs.Fixups.{PAGE, answer, fixup_at, fixup_of, fixup_read, import_at, long_at}
use Rattle.image_read.specs.Imports.{header_of, whole_header_at}
use Rattle.image_read.specs.declared.fixups.FixupRead.{FixupRead}
use Rattle.image_read.specs.declared.fixups.FixupRead.TheVariants.{Bind, Plain, Rebase}
use Rattle.image_read.specs.declared.fixups.Import.{Import}
use Rattle.image_read.specs.declared.imports.FixupsHeader.{FixupsHeader}
use Rattle.chain_laws.specs.Carried.{ArePointers, IsCarried, IsFound, IsFoundBy, signed_ordinal}
use Rattle.chain_laws.proofs.Blob.{PartsStand, gap, header_is_of, header_is_read, header_told, header_told_by, header_whole, parts_stand}
use Rattle.chain_laws.proofs.Finding.{IsKnown, found_nothing, found_pointer}
use Rattle.chain_laws.proofs.ImportReading.{ImportsStand, IsAtNumber, at_number, import_is_read, import_told, name_is_read}
use Rattle.chain_laws.proofs.ImportStanding.{name_place, name_stands, row_stands}
use Rattle.chain_laws.proofs.Standing.{Stands, stands_as, stands_right, stands_taken, stands_within}
use Rattle.chain_laws.proofs.StartReading.{table_stands}
use Rattle.chain_laws.proofs.WordReading.{IsBindWord, addend_read, bind_read, bind_word_is, next_told, ordinal_read, ordinal_small, rebase_read, rebase_word_is, target_held}

-- ---- tests

either : (a b : Bool) → (a || b) ≡ false → (a ≡ false) × (b ≡ false)
either true b e = cc
either false b e = (refl, e)

negated : (b : Bool) → not b ≡ false → b ≡ true
negated true e = refl
negated false e = cc

both : (a b : Bool) → (a && b) ≡ true → (a ≡ true) × (b ≡ true)
both true true e = (refl, refl)
both true false e = cc
both false b e = cc

-- ---- a pointer without a fault

record IsSoundPlace (segments : List Segment) (address : ℕ) : Type 0 where
  pub open_ : list_any (is_closed address) segments ≡ false
  pub four : address % 4 ≡ 0
  pub one_page : address % PAGE + 8 ≤ PAGE

sound_place : (segments : List Segment) (address : ℕ) → is_misplaced segments address ≡ false → IsSoundPlace segments address
unfolding is_misplaced
sound_place segments address e =
    let outer = either (list_any (is_closed address) segments || not (address % 4 == 0)) (nat_lt (chain.PAGE - 8) (address % chain.PAGE)) e in
    let inner = either (list_any (is_closed address) segments) (not (address % 4 == 0)) outer.0 in
    record {
      open_ = inner.0;
      four = eqb-true (address % 4) 0 (negated (address % 4 == 0) inner.1);
      one_page = elim (cases_lt (chain.PAGE - 8) (address % chain.PAGE)) [
        | inl over ↦ absurd (false≢true (sym outer.1 ∙ lt-ltb (chain.PAGE - 8) (address % chain.PAGE) over))
        | inr within ↦ omega (arith, within)
      ];
    }

no_fault : (far misplaced : Bool) (a b : ChainFault) → (if far then Some a else if misplaced then Some b else None) ≡ None → (far ≡ false) × (misplaced ≡ false)
no_fault true misplaced a b e = cc
no_fault false true a b e = cc
no_fault false false a b e = (refl, refl)

sound_fixup : (layout : Layout) (fixup : Fixup) → fault_of layout fixup ≡ None → (is_far layout fixup ≡ false) × (is_misplaced layout.segments fixup.address ≡ false)
unfolding fault_of
sound_fixup layout fixup e =
    no_fault (is_far layout fixup) (is_misplaced layout.segments fixup.address) (range_of fixup RebaseTarget (target_of layout fixup))
    (range_of fixup FixupPlace (pos fixup.address -ℤ pos (base_of layout.segments))) e

-- a pointer without a fault is on an early page of each segment
early_page : (segments : List Segment) (segment : Segment) (address : ℕ) → list_any (is_closed address) segments ≡ false → In segment segments → is_in segment address ≡ true → page_in segment address < 0xffff
early_page segments segment address open_ there inside = elim (cases_lt (page_in segment address) 0xffff) [
  | inl low ↦ low
  | inr high ↦
      (let late : nat_le 0xffff (page_in segment address) ≡ true = le-leb 0xffff (page_in segment address) high in
      let closed : is_closed address segment ≡ true = by (is_text segment) late in
      absurd (false≢true (sym open_ ∙ any_from_in (is_closed address) segments segment there closed)))
]
  where
    by : (t : Bool) → nat_le 0xffff (page_in segment address) ≡ true → (is_in segment address && (t || nat_le 0xffff (page_in segment address))) ≡ true
    by true late = rw inside refl
    by false late = rw (inside, late) refl

-- ---- distances

steps_small : (addresses : List ℕ) (a : ℕ) → steps_to_next addresses a < 2 ^ 12
unfolding steps_to_next next_after
steps_small addresses a = by (least (filter (is_after a) addresses)) refl
  where
    by : (o : Option ℕ) → least (filter (is_after a) addresses) ≡ o → option_map_or (λ next. (next - a) / 4) o 0 < 2 ^ 12
    by None e = lit< tt
    by (Some b) e =
        let one = least_some (filter (is_after a) addresses) b e in
        let after = after_true a b (from_filter (is_after a) addresses b one.member).1 in
        omega (arith, after.0, after.1)

number_small : (imports : List order.Import) (import : order.Import) → length imports < IMPORTS → number_of imports import < 2 ^ 24
unfolding number_of
number_small imports import few = by (nat_lt n (length imports)) refl
  where
    n : ℕ
    n = position_or_len (eq_by_cmp compare_imports import) imports

    by : (b : Bool) → nat_lt n (length imports) ≡ b → unwrap_or (if b then Some n else None) 0 < 2 ^ 24
    by true e = let low : n < length imports = ltb-true n (length imports) e in omega (arith, low, few)
    by false e = lit< tt

-- ---- all that is known

abbrev pub starts_for : Layout → List Fixup → List ℕ
starts_for layout fixups = starts_bytes (addresses_of fixups) (base_of layout.segments) layout.segments

abbrev pub told_for : ℕ → Layout → List Fixup → Bool → List order.Import → FixupsHeader
told_for at layout fixups wide imports = header_told at wide (length (starts_for layout fixups)) (length (rows_from wide 1 imports)) (length imports)

abbrev pub word_for : Layout → List Fixup → Bool → List order.Import → Fixup → ℕ
word_for layout fixups wide imports fixup = word_by wide imports (target_of layout fixup) (steps_to_next (addresses_of fixups) fixup.address) fixup

abbrev pub PartsFor : List ℕ → ℕ → Layout → List Fixup → Bool → List order.Import → Type 0
PartsFor image at layout fixups wide imports = PartsStand image at wide (length imports) (starts_for layout fixups) (rows_from wide 1 imports) (pool_of imports)

parts_for : (image : List ℕ) (at : ℕ) (layout : Layout) (fixups : List Fixup) (wide : Bool) (imports : List order.Import) (blob : List ℕ) → blob ≡ blob_of (addresses_of fixups) (base_of layout.segments) layout.segments wide imports → Stands image at blob → PartsFor image at layout fixups wide imports
unfolding blob_of
parts_for image at layout fixups wide imports blob e s =
    parts_stand image at wide (length imports) (starts_for layout fixups) (rows_from wide 1 imports) (pool_of imports)
    (stands_as image at blob (padded (joined wide (length imports) (starts_for layout fixups) (rows_from wide 1 imports) (pool_of imports))) e s)

word_there : (image : List ℕ) (layout : Layout) (fixups : List Fixup) (wide : Bool) (imports : List order.Import) (words : List ChainWord) (fixup : Fixup) → words ≡ words_of (target_of layout) wide imports fixups → ((word : ChainWord) → Contains words word → long_at image word.address ≡ Some word.word) → In fixup fixups → long_at image fixup.address ≡ Some (word_for layout fixups wide imports fixup)
unfolding words_of chain_word
word_there image layout fixups wide imports words fixup are each there =
    let one = chain_word (target_of layout) wide imports (addresses_of fixups) in
    each (one fixup) (subst (λ (ws : List ChainWord). Contains ws (one fixup)) (sym are) (Contains_from_in (map one fixups) (one fixup) (in_map one fixups fixup there)))

known_header : (image : List ℕ) (layout : Layout) (fixups : List Fixup) (wide : Bool) (imports : List order.Import) (at : ℕ) → length image < 2 ^ 32 → length imports < IMPORTS → PartsFor image at layout fixups wide imports → whole_header_at image at ≡ Some (told_for at layout fixups wide imports)
known_header image layout fixups wide imports at small few parts =
    let starts = starts_for layout fixups in
    let rows = rows_from wide 1 imports in
    let within : at + (32 + (length starts + gap wide (length starts)) + length rows) + length (pool_of imports) ≤ length image =
    stands_within image (at + (32 + (length starts + gap wide (length starts)) + length rows)) (pool_of imports) parts.pool (omega arith) in
    header_whole image at wide (length starts) (length rows) (length imports) (omega (arith, within, small)) (omega (arith, few)) parts.header

known_for : (image : List ℕ) (layout : Layout) (fixups : List Fixup) (chains : Chains) → IsWholeLayout layout → ArePointers layout fixups → (c : AreChains layout fixups chains) → (r : IsCarried image layout chains) → PartsFor image r.at layout fixups c.wide c.imports → IsKnown image layout.segments fixups (base_of layout.segments) (told_for r.at layout fixups c.wide c.imports) (word_for layout fixups c.wide c.imports)
unfolding addresses_of
known_for image layout fixups chains w p c r parts = record {
  small = r.small;
  reads = header_is_read image r.command r.at c.wide (length starts) (length rows) (length c.imports) r.fitting r.named (header_told_by image r.command r.at header r.place whole);
  stand = r.segments;
  table = table_stands image (addresses_of fixups) (base_of layout.segments) (r.at + 32) layout.segments r.small parts.starts;
  memory = record {
    apart = p.apart;
    there = λ k d low. word_there image layout fixups c.wide c.imports chains.words (get_or fixups k d) c.words r.words (member k d low);
    next = λ k d low.
        next_told c.wide c.imports (target_of layout (get_or fixups k d)) (steps_to_next (addresses_of fixups) (get_or fixups k d).address) (get_or fixups k d)
        (number_small c.imports (import_of c.wide (get_or fixups k d)) c.few) (steps_small (addresses_of fixups) (get_or fixups k d).address);
    four = λ k d low. (place k d low).four;
    one_page = λ k d low. (place k d low).one_page;
    low = λ k d low. below k d low;
  };
  whole = w.segments;
  early = λ segment there a h inside.
      let found = from_map (λ (f : Fixup). f.address) fixups a h in
      let sound = sound_place layout.segments found.0.address (sound_fixup layout found.0 (c.sound found.0 (Contains_from_in fixups found.0 found.1))).1 in
      early_page layout.segments segment a (subst (λ (n : ℕ). list_any (is_closed n) layout.segments ≡ false) found.2 sound.open_) there inside;
}
  where
    starts : List ℕ
    starts = starts_for layout fixups

    rows : List ℕ
    rows = rows_from c.wide 1 c.imports

    header : FixupsHeader
    header = told_for r.at layout fixups c.wide c.imports

    whole : whole_header_at image r.at ≡ Some header
    whole = known_header image layout fixups c.wide c.imports r.at r.small c.few parts

    contained : (k : ℕ) (d : Fixup) → k < length fixups → Contains fixups (get_or fixups k d)
    contained k d low = (k, low, get_or_default fixups k (get_or fixups k d) d low)

    member : (k : ℕ) (d : Fixup) → k < length fixups → In (get_or fixups k d) fixups
    member k d low = in_from_Contains fixups (get_or fixups k d) (contained k d low)

    place : (k : ℕ) (d : Fixup) → k < length fixups → IsSoundPlace layout.segments (get_or fixups k d).address
    place k d low = sound_place layout.segments (get_or fixups k d).address (sound_fixup layout (get_or fixups k d) (c.sound (get_or fixups k d) (contained k d low))).1

    below : (k : ℕ) (d : Fixup) → k < length fixups → (get_or fixups k d).address + 8 ≤ 2 ^ 64
    below k d low =
        let inside = p.inside (get_or fixups k d) (contained k d low) in
        let segment = inside.0 in
        let tests = both (nat_le segment.address (get_or fixups k d).address) (nat_lt ((get_or fixups k d).address - segment.address) segment.vmsize) inside.2 in
        let high : (get_or fixups k d).address - segment.address < segment.vmsize = ltb-true ((get_or fixups k d).address - segment.address) segment.vmsize tests.1 in
        let end : segment.address + segment.vmsize < 2 ^ 63 = (subst IsWholeSegment inside.1.2 (w.segments inside.1.0 segment inside.1.1)).small in
        omega (arith, high, end)

-- ---- the imports

-- an import is that of a pointer
record IsImportOf (fixups : List Fixup) (wide : Bool) (import : order.Import) : Type 0 where
  pub fixup : Fixup
  pub there : Contains fixups fixup
  pub bound : is_bound fixup.goal ≡ true
  pub is : import_of wide fixup ≡ import

import_from : (fixups : List Fixup) (wide : Bool) (import : order.Import) → Contains (imports_by wide fixups) import → IsImportOf fixups wide import
unfolding imports_by bound
import_from fixups wide import h =
    let found = from_map (import_of wide) (filter (λ fixup. is_bound fixup.goal) fixups) import (in_from_Contains (map (import_of wide) (filter (λ fixup. is_bound fixup.goal) fixups)) import h) in
    let kept = from_filter (λ (fixup : Fixup). is_bound fixup.goal) fixups found.0 found.1 in
    record { fixup = found.0; there = Contains_from_in fixups found.0 kept.0; bound = kept.1; is = found.2 }

import_to : (fixups : List Fixup) (wide : Bool) (fixup : Fixup) → Contains fixups fixup → is_bound fixup.goal ≡ true → Contains (imports_by wide fixups) (import_of wide fixup)
unfolding imports_by bound
import_to fixups wide fixup h b =
    Contains_from_in (map (import_of wide) (filter (λ fixup. is_bound fixup.goal) fixups)) (import_of wide fixup)
    (in_map (import_of wide) (filter (λ fixup. is_bound fixup.goal) fixups) fixup
    (in_filter (λ (fixup : Fixup). is_bound fixup.goal) fixups fixup (in_from_Contains fixups fixup h) b))

names_some : (x : order.Import) (xs : List order.Import) → 0 < length (names_with_nul (x ∷ xs))
unfolding names_with_nul last_name
names_some x [] = let e : length (x.name ++ 0 ∷ []) ≡ length x.name + 1 = length-append x.name (0 ∷ []) in let f : length ((x.name ++ 0 ∷ []) ++ []) ≡ length (x.name ++ 0 ∷ []) + 0 = length-append (x.name ++ 0 ∷ []) [] in omega (arith, e, f)
names_some x (y ∷ ys) =
    let rest : 0 < length (names_with_nul (y ∷ ys)) = names_some y ys in
    let e = length-append (last_name x (y ∷ ys)) (names_with_nul (y ∷ ys)) in
    omega (arith, e, rest)

name_within : (place k : ℕ) (imports : List order.Import) → k < length imports → name_place place imports k < place + length (names_with_nul imports)
unfolding names_with_nul
name_within place k [] within = absurd (omega (arith, within))
name_within place zero (x ∷ xs) within = let some : 0 < length (names_with_nul (x ∷ xs)) = names_some x xs in omega (arith, some)
name_within place (suc k) (x ∷ xs) within =
    let rest : name_place (place + length (last_name x xs)) xs k < place + length (last_name x xs) + length (names_with_nul xs) = name_within (place + length (last_name x xs)) k xs (omega (arith, within)) in
    let e : length (last_name x xs ++ names_with_nul xs) ≡ length (last_name x xs) + length (names_with_nul xs) = length-append (last_name x xs) (names_with_nul xs) in
    omega (arith, rest, e)

-- in the narrow form the pool is small, and so are addends
record IsNarrow (fixups : List Fixup) (imports : List order.Import) : Type 0 where
  pub pool : length (pool_of imports) < 2 ^ 23
  pub addends : (fixup : Fixup) → Contains fixups fixup → is_bound fixup.goal ≡ true → is_small fixup.addend ≡ true

narrow_form : (fixups : List Fixup) (wide : Bool) (imports : List order.Import) → AreFormed fixups wide imports → wide ≡ false → IsNarrow fixups imports
unfolding is_wide
narrow_form fixups wide imports formed narrow =
    let test = either (list_any (λ fixup. is_bound fixup.goal && not (is_small fixup.addend)) fixups) (nat_le (2 ^ 23) (length (pool_of formed.narrow))) (sym formed.form ∙ narrow) in
    let same : imports ≡ formed.narrow = same_imports (imports_by false fixups) imports formed.narrow (subst (λ (b : Bool). AreImports (imports_by b fixups) imports) narrow formed.are) formed.are_narrow in
    let size : length (pool_of imports) ≡ length (pool_of formed.narrow) = ap (λ (i : List order.Import). length (pool_of i)) same in
    record {
      pool = elim (cases_lt (length (pool_of formed.narrow)) (2 ^ 23)) [
        | inl low ↦ omega (arith, low, size)
        | inr high ↦ absurd (false≢true (sym test.1 ∙ le-leb (2 ^ 23) (length (pool_of formed.narrow)) high))
      ];
      addends = λ fixup h b. small fixup (in_from_Contains fixups fixup h) b test.0;
    }
  where
    small : (fixup : Fixup) → In fixup fixups → is_bound fixup.goal ≡ true → list_any (λ fixup. is_bound fixup.goal && not (is_small fixup.addend)) fixups ≡ false → is_small fixup.addend ≡ true
    small fixup h b none = by (is_small fixup.addend) refl
      where
        by : (t : Bool) → is_small fixup.addend ≡ t → is_small fixup.addend ≡ true
        by true e = e
        by false e = absurd (false≢true (sym none ∙ any_from_in (λ (f : Fixup). is_bound f.goal && not (is_small f.addend)) fixups fixup h (rw (b, e) refl)))

imports_for : (image : List ℕ) (layout : Layout) (fixups : List Fixup) (at : ℕ) (wide : Bool) (imports : List order.Import) → length image < 2 ^ 32 → ArePointers layout fixups → AreFormed fixups wide imports → PartsFor image at layout fixups wide imports → ImportsStand image (told_for at layout fixups wide imports) wide imports
unfolding import_of
imports_for image layout fixups at wide imports small p formed parts = record {
  count = refl;
  format = refl;
  rows = λ k d low. row_stands image wide (header.at + header.imports_offset) 1 k imports d low parts.rows;
  names = λ k d low. named k d low;
  places = λ k low. by_form wide refl k low;
  ordinals = λ k d low. let i = of_fixup k d low in subst (λ (x : order.Import). x.ordinal < 2 ^ 16) i.is (ordinal_of_import i.fixup i.there);
  addends = λ k d low. let i = of_fixup k d low in subst (λ (x : order.Import). FitsSigned w64 x.addend) i.is (addend_of_import i.fixup i.there);
}
  where
    header : FixupsHeader
    header = told_for at layout fixups wide imports

    behind : Stands image (header.at + header.symbols_offset + 1) (names_with_nul imports)
    behind = stands_right image (header.at + header.symbols_offset) (header.at + header.symbols_offset + 1) (0 ∷ []) (names_with_nul imports) refl parts.pool

    named : (k : ℕ) (d : order.Import) → k < length imports → Stands image (header.at + header.symbols_offset + name_place 1 imports k) ((get_or imports k d).name ++ 0 ∷ [])
    named k d low = name_stands image (header.at + header.symbols_offset) 1 k imports d low behind

    contained : (k : ℕ) (d : order.Import) → k < length imports → Contains imports (get_or imports k d)
    contained k d low = (k, low, get_or_default imports k (get_or imports k d) d low)

    of_fixup : (k : ℕ) (d : order.Import) → k < length imports → IsImportOf fixups wide (get_or imports k d)
    of_fixup k d low = import_from fixups wide (get_or imports k d) (formed.are.only (get_or imports k d) (contained k d low))

    ordinal_of_import : (fixup : Fixup) → Contains fixups fixup → (import_of wide fixup).ordinal < 2 ^ 16
    ordinal_of_import fixup h = ordinal_small fixup.goal (p.ordinals fixup h)

    addend_of_import : (fixup : Fixup) → Contains fixups fixup → FitsSigned w64 (import_of wide fixup).addend
    addend_of_import fixup h = by wide
      where
        by : (b : Bool) → FitsSigned w64 (if b then fixup.addend else pos 0)
        by true = p.addends fixup h
        by false = search rules

    any_import : (k : ℕ) → k < length imports → order.Import
    any_import k low = first imports (omega (arith, low))
      where
        first : (xs : List order.Import) → 0 < length xs → order.Import
        first [] some = absurd (omega (arith, some))
        first (x ∷ xs) some = x

    by_form : (b : Bool) → wide ≡ b → (k : ℕ) → k < length imports → name_place 1 imports k < (if wide then 2 ^ 32 else 2 ^ 23)
    by_form true e k low =
        let d = any_import k low in
        let size : length ((get_or imports k d).name ++ 0 ∷ []) ≡ length (get_or imports k d).name + 1 = length-append (get_or imports k d).name (0 ∷ []) in
        let within : header.at + header.symbols_offset + name_place 1 imports k + length ((get_or imports k d).name ++ 0 ∷ []) ≤ length image = stands_within image (header.at + header.symbols_offset + name_place 1 imports k) ((get_or imports k d).name ++ 0 ∷ []) (named k d low) (omega (arith, size)) in
        let high : name_place 1 imports k < 2 ^ 32 = omega (arith, within, small) in
        subst (λ (b : Bool). name_place 1 imports k < (if b then 2 ^ 32 else 2 ^ 23)) (sym e) high
    by_form false e k low =
        let narrow = narrow_form fixups wide imports formed e in
        let inside : name_place 1 imports k < 1 + length (names_with_nul imports) = name_within 1 k imports low in
        let high : name_place 1 imports k < 2 ^ 23 = omega (arith, inside, narrow.pool) in
        subst (λ (b : Bool). name_place 1 imports k < (if b then 2 ^ 32 else 2 ^ 23)) (sym e) high

-- ---- the law

at_answer : (image : List ℕ) (address : ℕ) (fixup : FixupRead) → fixup_read image address ≡ Ok fixup → fixup_at image address ≡ fixup
unfolding fixup_at
at_answer image address fixup e = ap answer e

at_refusal : (image : List ℕ) (address : ℕ) (fixup : FixupRead) → fixup_read image address ≡ Err fixup → fixup_at image address ≡ fixup
unfolding fixup_at
at_refusal image address fixup e = ap answer e

parts_of : (image : List ℕ) (layout : Layout) (fixups : List Fixup) (chains : Chains) → (c : AreChains layout fixups chains) → (r : IsCarried image layout chains) → PartsFor image r.at layout fixups c.wide c.imports
parts_of image layout fixups chains c r = parts_for image r.at layout fixups c.wide c.imports chains.blob c.blob (stands_taken image r.at chains.blob r.blob)

pub no_others : (image : List ℕ) (layout : Layout) (fixups : List Fixup) (chains : Chains) (address : ℕ) → IsWholeLayout layout → ArePointers layout fixups → AreChains layout fixups chains → IsCarried image layout chains → ((fixup : Fixup) → Contains fixups fixup → fixup.address ≢ address) → fixup_at image address ≡ Plain
no_others image layout fixups chains address w p c r none =
    at_refusal image address Plain
    (found_nothing image layout.segments fixups (base_of layout.segments) (told_for r.at layout fixups c.wide c.imports) (word_for layout fixups c.wide c.imports) address
    (known_for image layout fixups chains w p c r (parts_of image layout fixups chains c r)) none)

same_bind : (number : ℕ) (o p : ℤ) (a b : ℤ) (x y : Bool) → o ≡ p → a ≡ b → x ≡ y → Bind number o a x ≡ Bind number p b y
same_bind number o p a b x y e f g = rw (e, f, g) refl

some_offset : (o : Option ℕ) → is_none o ≡ false → (offset : ℕ) × (o ≡ Some offset)
some_offset None e = absurd (false≢true (sym e))
some_offset (Some n) e = (n, refl)

pub each_pointer : (image : List ℕ) (layout : Layout) (fixups : List Fixup) (chains : Chains) (fixup : Fixup) → IsWholeLayout layout → ArePointers layout fixups → AreChains layout fixups chains → IsCarried image layout chains → Contains fixups fixup → IsFound image layout fixup
unfolding import_of
each_pointer image layout fixups chains fixup w p c r there = by (is_bound fixup.goal) refl
  where
    parts : PartsFor image r.at layout fixups c.wide c.imports
    parts = parts_of image layout fixups chains c r

    header : FixupsHeader
    header = told_for r.at layout fixups c.wide c.imports

    word : ℕ
    word = word_for layout fixups c.wide c.imports fixup

    steps : ℕ
    steps = steps_to_next (addresses_of fixups) fixup.address

    found : (read : FixupRead) → fixup_of image header word ≡ Ok read → fixup_at image fixup.address ≡ read
    found read e =
        let inside = p.inside fixup there in
        at_answer image fixup.address read
        (found_pointer image layout.segments fixups (base_of layout.segments) header (word_for layout fixups c.wide c.imports) fixup inside.0 (Ok read)
        (known_for image layout fixups chains w p c r parts) there (in_from_Contains layout.segments inside.0 inside.1) inside.2 e)

    by : (b : Bool) → is_bound fixup.goal ≡ b → IsFoundBy b image layout fixup
    by false other =
        let near = (sound_fixup layout fixup (c.sound fixup there)).0 in
        let room : is_none (in_rebase (target_of layout fixup)) ≡ false = rw other at near in
        let offset = some_offset (in_rebase (target_of layout fixup)) room in
        let held : unwrap_or (in_rebase (target_of layout fixup)) 0 ≡ offset.0 = ap (λ (o : Option ℕ). unwrap_or o 0) offset.1 in
        let is = rebase_word_is c.wide c.imports (target_of layout fixup) steps fixup other (steps_small (addresses_of fixups) fixup.address) in
        record {
          offset = offset.0;
          leads = target_held (target_of layout fixup) offset.0 offset.1;
          rebase = found (Rebase offset.0) (rebase_read image header word (unwrap_or (in_rebase (target_of layout fixup)) 0) steps is ∙ ap (λ (n : ℕ). Ok (Rebase n)) held);
        }
    by true also = bind also (at_number c.imports (import_of c.wide fixup) (c.formed.are.all (import_of c.wide fixup) (import_to fixups c.wide fixup there also)))
      where
        bind : is_bound fixup.goal ≡ true → IsAtNumber c.imports (import_of c.wide fixup) → IsFoundBy true image layout fixup
        bind also at = record {
          import = number;
          bind =
              found (Bind number one.ordinal (cast_signed w64 ((word_addend c.wide fixup.addend + one.addend) % 2 ^ 64)) one.optional)
              (bind_read image header word number (word_addend c.wide fixup.addend) steps one is told)
              ∙ same_bind number one.ordinal (signed_ordinal fixup.goal) (cast_signed w64 ((word_addend c.wide fixup.addend + one.addend) % 2 ^ 64)) fixup.addend one.optional (optional_of fixup.goal)
              ordinal_is (addend_read c.wide fixup (p.addends fixup there) small) optional_is;
          named = name_is_read image header c.wide c.imports number (import_of c.wide fixup) told_header stand at.within name_sound ∙ ap (λ (i : order.Import). Some i.name) at.is ∙ name_is;
        }
          where
            number : ℕ
            number = number_of c.imports (import_of c.wide fixup)

            one : Import
            one = import_told c.wide (import_of c.wide fixup)

            stand : ImportsStand image header c.wide c.imports
            stand = imports_for image layout fixups r.at c.wide c.imports r.small p c.formed parts

            told : import_at image header number ≡ Ok one
            told = import_is_read image header c.wide c.imports number (import_of c.wide fixup) stand at.within ∙ ap (λ (i : order.Import). Ok (import_told c.wide i)) at.is

            is : IsBindWord word number (word_addend c.wide fixup.addend) steps
            is = bind_word_is c.wide c.imports (target_of layout fixup) steps fixup also (number_small c.imports (import_of c.wide fixup) c.few) (steps_small (addresses_of fixups) fixup.address)

            small : c.wide ≡ false → is_small fixup.addend ≡ true
            small narrow = (narrow_form fixups c.wide c.imports c.formed narrow).addends fixup there also

            ordinal_is : one.ordinal ≡ signed_ordinal fixup.goal
            ordinal_is = ordinal_read c.wide fixup.goal also (p.ordinals fixup there)

            optional_is : one.optional ≡ optional_of fixup.goal
            optional_is = refl

            name_is : Some (import_of c.wide fixup).name ≡ Some (name_of fixup.goal)
            name_is = refl

            no_nul : All (λ b. b ≢ 0) (import_of c.wide fixup).name
            no_nul = p.names fixup there

            name_sound : All (λ b. b ≢ 0) (get_or c.imports number (import_of c.wide fixup)).name
            name_sound = subst (λ (i : order.Import). All (λ b. b ≢ 0) i.name) (sym at.is) no_nul

            told_header : header_of image ≡ Some header
            told_header = header_is_of image r.command header r.fitting r.named (header_told_by image r.command r.at header r.place (known_header image layout fixups c.wide c.imports r.at r.small c.few parts))
