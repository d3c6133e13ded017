-- The entries of sections, as they come.
use Rattle.std.proofs.Common.{◌≡◌, ℕ, ◌+◌, ◌<◌, ◌≤◌, ◌++◌, ◌∷◌, [], List, length, get_or, take, true, false, Option, Some, None, Ok, Err, refl, sym, ap, ◌∙◌, append_assoc, append-nil, subst}
use Rattle.std.specs.List.{filter_map, flat_map, range_with_len}
use Rattle.std.specs.Option.{option_map, option_to_list}
use Rattle.std.proofs.lemmas.Grind.{flat_map-append}
use Rattle.std.proofs.lemmas.List.{take_all, take_more}
use Rattle.mo_types.specs.declared.key.FileId.{FileId}
use Rattle.mo_types.specs.declared.object.Object.{Object}
use Rattle.mo_types.specs.declared.object.Section.{Section}
use Rattle.mo_types.specs.declared.unwind.Unwind.{Unwind}
use Rattle.mo_types.specs.RelocationRules.{least}
use Rattle.reloc_read.specs.Faults.{lesser}
use Rattle.reloc_read.proofs.ApartLemmas.{mapped_more}
use Rattle.unwind_read.specs.declared.entries.Found.{Found}
use Rattle.unwind_read.specs.declared.fault.UnwindFault.TheVariants.{BadEntry}
use Rattle.unwind_read.specs.declared.entry_rows.EntryRow.{EntryRow}
use Rattle.unwind_read.specs.declared.pointers.EntryRelocs.{EntryRelocs}
use Rattle.unwind_read.specs.EntryRows.{relocs_in}
use Rattle.unwind_read.specs.declared.ranges.Ranges.{Ranges}
use Rattle.unwind_read.specs.declared.spans.Span.{Span}
use Rattle.unwind_read.specs.declared.spots.Spot.{Spot}
use Rattle.unwind_read.specs.Added.{Added, AreAll}
use Rattle.unwind_read.specs.Found.{entry_fault, found_with}
use Rattle.unwind_read.specs.Overlaps.{overlap_faults}
use Rattle.unwind_read.specs.Ranges.{AreRangesOf}
use Rattle.unwind_read.specs.Pointers.{AreRows}
use Rattle.unwind_read.specs.Rules.{entry_at, entry_count, entry_place, entry_relocs, has_entries, section_faults}
use Rattle.unwind_read.specs.Unwinds.{first_fault, kept_function, section_spans, section_unwinds, span_at, span_with, spans_of, unwind_at, unwind_with, unwinds_of}
use Rattle.unwind_read.proofs.LeastLemmas.{least-append, least_more}
use Rattle.unwind_read.proofs.RowLemmas.{row_is}

-- what one entry says

abbrev found_at : Object → FileId → Section → ℕ → Spot → Found
found_at object file section i = found_with object file (entry_place section i) (entry_at section i) (entry_relocs section i)

unwind_twice : (object : Object) (file : FileId) (section : Section) (i : ℕ) (o : Option Spot) → option_map (λ (f : Found). f.unwind) (option_map (found_at object file section i) o) ≡ option_map (unwind_with object file (entry_at section i) (entry_relocs section i)) o
unwind_twice object file section i None = refl
unwind_twice object file section i (Some x) = refl

span_twice : (object : Object) (file : FileId) (section : Section) (i : ℕ) (o : Option Spot) → option_map (λ (f : Found). f.span) (option_map (found_at object file section i) o) ≡ option_map (span_with (entry_place section i) (entry_at section i)) o
span_twice object file section i None = refl
span_twice object file section i (Some x) = refl

pub unwind_is : (object : Object) (file : FileId) (section : Section) (i : ℕ) (found : Option Found) → found ≡ option_map (found_with object file (entry_place section i) (entry_at section i) (entry_relocs section i)) (kept_function object (entry_at section i) (entry_relocs section i)) → option_map (λ (f : Found). f.unwind) found ≡ unwind_at object file section i
unfolding unwind_at
unwind_is object file section i found e = ap (option_map (λ (f : Found). f.unwind)) e ∙ unwind_twice object file section i (kept_function object (entry_at section i) (entry_relocs section i))

pub span_is : (object : Object) (file : FileId) (section : Section) (i : ℕ) (found : Option Found) → found ≡ option_map (found_with object file (entry_place section i) (entry_at section i) (entry_relocs section i)) (kept_function object (entry_at section i) (entry_relocs section i)) → option_map (λ (f : Found). f.span) found ≡ span_at object section i
unfolding span_at
span_is object file section i found e = ap (option_map (λ (f : Found). f.span)) e ∙ span_twice object file section i (kept_function object (entry_at section i) (entry_relocs section i))

pub ruleset founds = (unwind_is, span_is)

pub entry_row_is : (section : Section) (rows : List EntryRow) (i : ℕ) (row : EntryRow) (relocs : EntryRelocs) → AreRows section.relocs rows → i < length rows → row ≡ get_or rows i row → relocs ≡ relocs_in i row → relocs ≡ entry_relocs section i
unfolding entry_relocs
entry_row_is section rows i row relocs are within is read = read ∙ row_is section.relocs rows i row are within is

-- the entries of a section so far

moved_ranges : (ranges : Ranges) (spans more : List Span) → spans ≡ more → AreRangesOf ranges spans → AreRangesOf ranges more
moved_ranges ranges spans more e are = subst (λ (xs : List Span). AreRangesOf ranges xs) e are

pub added_none : (object : Object) (file : FileId) (section : Section) (unwinds : List Unwind) (ranges : Ranges) → Added object file section unwinds unwinds ranges ranges 0 None
added_none object file section unwinds ranges = record { told = refl; entries = sym (append-nil unwinds); spans = λ spans are. moved_ranges ranges spans (spans ++ []) (sym (append-nil spans)) are }

more_listed : {X : Type 0} (h : ℕ → Option X) (at : ℕ) (xs ys zs : List X) → ys ≡ xs ++ filter_map h (range_with_len 0 at) → zs ≡ ys ++ option_to_list (h at) → zs ≡ xs ++ filter_map h (range_with_len 0 (at + 1))
more_listed h at xs ys zs is more =
    more ∙ ap (λ l. l ++ option_to_list (h at)) is
    ∙ append_assoc xs (filter_map h (range_with_len 0 at)) (option_to_list (h at))
    ∙ ap (λ l. xs ++ l) (sym (mapped_more h at (h at) refl))

pub added_more : (object : Object) (file : FileId) (section : Section) (unwinds new_unwinds more_unwinds : List Unwind) (ranges new_ranges more_ranges : Ranges) (at : ℕ) (fault here more : Option ℕ) → Added object file section unwinds new_unwinds ranges new_ranges at fault → here ≡ entry_fault object section at → more ≡ lesser fault here → more_unwinds ≡ new_unwinds ++ option_to_list (unwind_at object file section at) → ((spans : List Span) → AreRangesOf new_ranges spans → AreRangesOf more_ranges (spans ++ option_to_list (span_at object section at))) → Added object file section unwinds more_unwinds ranges more_ranges (at + 1) more
added_more object file section unwinds new_unwinds more_unwinds ranges new_ranges more_ranges at fault here more are is joined more_u more_s = record {
  told = least_more (entry_fault object section) at fault more here are.told is joined;
  entries = more_listed (unwind_at object file section) at unwinds new_unwinds more_unwinds are.entries more_u;
  spans = λ spans old. moved_ranges more_ranges _ _ ((more_listed (span_at object section) at spans (spans ++ filter_map (span_at object section) (range_with_len 0 at)) (spans ++ filter_map (span_at object section) (range_with_len 0 at) ++ option_to_list (span_at object section at)) refl refl)) (more_s (spans ++ filter_map (span_at object section) (range_with_len 0 at)) (are.spans spans old));
}

pub added_all : (object : Object) (file : FileId) (section : Section) (unwinds new_unwinds : List Unwind) (ranges new_ranges : Ranges) (at : ℕ) (fault : Option ℕ) → Added object file section unwinds new_unwinds ranges new_ranges at fault → at ≡ entry_count section → Added object file section unwinds new_unwinds ranges new_ranges (entry_count section) fault
added_all object file section unwinds new_unwinds ranges new_ranges at fault are last = subst (λ (n : ℕ). Added object file section unwinds new_unwinds ranges new_ranges n fault) last are

pub section_unwinds_are : (object : Object) (file : FileId) (section : Section) (unwinds new : List Unwind) (count : ℕ) → has_entries section ≡ true → count ≡ entry_count section → new ≡ unwinds ++ filter_map (unwind_at object file section) (range_with_len 0 count) → new ≡ unwinds ++ section_unwinds object file section
unfolding section_unwinds
section_unwinds_are object file section unwinds new count has is e = rw has (e ∙ ap (λ n. unwinds ++ filter_map (unwind_at object file section) (range_with_len 0 n)) is)

pub section_spans_are : (object : Object) (section : Section) (ranges : Ranges) (spans : List Span) (count : ℕ) → has_entries section ≡ true → count ≡ entry_count section → AreRangesOf ranges (spans ++ filter_map (span_at object section) (range_with_len 0 count)) → AreRangesOf ranges (spans ++ section_spans object section)
unfolding section_spans
section_spans_are object section ranges spans count has is are = rw has (moved_ranges ranges _ _ (ap (λ n. spans ++ filter_map (span_at object section) (range_with_len 0 n)) is) are)

pub no_section_unwinds : (object : Object) (file : FileId) (section : Section) (unwinds : List Unwind) → has_entries section ≡ false → unwinds ≡ unwinds ++ section_unwinds object file section
unfolding section_unwinds
no_section_unwinds object file section unwinds none = rw none (sym (append-nil unwinds))

pub no_section_spans : (object : Object) (section : Section) (ranges : Ranges) (spans : List Span) → has_entries section ≡ false → AreRangesOf ranges spans → AreRangesOf ranges (spans ++ section_spans object section)
unfolding section_spans
no_section_spans object section ranges spans none are = rw none (moved_ranges ranges _ _ (sym (append-nil spans)) are)

pub ruleset none_there = (no_section_unwinds, no_section_spans)

-- the sections so far

pub record AddedAll (object : Object) (file : FileId) (sections : List Section) (unwinds new_unwinds : List Unwind) (ranges new_ranges : Ranges) (at : ℕ) (fault : Option ℕ) : Type 0 where
  pub told : fault ≡ least (flat_map (section_faults object) (take at sections))
  pub entries : new_unwinds ≡ unwinds ++ flat_map (section_unwinds object file) (take at sections)
  pub spans : (spans : List Span) → AreRangesOf ranges spans → AreRangesOf new_ranges (spans ++ flat_map (section_spans object) (take at sections))

pub all_none : (object : Object) (file : FileId) (sections : List Section) (unwinds : List Unwind) (ranges : Ranges) → AddedAll object file sections unwinds unwinds ranges ranges 0 None
all_none object file sections unwinds ranges = record { told = refl; entries = sym (append-nil unwinds); spans = λ spans are. moved_ranges ranges spans (spans ++ []) (sym (append-nil spans)) are }

flat_one : {X : Type 0} (f : Section → List X) (x : Section) → flat_map f (x ∷ []) ≡ f x
flat_one f x = append-nil (f x)

flat_more : {X : Type 0} (f : Section → List X) (sections : List Section) (at : ℕ) (section : Section) → at < length sections → section ≡ get_or sections at section → flat_map f (take (at + 1) sections) ≡ flat_map f (take at sections) ++ f section
flat_more f sections at section within is =
    ap (flat_map f) (take_more sections at section within ∙ ap (λ x. take at sections ++ x ∷ []) (sym is))
    ∙ flat_map-append f (take at sections) (section ∷ [])
    ∙ ap (λ xs. flat_map f (take at sections) ++ xs) (flat_one f section)

flat_listed : {X : Type 0} (f : Section → List X) (sections : List Section) (at : ℕ) (section : Section) (xs ys zs : List X) → at < length sections → section ≡ get_or sections at section → ys ≡ xs ++ flat_map f (take at sections) → zs ≡ ys ++ f section → zs ≡ xs ++ flat_map f (take (at + 1) sections)
flat_listed f sections at section xs ys zs within is so_far more =
    more ∙ ap (λ l. l ++ f section) so_far ∙ append_assoc xs (flat_map f (take at sections)) (f section)
    ∙ ap (λ l. xs ++ l) (sym (flat_more f sections at section within is))

pub all_more : (object : Object) (file : FileId) (sections : List Section) (unwinds new_unwinds more_unwinds : List Unwind) (ranges new_ranges more_ranges : Ranges) (at : ℕ) (fault here more : Option ℕ) (section : Section) → AddedAll object file sections unwinds new_unwinds ranges new_ranges at fault → at < length sections → section ≡ get_or sections at section → here ≡ least (section_faults object section) → more ≡ lesser fault here → more_unwinds ≡ new_unwinds ++ section_unwinds object file section → ((spans : List Span) → AreRangesOf new_ranges spans → AreRangesOf more_ranges (spans ++ section_spans object section)) → AddedAll object file sections unwinds more_unwinds ranges more_ranges (at + 1) more
all_more object file sections unwinds new_unwinds more_unwinds ranges new_ranges more_ranges at fault here more section are within is is_here joined more_u more_s = record {
  told = joined ∙ ap (λ o. lesser o here) are.told ∙ ap (lesser (least (flat_map (section_faults object) (take at sections)))) is_here
      ∙ sym (least-append (flat_map (section_faults object) (take at sections)) (section_faults object section))
      ∙ ap least (sym (flat_more (section_faults object) sections at section within is));
  entries = flat_listed (section_unwinds object file) sections at section unwinds new_unwinds more_unwinds within is are.entries more_u;
  spans = λ spans old. moved_ranges more_ranges _ _ (flat_listed (section_spans object) sections at section spans (spans ++ flat_map (section_spans object) (take at sections)) (spans ++ flat_map (section_spans object) (take at sections) ++ section_spans object section) within is refl refl) (more_s (spans ++ flat_map (section_spans object) (take at sections)) (are.spans spans old));
}

pub all_end : (object : Object) (file : FileId) (sections all : List Section) (unwinds new_unwinds : List Unwind) (ranges new_ranges : Ranges) (at : ℕ) (fault : Option ℕ) → AddedAll object file sections unwinds new_unwinds ranges new_ranges at fault → sections ≡ all → length sections ≤ at → AreAll object file all unwinds new_unwinds ranges new_ranges fault
all_end object file sections all unwinds new_unwinds ranges new_ranges at fault are is past =
    let whole : take at sections ≡ all = take_all at sections past ∙ is in record {
      told = are.told ∙ ap (λ xs. least (flat_map (section_faults object) xs)) whole;
      entries = are.entries ∙ ap (λ xs. unwinds ++ flat_map (section_unwinds object file) xs) whole;
      spans = λ spans old. moved_ranges new_ranges _ _ (ap (λ xs. spans ++ flat_map (section_spans object) xs) whole) (are.spans spans old);
    }

pub ruleset alls = (all_none, all_end)

-- the answer

from_nothing : {X : Type 0} (old rest new : List X) → new ≡ old ++ rest → old ≡ [] → new ≡ rest
from_nothing old rest new e none = e ∙ ap (λ xs. xs ++ rest) none

fault_is : (object : Object) (broken overlapping found : Option ℕ) → broken ≡ least (flat_map (section_faults object) object.sections) → overlapping ≡ least (overlap_faults (spans_of object)) → found ≡ lesser broken overlapping → found ≡ first_fault object
unfolding first_fault
fault_is object broken overlapping found is_broken is_overlapping joined =
    joined ∙ ap (λ o. lesser o overlapping) is_broken
    ∙ ap (lesser (least (flat_map (section_faults object) object.sections))) is_overlapping
    ∙ sym (least-append (flat_map (section_faults object) object.sections) (overlap_faults (flat_map (section_spans object) object.sections)))

pub all_entries : (object : Object) (file : FileId) (old unwinds : List Unwind) (ranges new_ranges : Ranges) (broken : Option ℕ) → AreAll object file object.sections old unwinds ranges new_ranges broken → old ≡ [] → unwinds ≡ flat_map (section_unwinds object file) object.sections
all_entries object file old unwinds ranges new_ranges broken are none = from_nothing old (flat_map (section_unwinds object file) object.sections) unwinds are.entries none

pub answer_fault : (object : Object) (file : FileId) (broken overlapping found : Option ℕ) (place : ℕ) → broken ≡ least (flat_map (section_faults object) object.sections) → overlapping ≡ least (overlap_faults (spans_of object)) → found ≡ lesser broken overlapping → found ≡ Some place → unwinds_of object file ≡ Err (BadEntry place)
unfolding unwinds_of
answer_fault object file broken overlapping found place told is joined some =
    let e : first_fault object ≡ Some place = sym (fault_is object broken overlapping found told is joined) ∙ some in
    rw e refl

pub answer_unwinds : (object : Object) (file : FileId) (broken overlapping found : Option ℕ) (unwinds : List Unwind) → broken ≡ least (flat_map (section_faults object) object.sections) → unwinds ≡ flat_map (section_unwinds object file) object.sections → overlapping ≡ least (overlap_faults (spans_of object)) → found ≡ lesser broken overlapping → found ≡ None → unwinds_of object file ≡ Ok unwinds
unfolding unwinds_of
answer_unwinds object file broken overlapping found unwinds told are is joined no_fault =
    let e : first_fault object ≡ None = sym (fault_is object broken overlapping found told is joined) ∙ no_fault in
    rw e (ap Ok (sym are))
