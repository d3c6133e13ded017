-- Each structure of an object is read at its place.
use Rattle.std.proofs.Common.{◌≡◌, ℕ, ◌+◌, ◌-◌, ◌*◌, ◌/◌, ◌%◌, ◌<◌, ◌≤◌, ◌^◌, List, [], ◌∷◌, ◌++◌, length, Bool, true, false, refl, sym, ap, ◌∙◌, subst, append_assoc, arith}
use Rattle.std.specs.Prelude.{◌==◌, ◌&&◌, not, nat_lt, if◌then◌else◌}
use Rattle.std.specs.List.{flat_map}
use Rattle.std.proofs.lemmas.List.{length-append, length-replicate}
use Rattle.mo_bytes.specs.Number.{number, number_bytes}
use Rattle.mo_bytes.specs.Rounding.{least_multiple}
use Rattle.mo_bytes.proofs.Numbers.{length-number_bytes}
use Rattle.mo_format.specs.Fields.{Number}
use Rattle.mo_format.specs.Header.{mach_header_at, mach_header_bytes, mach_header_fields}
use Rattle.mo_format.specs.Relocation.{IsPackable, packed, relocation_info_at, relocation_info_bytes}
use Rattle.mo_format.specs.Segment.{section_header_at, section_header_bytes, section_header_fields, segment_command_at, segment_command_bytes, segment_command_fields}
use Rattle.mo_format.specs.Symbol.{nlist_bytes, symtab_command_at, symtab_command_bytes, symtab_command_fields}
use Rattle.mo_format.proofs.FieldLemmas.{AreFit, all_read}
use Rattle.mo_format.proofs.RelocationLemmas.{relocation_info_read}
use Rattle.mo_format.proofs.StructureLemmas.{mach_header_read, section_header_read, segment_command_read, symtab_command_read}
use Rattle.link_gen.proofs.CallLemmas.{number_within}
use Rattle.link_gen.proofs.TableLemmas.{places_few_of}
use Rattle.link_gen.proofs.ChunkLemmas.{chunk, length_chunks, length_spelled, split_behind}
use Rattle.link_gen.specs.Calls.{called, first_function, function_count, own_weaks}
use Rattle.link_gen.specs.Generated.{AreFew, front_bytes, generated, header, padding, places_of, relocation_place, section, segment, string_place, symbol_place, symtab}
use Rattle.link_gen.specs.Parts.{instruction, instructions, relocation, relocations, text_size}
use Rattle.link_gen.specs.Placed.{ArePlaced}
use Rattle.link_gen.specs.Symbols.{entries_from, strings_of, symbols_of}
use Rattle.link_gen.specs.declared.calls.MadeObject.{MadeObject}
use Rattle.link_gen.specs.declared.front.Places.{Places}
use Rattle.link_gen.specs.Tables.{AreTables}
use Rattle.link_gen.specs.declared.tables.Tables.{Tables}
use Rattle.link_gen.specs.declared.text.TheConstants.{BL, RET}

header_fits : AreFit (mach_header_fields header)
header_fits = (omega arith, (omega arith, (omega arith, (omega arith, (omega arith, (omega arith, (omega arith, (omega arith, tt))))))))

segment_fits : (places : Places) → AreFew places → AreFit (segment_command_fields (segment places))
segment_fits places few =
    let text = few.text in
    (omega arith, (omega arith, (refl, (omega arith, (omega arith, (omega arith, (omega arith, (omega arith, (omega arith, (omega arith, (omega arith, tt)))))))))))

low_places : (places : Places) → AreFew places → (relocation_place places < 3000) × (symbol_place places < 12000) × (string_place places < 30000)
unfolding least_multiple
low_places places few =
    let text = few.text in
    let calls = few.relocations in
    let names = few.symbols in
    (omega arith, omega arith, omega arith)

section_fits : (places : Places) → AreFew places → AreFit (section_header_fields (section places))
section_fits places few =
    let text = few.text in
    let calls = few.relocations in
    let low = (low_places places few).0 in
    (refl, (refl, (omega arith, (omega arith, (omega arith, (omega arith, (omega arith, (omega arith, (omega arith, (omega arith, (omega arith, (omega arith, tt))))))))))))

symtab_fits : (places : Places) → AreFew places → AreFit (symtab_command_fields (symtab places))
symtab_fits places few =
    let names = few.symbols in
    let strings = few.strings in
    let low = (low_places places few).1 in
    let high = (low_places places few).2 in
    (omega arith, (omega arith, (omega arith, (omega arith, (omega arith, (omega arith, tt))))))

-- the parts of the front, with what follows
abbrev front_of : Places → List ℕ → List ℕ
front_of places rest = front_bytes places ++ rest

header_there : (places : Places) (rest : List ℕ) → mach_header_at (front_of places rest) 0 ≡ header
unfolding front_bytes
header_there places rest =
    let others : List ℕ = segment_command_bytes (segment places) ++ (section_header_bytes (section places) ++ symtab_command_bytes (symtab places)) in
    subst (λ (l : List ℕ). mach_header_at l 0 ≡ header) (sym (append_assoc (mach_header_bytes header) others rest)) (mach_header_read header [] (others ++ rest) header_fits)

three_behind : (a b c d rest : List ℕ) → (a ++ (b ++ (c ++ d))) ++ rest ≡ (a ++ b) ++ (c ++ (d ++ rest))
three_behind a b c d rest = simp append_assoc

segment_there : (places : Places) (rest : List ℕ) → AreFew places → segment_command_at (front_of places rest) 32 ≡ segment places
unfolding front_bytes
segment_there places rest few =
    let long : length (mach_header_bytes header) ≡ 32 = length_spelled (mach_header_fields header) header_fits in
    let read = segment_command_read (segment places) (mach_header_bytes header) (section_header_bytes (section places) ++ (symtab_command_bytes (symtab places) ++ rest)) (segment_fits places few) in
    subst (λ (l : List ℕ). segment_command_at l 32 ≡ segment places) (sym (three_behind (mach_header_bytes header) (segment_command_bytes (segment places)) (section_header_bytes (section places)) (symtab_command_bytes (symtab places)) rest))
    (subst (λ (n : ℕ). segment_command_at ((mach_header_bytes header ++ segment_command_bytes (segment places)) ++ (section_header_bytes (section places) ++ (symtab_command_bytes (symtab places) ++ rest))) n ≡ segment places) long read)

two_behind : (a b c d rest : List ℕ) → (a ++ (b ++ (c ++ d))) ++ rest ≡ ((a ++ b) ++ c) ++ (d ++ rest)
two_behind a b c d rest = simp append_assoc

section_there : (places : Places) (rest : List ℕ) → AreFew places → section_header_at (front_of places rest) 104 ≡ section places
unfolding front_bytes
section_there places rest few =
    let one : length (mach_header_bytes header) ≡ 32 = length_spelled (mach_header_fields header) header_fits in
    let two : length (segment_command_bytes (segment places)) ≡ 72 = length_spelled (segment_command_fields (segment places)) (segment_fits places few) in
    let long : length (mach_header_bytes header ++ segment_command_bytes (segment places)) ≡ 104 = length-append (mach_header_bytes header) (segment_command_bytes (segment places)) ∙ plus (length (mach_header_bytes header)) (length (segment_command_bytes (segment places))) one two in
    let read = section_header_read (section places) (mach_header_bytes header ++ segment_command_bytes (segment places)) (symtab_command_bytes (symtab places) ++ rest) (section_fits places few) in
    subst (λ (l : List ℕ). section_header_at l 104 ≡ section places) (sym (two_behind (mach_header_bytes header) (segment_command_bytes (segment places)) (section_header_bytes (section places)) (symtab_command_bytes (symtab places)) rest))
    (subst (λ (n : ℕ). section_header_at (((mach_header_bytes header ++ segment_command_bytes (segment places)) ++ section_header_bytes (section places)) ++ (symtab_command_bytes (symtab places) ++ rest)) n ≡ section places) long read)
  where
    plus : (a b : ℕ) → a ≡ 32 → b ≡ 72 → a + b ≡ 104
    plus a b p q = omega arith

one_behind : (a b c d rest : List ℕ) → (a ++ (b ++ (c ++ d))) ++ rest ≡ (((a ++ b) ++ c) ++ d) ++ rest
one_behind a b c d rest = simp append_assoc

symtab_there : (places : Places) (rest : List ℕ) → AreFew places → symtab_command_at (front_of places rest) 184 ≡ symtab places
unfolding front_bytes
symtab_there places rest few =
    let one : length (mach_header_bytes header) ≡ 32 = length_spelled (mach_header_fields header) header_fits in
    let two : length (segment_command_bytes (segment places)) ≡ 72 = length_spelled (segment_command_fields (segment places)) (segment_fits places few) in
    let three : length (section_header_bytes (section places)) ≡ 80 = length_spelled (section_header_fields (section places)) (section_fits places few) in
    let long : length ((mach_header_bytes header ++ segment_command_bytes (segment places)) ++ section_header_bytes (section places)) ≡ 184 =
    length-append (mach_header_bytes header ++ segment_command_bytes (segment places)) (section_header_bytes (section places))
    ∙ ap (λ (n : ℕ). n + length (section_header_bytes (section places))) (length-append (mach_header_bytes header) (segment_command_bytes (segment places)))
    ∙ plus (length (mach_header_bytes header)) (length (segment_command_bytes (segment places))) (length (section_header_bytes (section places))) one two three in
    let read = symtab_command_read (symtab places) ((mach_header_bytes header ++ segment_command_bytes (segment places)) ++ section_header_bytes (section places)) rest (symtab_fits places few) in
    subst (λ (l : List ℕ). symtab_command_at l 184 ≡ symtab places) (sym (one_behind (mach_header_bytes header) (segment_command_bytes (segment places)) (section_header_bytes (section places)) (symtab_command_bytes (symtab places)) rest))
    (subst (λ (n : ℕ). symtab_command_at ((((mach_header_bytes header ++ segment_command_bytes (segment places)) ++ section_header_bytes (section places)) ++ symtab_command_bytes (symtab places)) ++ rest) n ≡ symtab places) long read)
  where
    plus : (a b c : ℕ) → a ≡ 32 → b ≡ 72 → c ≡ 80 → a + b + c ≡ 184
    plus a b c p q r = omega arith

pub length_front : (places : Places) → AreFew places → length (front_bytes places) ≡ 208
unfolding front_bytes
length_front places few =
    let one : length (mach_header_bytes header) ≡ 32 = length_spelled (mach_header_fields header) header_fits in
    let two : length (segment_command_bytes (segment places)) ≡ 72 = length_spelled (segment_command_fields (segment places)) (segment_fits places few) in
    let three : length (section_header_bytes (section places)) ≡ 80 = length_spelled (section_header_fields (section places)) (section_fits places few) in
    let four : length (symtab_command_bytes (symtab places)) ≡ 24 = length_spelled (symtab_command_fields (symtab places)) (symtab_fits places few) in
    length-append (mach_header_bytes header) (segment_command_bytes (segment places) ++ (section_header_bytes (section places) ++ symtab_command_bytes (symtab places)))
    ∙ ap (λ (n : ℕ). length (mach_header_bytes header) + n) (length-append (segment_command_bytes (segment places)) (section_header_bytes (section places) ++ symtab_command_bytes (symtab places)))
    ∙ ap (λ (n : ℕ). length (mach_header_bytes header) + (length (segment_command_bytes (segment places)) + n)) (length-append (section_header_bytes (section places)) (symtab_command_bytes (symtab places)))
    ∙ plus (length (mach_header_bytes header)) (length (segment_command_bytes (segment places))) (length (section_header_bytes (section places))) (length (symtab_command_bytes (symtab places))) one two three four
  where
    plus : (a b c d : ℕ) → a ≡ 32 → b ≡ 72 → c ≡ 80 → d ≡ 24 → a + (b + (c + d)) ≡ 208
    plus a b c d p q r s = omega arith

-- ---- instructions

instruction_low : (made : MadeObject) (k : ℕ) → instruction made k < 256 ^ 4
unfolding instruction
instruction_low made k = by (nat_lt k (4 * function_count made) && not (k % 4 == 3))
  where
    by : (b : Bool) → (if b then BL else RET) < 256 ^ 4
    by true = omega arith
    by false = omega arith

instruction_there : (made : MadeObject) (places : Places) (rest : List ℕ) (k : ℕ) → AreFew places → k < 4 * function_count made + length (own_weaks made) → number 4 (front_bytes places ++ (flat_map (number_bytes 4) (instructions made) ++ rest)) (208 + 4 * k) ≡ instruction made k
instruction_there made places rest k few low =
    let here = chunk (number_bytes 4) (instruction made) 4 0 (4 * function_count made + length (own_weaks made)) k k (omega arith) (λ j. length-number_bytes 4 (instruction made j)) low in
    let split = split_behind (front_bytes places) (flat_map (number_bytes 4) (instructions made)) here.front (number_bytes 4 (instruction made k)) here.rest rest here.split in
    let long : length (front_bytes places ++ here.front) + 0 ≡ 208 + 4 * k = ap (λ (n : ℕ). n + 0) (length-append (front_bytes places) here.front) ∙ plus (length (front_bytes places)) (length here.front) k (length_front places few) here.place in
    let read = all_read (Number 4 (instruction made k) ∷ []) 0 (front_bytes places ++ here.front) [] (here.rest ++ rest) (instruction_low made k, tt) refl in
    subst (λ (l : List ℕ). number 4 l (208 + 4 * k) ≡ instruction made k) (sym (split.is ∙ spread (front_bytes places ++ here.front) (number_bytes 4 (instruction made k)) (here.rest ++ rest)))
    (subst (λ (n : ℕ). number 4 ((front_bytes places ++ here.front) ++ ((number_bytes 4 (instruction made k) ++ []) ++ (here.rest ++ rest))) n ≡ instruction made k) long read.0)
  where
    plus : (a b k : ℕ) → a ≡ 208 → b ≡ 4 * k → a + b + 0 ≡ 208 + 4 * k
    plus a b k p q = omega arith

    spread : (a b c : List ℕ) → (a ++ b) ++ c ≡ a ++ ((b ++ []) ++ c)
    spread a b c = simp (append_assoc)

-- ---- relocations

relocation_fits : (made : MadeObject) (r : ℕ) → length (symbols_of made) ≤ 201 → r < 3 * function_count made → IsPackable (relocation made r)
unfolding relocation
relocation_fits made r few low =
    let within = number_within (symbols_of made) (called made.count (first_function made + r / 3) (r % 3)) in
    record {
      address = omega arith;
      number = omega arith;
      length = omega arith;
      kind = omega arith;
    }

two_numbers : (a b : ℕ) → length (number_bytes 4 a ++ (number_bytes 4 b ++ [])) ≡ 8
two_numbers a b =
    let one = length-append (number_bytes 4 a) (number_bytes 4 b ++ []) in
    let two = length-number_bytes 4 a in
    let three = length-append (number_bytes 4 b) [] in
    let four = length-number_bytes 4 b in
    omega arith

pub same_size : (made : MadeObject) (r : ℕ) → length (relocation_info_bytes (relocation made r)) ≡ 8
same_size made r = two_numbers (relocation made r).r_address (packed (relocation made r))

pub length_padding : (places : Places) → 208 + places.text_size + length (padding places) ≡ relocation_place places
unfolding least_multiple
length_padding places =
    let long : length (padding places) ≡ relocation_place places - (208 + places.text_size) = length-replicate (relocation_place places - (208 + places.text_size)) 0 in
    omega arith

pub length_text : (made : MadeObject) → length (flat_map (number_bytes 4) (instructions made)) ≡ text_size made
length_text made =
    let long = length_chunks (number_bytes 4) (instruction made) 4 0 (4 * function_count made + length (own_weaks made)) (λ j. length-number_bytes 4 (instruction made j)) in
    omega arith

-- what stands before the relocations
unfoldable pub before : MadeObject → List ℕ
before made = front_bytes (places_of made) ++ (flat_map (number_bytes 4) (instructions made) ++ padding (places_of made))

pub length_before : (made : MadeObject) → AreFew (places_of made) → length (before made) ≡ relocation_place (places_of made)
unfolding before
length_before made few =
    let one = length-append (front_bytes (places_of made)) (flat_map (number_bytes 4) (instructions made) ++ padding (places_of made)) in
    let two = length-append (flat_map (number_bytes 4) (instructions made)) (padding (places_of made)) in
    let three = length_front (places_of made) few in
    let four = length_text made in
    let five = length_padding (places_of made) in
    omega arith

relocation_there : (made : MadeObject) (rest : List ℕ) (r : ℕ) → length (symbols_of made) ≤ 201 → AreFew (places_of made) → r < 3 * function_count made → relocation_info_at (before made ++ (flat_map relocation_info_bytes (relocations made) ++ rest)) (relocation_place (places_of made) + 8 * r) ≡ relocation made r
relocation_there made rest r names few low =
    let here = chunk relocation_info_bytes (relocation made) 8 0 (3 * function_count made) r r (omega arith) (same_size made) low in
    let split = split_behind (before made) (flat_map relocation_info_bytes (relocations made)) here.front (relocation_info_bytes (relocation made r)) here.rest rest here.split in
    let long : length (before made ++ here.front) ≡ relocation_place (places_of made) + 8 * r =
    length-append (before made) here.front ∙ ap (λ (n : ℕ). n + length here.front) (length_before made few) ∙ ap (λ (n : ℕ). relocation_place (places_of made) + n) here.place in
    let read = relocation_info_read (relocation made r) (before made ++ here.front) (here.rest ++ rest) (relocation_fits made r names low) in
    subst (λ (l : List ℕ). relocation_info_at l (relocation_place (places_of made) + 8 * r) ≡ relocation made r) (sym split.is)
    (subst (λ (n : ℕ). relocation_info_at (((before made ++ here.front) ++ relocation_info_bytes (relocation made r)) ++ (here.rest ++ rest)) n ≡ relocation made r) long read)

-- ---- all of them

regrouped : (a b c d e : List ℕ) → a ++ (b ++ (c ++ (d ++ e))) ≡ (a ++ (b ++ c)) ++ (d ++ e)
regrouped a b c d e = simp append_assoc

pub all_placed : (made : MadeObject) → length (symbols_of made) ≤ 201 → ArePlaced made (generated made)
unfolding generated before
all_placed made names =
    let few : AreFew (places_of made) = places_few_of made names in
    let text : List ℕ = flat_map (number_bytes 4) (instructions made) in
    let calls : List ℕ = flat_map relocation_info_bytes (relocations made) in
    let last : List ℕ = flat_map nlist_bytes (entries_from 1 (symbols_of made)) ++ strings_of (symbols_of made) in
    let behind : List ℕ = flat_map (number_bytes 4) (instructions made) ++ (padding (places_of made) ++ (flat_map relocation_info_bytes (relocations made) ++ (flat_map nlist_bytes (entries_from 1 (symbols_of made)) ++ strings_of (symbols_of made)))) in
    record {
      header_is = header_there (places_of made) behind;
      segment_is = segment_there (places_of made) behind few;
      section_is = section_there (places_of made) behind few;
      symtab_is = symtab_there (places_of made) behind few;
      instructions_are = λ k low. instruction_there made (places_of made) (padding (places_of made) ++ (calls ++ last)) k few low;
      relocations_are = λ r low.
          subst (λ (l : List ℕ). relocation_info_at l (relocation_place (places_of made) + 8 * r) ≡ relocation made r)
          (sym (regrouped (front_bytes (places_of made)) text (padding (places_of made)) calls last))
          (relocation_there made last r names few low);
    }

pub placed : (made : MadeObject) (tables : Tables) (bytes : List ℕ) → AreTables made tables → bytes ≡ generated made → ArePlaced made bytes
placed made tables bytes are is = subst (λ (l : List ℕ). ArePlaced made l) (sym is) (all_placed made are.few_symbols)
