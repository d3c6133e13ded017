-- What stands where in the bytes of an object that was made.
use Rattle.std.proofs.Common.{◌≡◌, ℕ, zero, suc, ◌+◌, ◌*◌, ◌%◌, ◌<◌, ◌≤◌, ◌^◌, List, [], ◌∷◌, ◌++◌, length, take, drop, slice_get, Option, Some, None, option_map, false, refl, sym, ap, ◌∙◌, subst, append_assoc, arith}
use Rattle.std.specs.Prelude.{◌==◌}
use Rattle.std.specs.List.{flat_map}
use Rattle.std.proofs.Math.Seq.{drop-append_seam, take-append_seam}
use Rattle.std.proofs.lemmas.Bool.{ne_eqb}
use Rattle.std.proofs.lemmas.List.{length-append, take_all}
use Rattle.mo_bytes.specs.Number.{number_bytes}
use Rattle.mo_bytes.proofs.Numbers.{length-number_bytes}
use Rattle.mo_format.specs.Relocation.{relocation_info_bytes}
use Rattle.mo_format.specs.Symbol.{nlist_at, nlist_bytes, nlist_fields}
use Rattle.mo_format.specs.declared.symbol.Nlist.{Nlist}
use Rattle.mo_format.proofs.FieldLemmas.{AreFit}
use Rattle.mo_format.proofs.StructureLemmas.{nlist_read}
use Rattle.mo_strings.specs.Strings.{first_nul, string_at}
use Rattle.mo_strings.proofs.TableLemmas.{nul_first, nul_later}
use Rattle.mo_types.specs.Kind.{kind_of}
use Rattle.mo_types.specs.declared.kind.Kind.TheVariants.{MachO}
use Rattle.mo_obj.specs.Names.{part}
use Rattle.link_gen.proofs.ChunkLemmas.{IsChunk, length_chunks, split_behind}
use Rattle.link_gen.proofs.EntryLemmas.{named}
use Rattle.link_gen.proofs.PlacedLemmas.{all_placed, before, length_before, length_front, length_text, same_size}
use Rattle.link_gen.proofs.TableLemmas.{places_few_of}
use Rattle.link_gen.specs.Calls.{IsMade, function_count}
use Rattle.link_gen.specs.Generated.{AreFew, front_bytes, generated, padding, places_of, string_place, symbol_place}
use Rattle.link_gen.specs.Names.{digit, name_of, string_of}
use Rattle.link_gen.specs.Parts.{instructions, relocation, relocations, text_size}
use Rattle.link_gen.specs.Placed.{ArePlaced}
use Rattle.link_gen.specs.Symbols.{entries_from, entry_of, entry_with, strings_of, symbols_of, weak_bit}
use Rattle.link_gen.specs.declared.calls.MadeObject.{MadeObject}
use Rattle.link_gen.specs.declared.front.TheConstants.{TEXT_PLACE}
use Rattle.link_gen.specs.declared.names.SymbolName.{SymbolName}
use Rattle.link_gen.specs.declared.names.SymbolName.TheVariants.{Function, Main, Weak}
use Rattle.link_gen.specs.declared.symbols.MadeSymbol.{MadeSymbol}
use Rattle.gen_laws.proofs.Few.{symbols_few}
use Rattle.gen_laws.proofs.Symbolic.{in_from_slice_get, in_text}

-- where the name of the symbol of a number stands, if the first one stands at a place
abbrev pub name_place : ℕ → List MadeSymbol → ℕ → ℕ
name_place at [] i = at
name_place at (s ∷ ss) zero = at
name_place at (s ∷ ss) (suc i) = name_place (at + length (string_of s.name)) ss i

-- the parts of an object's bytes
pub record Stands (made : MadeObject) (bytes : List ℕ) : Type 0 where
  pub few : AreFew (places_of made)
  pub kind : kind_of bytes ≡ MachO
  pub placed : ArePlaced made bytes
  pub size : length bytes ≡ string_place (places_of made) + (places_of made).strings_size
  pub text : part bytes TEXT_PLACE (text_size made) ≡ flat_map (number_bytes 4) (instructions made)
  pub entries : (i : ℕ) (symbol : MadeSymbol) → slice_get (symbols_of made) i ≡ Some symbol → nlist_at bytes (symbol_place (places_of made) + 16 * i) ≡ entry_of (name_place 1 (symbols_of made) i) symbol
  pub names : (i : ℕ) (symbol : MadeSymbol) → slice_get (symbols_of made) i ≡ Some symbol → string_at (part bytes (string_place (places_of made)) (places_of made).strings_size) (name_place 1 (symbols_of made) i) ≡ Some (name_of symbol.name)

-- ---- names

abbrev pub HasNoNul : List ℕ → Type 0
HasNoNul [] = Unit {0}
HasNoNul (x ∷ xs) = ((x == 0) ≡ false) × HasNoNul xs

pub nul_behind : (xs rest : List ℕ) → HasNoNul xs → first_nul (xs ++ 0 ∷ rest) ≡ Some (length xs)
nul_behind [] rest none = nul_first 0 rest refl
nul_behind (x ∷ xs) rest none =
    nul_later x (xs ++ 0 ∷ rest) none.0
    ∙ ap (option_map (λ k. 1 + k)) (nul_behind xs rest none.1)
    ∙ ap Some (let e : 1 + length xs ≡ suc (length xs) = omega arith in e)

digit_is_none : (n : ℕ) → (digit n == 0) ≡ false
digit_is_none n = ne_eqb (48 + n % 10) 0 (λ e. omega arith)

name_has_none : (name : SymbolName) → HasNoNul (name_of name)
unfolding name_of
name_has_none (Function i) = (refl, (refl, (digit_is_none _, (digit_is_none _, (digit_is_none _, (digit_is_none _, (digit_is_none _, (digit_is_none i, tt))))))))
name_has_none Main = (refl, (refl, (refl, (refl, (refl, tt)))))
name_has_none (Weak k) = (refl, (refl, (digit_is_none k, tt)))

-- a name among the strings
record IsNameAt (strings here : List ℕ) (at place : ℕ) : Type 0 where
  front : List ℕ
  rest : List ℕ
  is : strings ≡ front ++ (here ++ rest)
  there : place ≡ at + length front

name_chunk : (list : List MadeSymbol) (at i : ℕ) (symbol : MadeSymbol) → slice_get list i ≡ Some symbol → IsNameAt (flat_map named list) (string_of symbol.name) at (name_place at list i)
name_chunk [] at i symbol is = cc
name_chunk (s ∷ ss) at zero symbol is =
    let same : s ≡ symbol = cc in record {
      front = [];
      rest = flat_map named ss;
      is = ap (λ (z : MadeSymbol). string_of z.name ++ flat_map named ss) same;
      there = omega arith;
    }
name_chunk (s ∷ ss) at (suc i) symbol is =
    let later = name_chunk ss (at + length (string_of s.name)) i symbol is in
    let there = later.there in
    let sum = length-append (string_of s.name) later.front in record {
      front = string_of s.name ++ later.front;
      rest = later.rest;
      is = ap (λ (l : List ℕ). string_of s.name ++ l) later.is ∙ sym (append_assoc (string_of s.name) later.front (string_of symbol.name ++ later.rest));
      there = omega arith;
    }

string_here : (name : SymbolName) (rest : List ℕ) → option_map (λ end. take end (string_of name ++ rest)) (first_nul (string_of name ++ rest)) ≡ Some (name_of name)
unfolding string_of
string_here name rest =
    let e : (name_of name ++ 0 ∷ []) ++ rest ≡ name_of name ++ 0 ∷ rest = append_assoc (name_of name) (0 ∷ []) rest in
    ap (λ (l : List ℕ). option_map (λ end. take end l) (first_nul l)) e
    ∙ ap (option_map (λ end. take end (name_of name ++ 0 ∷ rest))) (nul_behind (name_of name) rest (name_has_none name))
    ∙ ap Some (take-append_seam (name_of name) (0 ∷ rest))

pub named_at : (list : List MadeSymbol) (i : ℕ) (symbol : MadeSymbol) → slice_get list i ≡ Some symbol → string_at (strings_of list) (name_place 1 list i) ≡ Some (name_of symbol.name)
unfolding string_at strings_of
named_at list i symbol is =
    let here = name_chunk list 1 i symbol is in
    let place : name_place 1 list i ≡ length (0 ∷ here.front) = (let there = here.there in omega arith) in
    let dropped : drop (name_place 1 list i) (0 ∷ flat_map named list) ≡ string_of symbol.name ++ here.rest =
    ap (λ (n : ℕ). drop n (0 ∷ flat_map named list)) place
    ∙ ap (λ (l : List ℕ). drop (length (0 ∷ here.front)) (0 ∷ l)) here.is
    ∙ drop-append_seam (0 ∷ here.front) (string_of symbol.name ++ here.rest) in
    ap (λ (l : List ℕ). option_map (λ end. take end l) (first_nul l)) dropped ∙ string_here symbol.name here.rest

name_low : (at i : ℕ) (list : List MadeSymbol) → name_place at list i ≤ at + length (flat_map named list)
name_low at i [] = omega arith
name_low at zero (s ∷ ss) = omega arith
name_low at (suc i) (s ∷ ss) =
    let rest = name_low (at + length (string_of s.name)) i ss in
    let sum = length-append (string_of s.name) (flat_map named ss) in
    omega arith

-- ---- entries

length_entry : (e : Nlist) → length (nlist_bytes e) ≡ 16
length_entry e = simp (length-append, length-number_bytes)

pub length_entries : (at : ℕ) (list : List MadeSymbol) → length (flat_map nlist_bytes (entries_from at list)) ≡ 16 * length list
length_entries at [] = refl
length_entries at (s ∷ ss) =
    let here = length_entry (entry_of at s) in
    let rest = length_entries (at + length (string_of s.name)) ss in
    let sum = length-append (nlist_bytes (entry_of at s)) (flat_map nlist_bytes (entries_from (at + length (string_of s.name)) ss)) in
    omega arith

entry_chunk : (list : List MadeSymbol) (at i : ℕ) (symbol : MadeSymbol) → slice_get list i ≡ Some symbol → IsChunk (flat_map nlist_bytes (entries_from at list)) (nlist_bytes (entry_of (name_place at list i) symbol)) 16 i
entry_chunk [] at i symbol is = cc
entry_chunk (s ∷ ss) at zero symbol is =
    let same : s ≡ symbol = cc in record {
      front = [];
      rest = flat_map nlist_bytes (entries_from (at + length (string_of s.name)) ss);
      split = record { is = ap (λ (z : MadeSymbol). nlist_bytes (entry_of at z) ++ flat_map nlist_bytes (entries_from (at + length (string_of s.name)) ss)) same };
      place = omega arith;
    }
entry_chunk (s ∷ ss) at (suc i) symbol is =
    let later = entry_chunk ss (at + length (string_of s.name)) i symbol is in
    let long = later.place in
    let here = length_entry (entry_of at s) in
    let sum = length-append (nlist_bytes (entry_of at s)) later.front in
    let last : List ℕ = nlist_bytes (entry_of (name_place (at + length (string_of s.name)) ss i) symbol) in record {
      front = nlist_bytes (entry_of at s) ++ later.front;
      rest = later.rest;
      split = record {
        is =
            ap (λ (l : List ℕ). nlist_bytes (entry_of at s) ++ l) later.split.is
            ∙ sym (append_assoc (nlist_bytes (entry_of at s)) (later.front ++ last) later.rest)
            ∙ ap (λ (l : List ℕ). l ++ later.rest) (sym (append_assoc (nlist_bytes (entry_of at s)) later.front last));
      };
      place = omega arith;
    }

weak_bit_low : (name : SymbolName) → weak_bit name < 256 ^ 2
weak_bit_low (Function i) = omega arith
weak_bit_low Main = omega arith
weak_bit_low (Weak k) = omega arith

entry_fits : (at : ℕ) (name : SymbolName) (place : Option ℕ) → at < 256 ^ 4 → ((p : ℕ) → place ≡ Some p → p < 256 ^ 8) → AreFit (nlist_fields (entry_with at name place))
entry_fits at name None low within = (low, (omega arith, (omega arith, (omega arith, (omega arith, tt)))))
entry_fits at name (Some p) low within = (low, (omega arith, (omega arith, (weak_bit_low name, (within p refl, tt)))))

-- ---- the whole

-- what stands before the symbols
before_entries : MadeObject → List ℕ
before_entries made = before made ++ flat_map relocation_info_bytes (relocations made)

abbrev entries_of : MadeObject → List ℕ
entries_of made = flat_map nlist_bytes (entries_from 1 (symbols_of made))

whole : (made : MadeObject) → generated made ≡ before_entries made ++ (entries_of made ++ strings_of (symbols_of made))
unfolding generated before before_entries
whole made = simp append_assoc

length_calls : (made : MadeObject) → length (flat_map relocation_info_bytes (relocations made)) ≡ 8 * (3 * function_count made)
length_calls made = length_chunks relocation_info_bytes (relocation made) 8 0 (3 * function_count made) (same_size made)

length_before_entries : (made : MadeObject) → AreFew (places_of made) → length (before_entries made) ≡ symbol_place (places_of made)
unfolding before_entries
length_before_entries made are_few =
    let one = length_before made are_few in
    let two = length_calls made in
    let sum = length-append (before made) (flat_map relocation_info_bytes (relocations made)) in
    omega arith

size_is : (made : MadeObject) → AreFew (places_of made) → length (generated made) ≡ string_place (places_of made) + (places_of made).strings_size
size_is made are_few =
    let one = length_before_entries made are_few in
    let two = length_entries 1 (symbols_of made) in
    let sum = length-append (before_entries made) (entries_of made ++ strings_of (symbols_of made)) in
    let others = length-append (entries_of made) (strings_of (symbols_of made)) in
    ap length (whole made) ∙ (omega arith)

kind_is : (made : MadeObject) → kind_of (generated made) ≡ MachO
unfolding kind_of generated front_bytes number_bytes
kind_is made = refl

text_there : (made : MadeObject) → AreFew (places_of made) → part (generated made) TEXT_PLACE (text_size made) ≡ flat_map (number_bytes 4) (instructions made)
unfolding generated
text_there made are_few =
    let text : List ℕ = flat_map (number_bytes 4) (instructions made) in
    let rest : List ℕ = padding (places_of made) ++ (flat_map relocation_info_bytes (relocations made) ++ (entries_of made ++ strings_of (symbols_of made))) in
    let dropped : drop 208 (front_bytes (places_of made) ++ (text ++ rest)) ≡ text ++ rest =
    ap (λ (n : ℕ). drop n (front_bytes (places_of made) ++ (text ++ rest))) (sym (length_front (places_of made) are_few))
    ∙ drop-append_seam (front_bytes (places_of made)) (text ++ rest) in
    ap (take (text_size made)) dropped
    ∙ ap (λ (n : ℕ). take n (text ++ rest)) (sym (length_text made))
    ∙ take-append_seam text rest

strings_there : (made : MadeObject) → AreFew (places_of made) → part (generated made) (string_place (places_of made)) (places_of made).strings_size ≡ strings_of (symbols_of made)
strings_there made are_few =
    let one = length_before_entries made are_few in
    let two = length_entries 1 (symbols_of made) in
    let sum = length-append (before_entries made) (entries_of made) in
    let long : string_place (places_of made) ≡ length (before_entries made ++ entries_of made) = omega arith in
    let split : generated made ≡ (before_entries made ++ entries_of made) ++ strings_of (symbols_of made) = whole made ∙ sym (append_assoc (before_entries made) (entries_of made) (strings_of (symbols_of made))) in
    let dropped : drop (string_place (places_of made)) (generated made) ≡ strings_of (symbols_of made) =
    ap (λ (n : ℕ). drop n (generated made)) long
    ∙ ap (drop (length (before_entries made ++ entries_of made))) split
    ∙ drop-append_seam (before_entries made ++ entries_of made) (strings_of (symbols_of made)) in
    ap (take (length (strings_of (symbols_of made)))) dropped ∙ take_all (length (strings_of (symbols_of made))) (strings_of (symbols_of made)) (omega arith)

strings_long : (list : List MadeSymbol) → length (strings_of list) ≡ suc (length (flat_map named list))
unfolding strings_of
strings_long list = refl

entry_there : (made : MadeObject) (i : ℕ) (symbol : MadeSymbol) → IsMade made → AreFew (places_of made) → slice_get (symbols_of made) i ≡ Some symbol → nlist_at (generated made) (symbol_place (places_of made) + 16 * i) ≡ entry_of (name_place 1 (symbols_of made) i) symbol
unfolding entry_of
entry_there made i symbol is_made are_few is =
    let entry : Nlist = entry_of (name_place 1 (symbols_of made) i) symbol in
    let here = entry_chunk (symbols_of made) 1 i symbol is in
    let split = split_behind (before_entries made) (entries_of made) here.front (nlist_bytes (entry_of (name_place 1 (symbols_of made) i) symbol)) here.rest (strings_of (symbols_of made)) here.split in
    let place = here.place in
    let one = length_before_entries made are_few in
    let sum = length-append (before_entries made) here.front in
    let long : length (before_entries made ++ here.front) ≡ symbol_place (places_of made) + 16 * i = omega arith in
    let below = name_low 1 i (symbols_of made) in
    let strings = strings_long (symbols_of made) in
    let small = are_few.strings in
    let texts = are_few.text in
    let inside = (in_text made symbol is_made (in_from_slice_get (symbols_of made) i symbol is)).inside in
    let fits : AreFit (nlist_fields (entry_with (name_place 1 (symbols_of made) i) symbol.name symbol.place)) =
    entry_fits (name_place 1 (symbols_of made) i) symbol.name symbol.place (omega arith) (λ p e. (let low = inside p e in omega arith)) in
    let read = nlist_read entry (before_entries made ++ here.front) (here.rest ++ strings_of (symbols_of made)) fits in
    subst (λ (l : List ℕ). nlist_at l (symbol_place (places_of made) + 16 * i) ≡ entry) (sym (whole made ∙ split.is))
    (subst (λ (n : ℕ). nlist_at (((before_entries made ++ here.front) ++ nlist_bytes entry) ++ (here.rest ++ strings_of (symbols_of made))) n ≡ entry) long read)

pub stands : (made : MadeObject) → IsMade made → Stands made (generated made)
stands made is_made =
    let names : length (symbols_of made) ≤ 201 = symbols_few made in
    let are_few : AreFew (places_of made) = places_few_of made names in
    record {
      few = are_few;
      kind = kind_is made;
      placed = all_placed made names;
      size = size_is made are_few;
      text = text_there made are_few;
      entries = λ i symbol is. entry_there made i symbol is_made are_few is;
      names = λ i symbol is.
          subst (λ (l : List ℕ). string_at l (name_place 1 (symbols_of made) i) ≡ Some (name_of symbol.name)) (sym (strings_there made are_few)) (named_at (symbols_of made) i symbol is);
    }
