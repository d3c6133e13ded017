-- What is read of the bytes of an object that was made.
use Rattle.std.proofs.Common.{◌≡◌, ℕ, zero, suc, ◌+◌, ◌*◌, ◌<◌, ◌≤◌, List, [], ◌∷◌, ◌++◌, length, map, filter, take, replicate, slice_get, Option, Some, None, Bool, true, false, refl, ap, ◌∙◌, arith}
use Rattle.std.specs.Prelude.{◌==◌, codes, min, unwrap_or, if◌then◌else◌}
use Rattle.std.specs.List.{range_with_len}
use Rattle.std.specs.Option.{option_map_or}
use Rattle.std.proofs.lemmas.Bool.{le-leb}
use Rattle.mo_bytes.specs.Number.{number}
use Rattle.mo_format.specs.Segment.{segment_command_at}
use Rattle.mo_format.specs.Symbol.{symtab_command_at}
use Rattle.mo_format.specs.declared.header.MachHeader.{MachHeader}
use Rattle.mo_format.specs.declared.loader.TheConstants.{LC_SEGMENT_64, LC_SYMTAB}
use Rattle.mo_format.specs.declared.segment.SectionHeader.{SectionHeader}
use Rattle.mo_format.specs.declared.segment.SegmentCommand.{SegmentCommand}
use Rattle.mo_format.specs.declared.symbol.Nlist.{Nlist}
use Rattle.mo_format.specs.declared.symbol.SymtabCommand.{SymtabCommand}
use Rattle.mo_strings.specs.Strings.{string_at}
use Rattle.mo_types.specs.Whole.{is_dropped}
use Rattle.mo_types.specs.declared.object.Object.{Object}
use Rattle.mo_types.specs.declared.object.Section.{Section}
use Rattle.mo_obj.specs.Commands.{commands_of_kind, frame_with, is_command, size_at}
use Rattle.mo_obj.specs.Names.{name_text}
use Rattle.mo_obj.specs.Object.{may_be_cut}
use Rattle.mo_obj.specs.Parts.{commands_in, frame_in, header_in, headers_in, object_in, places_from, sections_in, segments_in, symbol_named, symbols_in, symtab_in, symtabs_in}
use Rattle.mo_obj.specs.Sections.{aligned, header_at, headers_of, raw_of, reloc_at, relocs_of, section_of, sections_of}
use Rattle.mo_obj.specs.Symbols.{entry_at, no_symtab, symbol_with}
use Rattle.mo_obj.specs.Symbols.{kind_of as kind_in, strings_of as strings_in}
use Rattle.mo_obj.specs.declared.commands.Frame.{Frame}
use Rattle.link_gen.specs.Calls.{function_count}
use Rattle.link_gen.specs.Generated.{header, places_of, relocation_place, section, symtab}
use Rattle.link_gen.specs.Names.{name_of}
use Rattle.link_gen.specs.Parts.{relocation, text_size}
use Rattle.link_gen.specs.Symbols.{entry_of, entry_with, symbols_of}
use Rattle.link_gen.specs.declared.calls.MadeObject.{MadeObject}
use Rattle.link_gen.specs.declared.names.SymbolName.{SymbolName}
use Rattle.link_gen.specs.declared.names.SymbolName.TheVariants.{Function, Main, Weak}
use Rattle.link_gen.specs.declared.symbols.MadeSymbol.{MadeSymbol}
use Rattle.link_gen.proofs.PlacedLemmas.{length_padding}
use Rattle.gen_laws.specs.Object.{call_at, made_object, symbol_of, text_section}
use Rattle.gen_laws.proofs.Spelled.{HasNoNul, Stands, name_place, nul_behind}

-- ---- lists

map_alike : {X : Type 0} (f g : ℕ → X) (a n : ℕ) → ((k : ℕ) → a ≤ k → k < a + n → f k ≡ g k) → map f (range_with_len a n) ≡ map g (range_with_len a n)
map_alike f g a zero alike = refl
map_alike {X = X} f g a (suc n) alike =
    let rest : map f (range_with_len (a + 1) n) ≡ map g (range_with_len (a + 1) n) = map_alike f g (a + 1) n (λ k low high. alike k (omega arith) (omega arith)) in
    let here : f a ≡ g a = alike a (omega arith) (omega arith) in
    ap (λ (x : X). x ∷ map f (range_with_len (a + 1) n)) here ∙ ap (λ (xs : List X). g a ∷ xs) rest

map_numbered : {X Y : Type 0} (f : ℕ → Y) (g : X → Y) (xs : List X) (a : ℕ) → ((i : ℕ) (x : X) → slice_get xs i ≡ Some x → f (a + i) ≡ g x) → map f (range_with_len a (length xs)) ≡ map g xs
map_numbered f g [] a alike = refl
map_numbered {X = X} {Y = Y} f g (x ∷ xs) a alike =
    let here : f a ≡ g x = ap f (let e : a ≡ a + 0 = omega arith in e) ∙ alike 0 x refl in
    let rest : map f (range_with_len (a + 1) (length xs)) ≡ map g xs =
    map_numbered f g xs (a + 1) (λ i y is. ap f (let e : a + 1 + i ≡ a + suc i = omega arith in e) ∙ alike (suc i) y is) in
    ap (λ (y : Y). y ∷ map f (range_with_len (a + 1) (length xs))) here ∙ ap (λ (ys : List Y). g x ∷ ys) rest

first_passes : (p : ℕ → Bool) (a b : ℕ) → p a ≡ true → p b ≡ false → filter p (a ∷ b ∷ []) ≡ a ∷ []
first_passes p a b passes fails = rw (passes, fails) refl

last_passes : (p : ℕ → Bool) (a b : ℕ) → p a ≡ false → p b ≡ true → filter p (a ∷ b ∷ []) ≡ b ∷ []
last_passes p a b fails passes = rw (fails, passes) refl

-- ---- the header and the commands

module _ (made : MadeObject) (bytes : List ℕ) (stands : Stands made bytes) where
  pub long : 208 + text_size made ≤ length bytes
  long =
      let size = stands.size in
      let padded = length_padding (places_of made) in
      omega arith

  pub header_is : header_in bytes ≡ header
  unfolding header_in
  header_is = stands.placed.header_is

  pub first_size : size_at bytes 32 ≡ 152
  unfolding size_at
  first_size = ap (λ (s : SegmentCommand). s.cmdsize) stands.placed.segment_is

  pub last_size : size_at bytes 184 ≡ 24
  unfolding size_at
  last_size = ap (λ (s : SymtabCommand). s.cmdsize) stands.placed.symtab_is

  pub commands_are : commands_in bytes ≡ 32 ∷ 184 ∷ []
  unfolding commands_in
  commands_are =
      ap (λ (h : MachHeader). places_from bytes h.ncmds 32) header_is
      ∙ ap (λ (n : ℕ). 32 ∷ (32 + n) ∷ []) first_size

  command_at : (at kind cmd : ℕ) → at + 4 ≤ length bytes → number 4 bytes at ≡ cmd → is_command bytes kind at ≡ (cmd == kind)
  command_at at kind cmd within is =
      ap (λ (b : Bool). option_map_or (λ c. c == kind) (if b then Some (number 4 bytes at) else None) false) (le-leb (at + 4) (length bytes) within)
      ∙ ap (λ (c : ℕ). c == kind) is

  first_kind : number 4 bytes 32 ≡ LC_SEGMENT_64
  first_kind = ap (λ (s : SegmentCommand). s.cmd) stands.placed.segment_is

  last_kind : number 4 bytes 184 ≡ LC_SYMTAB
  last_kind = ap (λ (s : SymtabCommand). s.cmd) stands.placed.symtab_is

  pub segments_are : segments_in bytes ≡ 32 ∷ []
  unfolding commands_of_kind
  segments_are =
      let enough = long in
      ap (filter (is_command bytes LC_SEGMENT_64)) commands_are
      ∙ first_passes (is_command bytes LC_SEGMENT_64) 32 184
      (command_at 32 LC_SEGMENT_64 LC_SEGMENT_64 (omega arith) first_kind)
      (command_at 184 LC_SEGMENT_64 LC_SYMTAB (omega arith) last_kind)

  pub symtabs_are : symtabs_in bytes ≡ 184 ∷ []
  unfolding commands_of_kind
  symtabs_are =
      let enough = long in
      ap (filter (is_command bytes LC_SYMTAB)) commands_are
      ∙ last_passes (is_command bytes LC_SYMTAB) 32 184
      (command_at 32 LC_SYMTAB LC_SEGMENT_64 (omega arith) first_kind)
      (command_at 184 LC_SYMTAB LC_SYMTAB (omega arith) last_kind)

  pub frame_is : frame_in bytes ≡ record { headers = 104; count = 1; symtab = Some 184 }
  unfolding frame_in
  frame_is =
      let sections : (segment_command_at bytes 32).nsects ≡ 1 = ap (λ (s : SegmentCommand). s.nsects) stands.placed.segment_is in
      ap (λ (l : List ℕ). frame_with bytes l (slice_get (symtabs_in bytes) 0)) segments_are
      ∙ ap (λ (l : List ℕ). frame_with bytes (32 ∷ []) (slice_get l 0)) symtabs_are
      ∙ ap (λ (n : ℕ). let frame : Frame = record { headers = 104; count = n; symtab = Some 184 } in frame) sections

  -- ---- the section

  pub headers_are : headers_in bytes ≡ section (places_of made) ∷ []
  unfolding headers_in headers_of header_at
  headers_are =
      ap (headers_of bytes) frame_is
      ∙ ap (λ (h : SectionHeader). h ∷ []) stands.placed.section_is

segment_text : name_text (codes "__TEXT" ++ replicate 10 0) ≡ codes "__TEXT"
unfolding name_text
segment_text =
    let none : HasNoNul (codes "__TEXT") = (refl, (refl, (refl, (refl, (refl, (refl, tt)))))) in
    ap (λ (o : Option ℕ). option_map_or (λ end. take end (codes "__TEXT" ++ replicate 10 0)) o (codes "__TEXT" ++ replicate 10 0)) (nul_behind (codes "__TEXT") (replicate 9 0) none)

section_text : name_text (codes "__text" ++ replicate 10 0) ≡ codes "__text"
unfolding name_text
section_text =
    let none : HasNoNul (codes "__text") = (refl, (refl, (refl, (refl, (refl, (refl, tt)))))) in
    ap (λ (o : Option ℕ). option_map_or (λ end. take end (codes "__text" ++ replicate 10 0)) o (codes "__text" ++ replicate 10 0)) (nul_behind (codes "__text") (replicate 9 0) none)

call_is : (made : MadeObject) (r : ℕ) → raw_of (relocation made r) ≡ call_at made r
unfolding relocation call_at
call_is made r = refl

module _ (made : MadeObject) (bytes : List ℕ) (stands : Stands made bytes) where
  relocs_are : relocs_of bytes (section (places_of made)) ≡ map (call_at made) (range_with_len 0 (3 * function_count made))
  unfolding relocs_of reloc_at
  relocs_are =
      map_alike (reloc_at bytes (section (places_of made))) (call_at made) 0 (3 * function_count made)
      (λ r low high. ap raw_of (stands.placed.relocations_are r (omega arith)) ∙ call_is made r)

  aligned_is : (align : ℕ) → aligned bytes (section (places_of made)) align ≡ record (text_section made) { align = align }
  unfolding text_section
  aligned_is align =
      let segment = segment_text in
      let name = section_text in
      let contents = stands.text in
      let relocs = relocs_are in
      λ i. record {
        segment = segment i;
        name = name i;
        address = 0;
        size = text_size made;
        align = align;
        kind = 0;
        attributes = 0x80000400;
        file_offset = 208;
        reloc_offset = relocation_place (places_of made);
        bytes = contents i;
        relocs = relocs i;
      }

  pub section_is : section_of bytes (section (places_of made)) ≡ text_section made
  unfolding section_of is_dropped text_section
  section_is =
      ap (λ (s : Section). aligned bytes (section (places_of made)) (if is_dropped s then 0 else min 255 2)) (aligned_is 0)
      ∙ aligned_is 2

  pub sections_are : sections_in bytes ≡ text_section made ∷ []
  unfolding sections_in sections_of
  sections_are =
      ap (λ (hs : List SectionHeader). map (section_of bytes) hs) (headers_are made bytes stands)
      ∙ ap (λ (s : Section). s ∷ []) section_is

  -- ---- the symbols

  pub symtab_is : symtab_in bytes ≡ symtab (places_of made)
  unfolding symtab_in
  symtab_is =
      ap (λ (f : Frame). option_map_or (symtab_command_at bytes) f.symtab no_symtab) (frame_is made bytes stands)
      ∙ stands.placed.symtab_is

  pub entry_is : (i : ℕ) (symbol : MadeSymbol) → slice_get (symbols_of made) i ≡ Some symbol → entry_at bytes (symtab (places_of made)) i ≡ entry_of (name_place 1 (symbols_of made) i) symbol
  unfolding entry_at
  entry_is i symbol is = stands.entries i symbol is

pub place_of_name : (at : ℕ) (symbol : MadeSymbol) → (entry_of at symbol).n_strx ≡ at
unfolding entry_of
place_of_name at symbol = by symbol.place
  where
    by : (place : Option ℕ) → (entry_with at symbol.name place).n_strx ≡ at
    by None = refl
    by (Some p) = refl

symbol_alike : (at : ℕ) (name : SymbolName) (place : Option ℕ) → symbol_with (entry_with at name place) (name_of name) ≡ symbol_of (record { name = name; place = place })
unfolding kind_in symbol_of
symbol_alike at (Function i) None = refl
symbol_alike at (Function i) (Some p) = refl
symbol_alike at Main None = refl
symbol_alike at Main (Some p) = refl
symbol_alike at (Weak k) None = refl
symbol_alike at (Weak k) (Some p) = refl

symbol_is : (at : ℕ) (symbol : MadeSymbol) → symbol_with (entry_of at symbol) (name_of symbol.name) ≡ symbol_of symbol
unfolding entry_of
symbol_is at symbol = symbol_alike at symbol.name symbol.place

module _ (made : MadeObject) (bytes : List ℕ) (stands : Stands made bytes) where
  pub name_is : (i : ℕ) (symbol : MadeSymbol) → slice_get (symbols_of made) i ≡ Some symbol → string_at (strings_in bytes (symtab (places_of made))) (entry_at bytes (symtab (places_of made)) i).n_strx ≡ Some (name_of symbol.name)
  name_is i symbol is =
      ap (λ (e : Nlist). string_at (strings_in bytes (symtab (places_of made))) e.n_strx) (entry_is made bytes stands i symbol is)
      ∙ ap (string_at (strings_in bytes (symtab (places_of made)))) (place_of_name (name_place 1 (symbols_of made) i) symbol)
      ∙ stands.names i symbol is

  named_is : (i : ℕ) (symbol : MadeSymbol) → slice_get (symbols_of made) i ≡ Some symbol → symbol_named bytes (symtab (places_of made)) i ≡ symbol_of symbol
  unfolding symbol_named
  named_is i symbol is =
      ap (λ (o : Option (List ℕ)). symbol_with (entry_at bytes (symtab (places_of made)) i) (unwrap_or o [])) (name_is i symbol is)
      ∙ ap (λ (e : Nlist). symbol_with e (name_of symbol.name)) (entry_is made bytes stands i symbol is)
      ∙ symbol_is (name_place 1 (symbols_of made) i) symbol

  pub symbols_are : symbols_in bytes ≡ map symbol_of (symbols_of made)
  unfolding symbols_in
  symbols_are =
      ap (λ (t : SymtabCommand). map (symbol_named bytes t) (range_with_len 0 t.nsyms)) (symtab_is made bytes stands)
      ∙ map_numbered (symbol_named bytes (symtab (places_of made))) symbol_of (symbols_of made) 0
      (λ i symbol is. ap (symbol_named bytes (symtab (places_of made))) (let e : 0 + i ≡ i = omega arith in e) ∙ named_is i symbol is)

  pub object_is : object_in bytes ≡ made_object made
  unfolding object_in made_object
  object_is =
      let header = header_is made bytes stands in
      let sections = sections_are made bytes stands in
      let symbols = symbols_are in
      ap (λ (h : MachHeader). let object : Object = record { subsections = may_be_cut h; sections = sections_in bytes; symbols = symbols_in bytes } in object) header
      ∙ (λ i. record { subsections = true; sections = sections i; symbols = symbols i })
