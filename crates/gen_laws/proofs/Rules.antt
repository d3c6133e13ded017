-- No rule of the header, the commands, the section and the symbols fails.
use Rattle.std.proofs.Common.{◌≡◌, ℕ, zero, suc, ◌+◌, ◌*◌, ◌%◌, ◌<◌, ◌^◌, List, [], ◌∷◌, length, slice_get, get_or, Option, Some, None, Bool, true, false, ◌⊎◌, inl, inr, refl, sym, ap, ◌∙◌, subst, arith}
use Rattle.std.specs.Prelude.{◌==◌, ◌||◌, min, nat_le, nat_lt, not, if◌then◌else◌}
use Rattle.std.specs.Option.{option_map_or}
use Rattle.std.proofs.lemmas.Bool.{and_from, both_ways, le-leb, le-ltb, lt-leb}
use Rattle.std.proofs.lemmas.Option.{slice_get-get_or}
use Rattle.mo_format.specs.Segment.{segment_command_at}
use Rattle.mo_format.specs.Symbol.{symtab_command_at}
use Rattle.mo_format.specs.declared.header.MachHeader.{MachHeader}
use Rattle.mo_format.specs.declared.symbol.SymtabCommand.{SymtabCommand}
use Rattle.mo_strings.specs.Strings.{string_at}
use Rattle.mo_types.specs.declared.object.Section.{Section}
use Rattle.mo_obj.specs.Commands.{commands_end, is_broken, is_fit, is_whole_segment}
use Rattle.mo_obj.specs.Facts.{IsForArm64}
use Rattle.mo_obj.specs.Header.{is_arm64, is_relocatable}
use Rattle.mo_obj.specs.Parts.{frame_in, header_in, headers_in, sections_in}
use Rattle.mo_obj.specs.Rules.{IsBadSegment, IsBadSymbol, IsBrokenCommand, IsBrokenSymtab, IsCutShort, IsHeaderOf, IsIn, IsLaterIn}
use Rattle.mo_obj.specs.Sections.{has_broken_literals, has_relocs_outside, is_outside}
use Rattle.mo_obj.specs.Symbols.{entry_at, is_placed, is_symtab, is_within_file}
use Rattle.mo_obj.specs.Symbols.{strings_of as strings_in}
use Rattle.mo_obj.specs.declared.commands.Frame.{Frame}
use Rattle.link_gen.specs.Calls.{IsMade}
use Rattle.link_gen.specs.Generated.{places_of, relocation_place, section, string_place, symbol_place, symtab}
use Rattle.link_gen.specs.Parts.{text_size}
use Rattle.link_gen.specs.Symbols.{entry_of, entry_with, symbols_of}
use Rattle.link_gen.specs.declared.calls.MadeObject.{MadeObject}
use Rattle.link_gen.specs.declared.names.SymbolName.{SymbolName}
use Rattle.link_gen.specs.declared.names.SymbolName.TheVariants.{Main}
use Rattle.link_gen.specs.declared.symbols.MadeSymbol.{MadeSymbol}
use Rattle.gen_laws.specs.Object.{text_section}
use Rattle.gen_laws.proofs.Reading.{commands_are, entry_is, first_size, frame_is, header_is, headers_are, last_size, long, name_is, sections_are, segments_are, symtab_is, symtabs_are}
use Rattle.gen_laws.proofs.Spelled.{Stands, name_place}
use Rattle.gen_laws.proofs.Symbolic.{in_from_slice_get, in_text}

-- ---- short lists

one_of_two : (a b place : ℕ) → IsIn (a ∷ b ∷ []) place → (a ≡ place) ⊎ (b ≡ place)
one_of_two a b place (zero, is) = inl (cc)
one_of_two a b place (suc zero, is) = inr (cc)
one_of_two a b place (suc (suc i), is) = cc

the_one : {X : Type 0} (a x : X) (i : ℕ) → slice_get (a ∷ []) i ≡ Some x → a ≡ x
the_one a x zero is = cc
the_one a x (suc i) is = cc

none_later : (a place : ℕ) → IsLaterIn (a ∷ []) place → ⊥
none_later a place (i, is) = cc

both_false : (a b : Bool) → a ≡ false → b ≡ false → (a || b) ≡ false
both_false a b p q = rw (p, q) refl

-- the one header whose section isn't at fault
pub not_its_header : {A : Type 0} (frame : Frame) (xs : List A) (x : A) (test : A → Bool) (place : ℕ) → xs ≡ x ∷ [] → test x ≡ false → IsHeaderOf frame xs test place → ⊥
not_its_header {A = A} frame xs x test place are passes has =
    let is : slice_get (x ∷ []) has.number ≡ Some has.section = ap (λ (l : List A). slice_get l has.number) (sym are) ∙ has.is in
    both_ways (test has.section) (ap test (sym (the_one x has.section has.number is)) ∙ passes) has.at_fault

-- ---- a symbol's definition

within_text : (made : MadeObject) (at : ℕ) (name : SymbolName) (place : Option ℕ) → ((p : ℕ) → place ≡ Some p → p < text_size made) → is_placed (text_section made ∷ []) (entry_with at name place) ≡ true
unfolding text_section
within_text made at name None inside = refl
within_text made at name (Some p) inside =
    let low = inside p refl in
    and_from (nat_le 0 p) (nat_le p (0 + text_size made)) (le-leb 0 p (omega arith)) (le-leb p (0 + text_size made) (omega arith))

module _ (made : MadeObject) (bytes : List ℕ) (stands : Stands made bytes) where
  pub for_arm64 : IsForArm64 bytes
  for_arm64 = record {
    machine = ap is_arm64 (header_is made bytes stands);
    filetype = ap is_relocatable (header_is made bytes stands);
  }

  pub header_whole : (place : ℕ) → IsCutShort bytes place → ⊥
  header_whole place is =
      let enough = long made bytes stands in
      let short = is.short in
      absurd (omega arith)

  end_is : commands_end bytes (header_in bytes) ≡ 208
  end_is =
      let enough = long made bytes stands in
      ap (λ (h : MachHeader). commands_end bytes h) (header_is made bytes stands) ∙ (let e : min 208 (length bytes) ≡ 208 = omega arith in e)

  first_command : is_broken bytes (commands_end bytes (header_in bytes)) 32 ≡ false
  first_command =
      ap (λ (e : ℕ). is_broken bytes e 32) end_is
      ∙ ap (λ (n : ℕ). nat_lt 208 40 || nat_lt n 8 || not (n % 8 == 0) || nat_lt 208 (32 + n)) (first_size made bytes stands)

  last_command : is_broken bytes (commands_end bytes (header_in bytes)) 184 ≡ false
  last_command =
      ap (λ (e : ℕ). is_broken bytes e 184) end_is
      ∙ ap (λ (n : ℕ). nat_lt 208 192 || nat_lt n 8 || not (n % 8 == 0) || nat_lt 208 (184 + n)) (last_size made bytes stands)

  pub commands_whole : (place : ℕ) → IsBrokenCommand bytes place → ⊥
  commands_whole place is =
      elim (one_of_two 32 184 place (subst (λ (l : List ℕ). IsIn l place) (commands_are made bytes stands) is.command)) [
        | inl e ↦ both_ways (is_broken bytes (commands_end bytes (header_in bytes)) place) (ap (is_broken bytes (commands_end bytes (header_in bytes))) (sym e) ∙ first_command) is.broken
        | inr e ↦ both_ways (is_broken bytes (commands_end bytes (header_in bytes)) place) (ap (is_broken bytes (commands_end bytes (header_in bytes))) (sym e) ∙ last_command) is.broken
      ]

  segment_whole : is_whole_segment bytes 32 ≡ true
  segment_whole =
      let enough = long made bytes stands in
      ap (λ (b : Bool). option_map_or (is_fit bytes 32) (if b then Some (segment_command_at bytes 32) else None) false) (le-leb 104 (length bytes) (omega arith))
      ∙ ap (is_fit bytes 32) stands.placed.segment_is
      ∙ le-leb 184 (length bytes) (omega arith)

  pub segment_fit : (place : ℕ) → IsBadSegment bytes place → ⊥
  segment_fit place (inl (inl broken)) =
      let has : IsIn (32 ∷ []) place = subst (λ (l : List ℕ). IsIn l place) (segments_are made bytes stands) broken.segment in
      both_ways (is_whole_segment bytes place) broken.broken (ap (is_whole_segment bytes) (sym (the_one 32 place has.0 has.1)) ∙ segment_whole)
  segment_fit place (inl (inr later)) = none_later 32 place (subst (λ (l : List ℕ). IsLaterIn l place) (segments_are made bytes stands) later)
  segment_fit place (inr later) = none_later 184 place (subst (λ (l : List ℕ). IsLaterIn l place) (symtabs_are made bytes stands) later)

  pub contents_within : (place : ℕ) → IsHeaderOf (frame_in bytes) (headers_in bytes) (is_outside (length bytes)) place → ⊥
  contents_within place has =
      let enough = long made bytes stands in
      let few = stands.few.text in
      let within : is_outside (length bytes) (section (places_of made)) ≡ false =
      both_false (nat_lt (length bytes) (208 + text_size made)) (nat_le (2 ^ 63) (0 + text_size made)) (le-ltb (length bytes) (208 + text_size made) (omega arith)) (lt-leb (2 ^ 63) (0 + text_size made) (omega arith)) in
      not_its_header (frame_in bytes) (headers_in bytes) (section (places_of made)) (is_outside (length bytes)) place (headers_are made bytes stands) within has

  pub relocations_within : (place : ℕ) → IsHeaderOf (frame_in bytes) (headers_in bytes) (has_relocs_outside (length bytes)) place → ⊥
  relocations_within place has =
      let size = stands.size in
      let within : has_relocs_outside (length bytes) (section (places_of made)) ≡ false =
      le-ltb (length bytes) (relocation_place (places_of made) + 8 * (places_of made).relocations) (omega arith) in
      not_its_header (frame_in bytes) (headers_in bytes) (section (places_of made)) (has_relocs_outside (length bytes)) place (headers_are made bytes stands) within has

  table_whole : is_symtab bytes 184 ≡ true
  table_whole =
      let enough = long made bytes stands in
      let size = stands.size in
      and_from (nat_le 208 (length bytes)) (is_within_file (length bytes) (symtab_command_at bytes 184)) (le-leb 208 (length bytes) (omega arith))
      (ap (is_within_file (length bytes)) stands.placed.symtab_is
      ∙ and_from (nat_le (symbol_place (places_of made) + 16 * (places_of made).symbols) (length bytes)) (nat_le (string_place (places_of made) + (places_of made).strings_size) (length bytes))
      (le-leb (symbol_place (places_of made) + 16 * (places_of made).symbols) (length bytes) (omega arith))
      (le-leb (string_place (places_of made) + (places_of made).strings_size) (length bytes) (omega arith)))

  pub table_within : (place : ℕ) → IsBrokenSymtab bytes place → ⊥
  table_within place is =
      let there : Some 184 ≡ Some place = ap (λ (f : Frame). f.symtab) (sym (frame_is made bytes stands)) ∙ is.command in
      let same : 184 ≡ place = cc in
      both_ways (is_symtab bytes place) is.broken (ap (is_symtab bytes) (sym same) ∙ table_whole)

  pub placed : (i : ℕ) (symbol : MadeSymbol) → IsMade made → slice_get (symbols_of made) i ≡ Some symbol → is_placed (text_section made ∷ []) (entry_at bytes (symtab (places_of made)) i) ≡ true
  unfolding entry_of
  placed i symbol is_made is =
      ap (is_placed (text_section made ∷ [])) (entry_is made bytes stands i symbol is)
      ∙ within_text made (name_place 1 (symbols_of made) i) symbol.name symbol.place (in_text made symbol is_made (in_from_slice_get (symbols_of made) i symbol is)).inside

  named_and_placed : (i : ℕ) (symbol : MadeSymbol) → IsMade made → slice_get (symbols_of made) i ≡ Some symbol → (string_at (strings_in bytes (symtab (places_of made))) (entry_at bytes (symtab (places_of made)) i).n_strx ≡ None) ⊎ (is_placed (text_section made ∷ []) (entry_at bytes (symtab (places_of made)) i) ≡ false) → ⊥
  named_and_placed i symbol is_made is (inl none) = let some = name_is made bytes stands i symbol is in cc
  named_and_placed i symbol is_made is (inr outside) = both_ways (is_placed (text_section made ∷ []) (entry_at bytes (symtab (places_of made)) i)) outside (placed i symbol is_made is)

  pub symbols_fit : (place : ℕ) → IsMade made → IsBadSymbol bytes place → ⊥
  symbols_fit place is_made is =
      let low : is.number < length (symbols_of made) = subst (λ (t : SymtabCommand). is.number < t.nsyms) (symtab_is made bytes stands) is.within in
      let bad = subst (λ (ss : List Section). (string_at (strings_in bytes (symtab (places_of made))) (entry_at bytes (symtab (places_of made)) is.number).n_strx ≡ None) ⊎ (is_placed ss (entry_at bytes (symtab (places_of made)) is.number) ≡ false)) (sections_are made bytes stands)
      (subst (λ (t : SymtabCommand). (string_at (strings_in bytes t) (entry_at bytes t is.number).n_strx ≡ None) ⊎ (is_placed (sections_in bytes) (entry_at bytes t is.number) ≡ false)) (symtab_is made bytes stands) is.bad) in
      named_and_placed is.number (get_or (symbols_of made) is.number (record { name = Main; place = None })) is_made (slice_get-get_or (symbols_of made) is.number (record { name = Main; place = None }) low) bad

  literals_of : has_broken_literals (text_section made) ≡ false
  unfolding text_section
  literals_of = refl

  pub literals_whole : (place : ℕ) → IsHeaderOf (frame_in bytes) (sections_in bytes) has_broken_literals place → ⊥
  literals_whole place has = not_its_header (frame_in bytes) (sections_in bytes) (text_section made) has_broken_literals place (sections_are made bytes stands) literals_of has
