-- The parts of an object, written one after the other.
use Rattle.std.proofs.Common.{◌≡◌, ℕ, List, [], ◌++◌, sym, ap, ◌∙◌, append_assoc, append-nil}
use Rattle.std.specs.List.{flat_map}
use Rattle.mo_bytes.specs.Number.{number_bytes}
use Rattle.mo_format.specs.Header.{mach_header_bytes}
use Rattle.mo_format.specs.Relocation.{relocation_info_bytes}
use Rattle.mo_format.specs.Segment.{segment_command_bytes, section_header_bytes}
use Rattle.mo_format.specs.Symbol.{nlist_bytes, symtab_command_bytes}
use Rattle.mo_format.specs.declared.segment.SectionHeader.{SectionHeader}
use Rattle.mo_format.specs.declared.segment.SegmentCommand.{SegmentCommand}
use Rattle.mo_format.specs.declared.symbol.SymtabCommand.{SymtabCommand}
use Rattle.link_gen.specs.Generated.{front_bytes, generated, header, padding, places_of, section, segment, symtab}
use Rattle.link_gen.specs.Parts.{instructions, relocations}
use Rattle.link_gen.specs.Symbols.{entries_from, strings_of, symbols_of}
use Rattle.link_gen.specs.declared.calls.MadeObject.{MadeObject}
use Rattle.link_gen.specs.declared.front.Places.{Places}
use Rattle.link_gen.specs.declared.symbols.MadeSymbol.{MadeSymbol}

four : (o a b c d w x y z : List ℕ) → a ≡ o ++ w → b ≡ a ++ x → c ≡ b ++ y → d ≡ c ++ z → d ≡ o ++ (w ++ (x ++ (y ++ z)))
four o a b c d w x y z p q r s =
    s ∙ ap (λ (l : List ℕ). l ++ z) r ∙ append_assoc b y z
    ∙ ap (λ (l : List ℕ). l ++ (y ++ z)) q ∙ append_assoc a x (y ++ z)
    ∙ ap (λ (l : List ℕ). l ++ (x ++ (y ++ z))) p ∙ append_assoc o w (x ++ (y ++ z))

pub front_written : (places : Places) (o a b c d : List ℕ) (g : SegmentCommand) (s : SectionHeader) (t : SymtabCommand) → g ≡ segment places → s ≡ section places → t ≡ symtab places → a ≡ o ++ mach_header_bytes header → b ≡ a ++ segment_command_bytes g → c ≡ b ++ section_header_bytes s → d ≡ c ++ symtab_command_bytes t → d ≡ o ++ front_bytes places
unfolding front_bytes
front_written places o a b c d g s t is_g is_s is_t p q r e =
    four o a b c d (mach_header_bytes header) (segment_command_bytes (segment places)) (section_header_bytes (section places)) (symtab_command_bytes (symtab places)) p
    (q ∙ ap (λ (x : SegmentCommand). a ++ segment_command_bytes x) is_g)
    (r ∙ ap (λ (x : SectionHeader). b ++ section_header_bytes x) is_s)
    (e ∙ ap (λ (x : SymtabCommand). c ++ symtab_command_bytes x) is_t)

pub all_written : (made : MadeObject) (places : Places) (list : List MadeSymbol) (strings o a b c d e f : List ℕ) → places ≡ places_of made → list ≡ symbols_of made → strings ≡ strings_of list → o ≡ [] → a ≡ o ++ front_bytes places → b ≡ a ++ flat_map (number_bytes 4) (instructions made) → c ≡ b ++ padding places → d ≡ c ++ flat_map relocation_info_bytes (relocations made) → e ≡ d ++ flat_map nlist_bytes (entries_from 1 list) → f ≡ e ++ strings → f ≡ generated made
unfolding generated
all_written made places list strings o a b c d e f is_places is_list is_strings none p q r s t u =
    let front : a ≡ front_bytes (places_of made) = p ∙ ap (λ (l : List ℕ). l ++ front_bytes places) none ∙ ap front_bytes is_places in
    let padded : c ≡ b ++ padding (places_of made) = r ∙ ap (λ (x : Places). b ++ padding x) is_places in
    let entries : e ≡ d ++ flat_map nlist_bytes (entries_from 1 (symbols_of made)) = t ∙ ap (λ (l : List MadeSymbol). d ++ flat_map nlist_bytes (entries_from 1 l)) is_list in
    let named : strings ≡ strings_of (symbols_of made) = is_strings ∙ ap strings_of is_list in
    let text : List ℕ = flat_map (number_bytes 4) (instructions made) in
    let calls : List ℕ = flat_map relocation_info_bytes (relocations made) in
    u ∙ ap (λ (l : List ℕ). e ++ l) named
    ∙ ap (λ (l : List ℕ). l ++ strings_of (symbols_of made)) entries
    ∙ append_assoc d (flat_map nlist_bytes (entries_from 1 (symbols_of made))) (strings_of (symbols_of made))
    ∙ ap (λ (l : List ℕ). l ++ (flat_map nlist_bytes (entries_from 1 (symbols_of made)) ++ strings_of (symbols_of made)))
    (four a b c d d text (padding (places_of made)) calls [] q padded s (sym (append-nil d)) ∙ ap (λ (l : List ℕ). a ++ (text ++ (padding (places_of made) ++ l))) (append-nil calls))
    ∙ append_assoc a (text ++ (padding (places_of made) ++ calls)) (flat_map nlist_bytes (entries_from 1 (symbols_of made)) ++ strings_of (symbols_of made))
    ∙ ap (λ (l : List ℕ). l ++ ((text ++ (padding (places_of made) ++ calls)) ++ (flat_map nlist_bytes (entries_from 1 (symbols_of made)) ++ strings_of (symbols_of made)))) front
    ∙ ap (λ (l : List ℕ). front_bytes (places_of made) ++ l)
    (append_assoc text (padding (places_of made) ++ calls) (flat_map nlist_bytes (entries_from 1 (symbols_of made)) ++ strings_of (symbols_of made))
    ∙ ap (λ (l : List ℕ). text ++ l) (append_assoc (padding (places_of made)) calls (flat_map nlist_bytes (entries_from 1 (symbols_of made)) ++ strings_of (symbols_of made))))

pub ruleset written = (all_written)
