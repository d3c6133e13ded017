-- What the sections, the symbol table and the entries tell.
use Rattle.std.proofs.Common.{◌≡◌, ◌⊎◌, ℕ, zero, suc, ◌+◌, ◌*◌, ◌<◌, ◌≤◌, Bool, true, false, List, [], ◌∷◌, length, map, position, option_map, Option, Some, None, Result, Ok, Err, if◌then◌else◌, unwrap_or, inl, inr, ⊎_elim, refl, sym, ap, subst, ◌∙◌, arith}
use Rattle.std.specs.List.{range_with_len}
use Rattle.std.specs.Option.{option_map_or}
use Rattle.mo_types.specs.Gives.{◌>>=◌, each_from, guarded}
use Rattle.mo_types.specs.declared.cause.Rule.{Rule}
use Rattle.mo_types.specs.declared.cause.Rule.TheVariants as rule
use Rattle.mo_types.specs.declared.object.Section.{Section}
use Rattle.mo_types.specs.declared.object_fault.ObjFault.{ObjFault}
use Rattle.mo_types.specs.declared.object_fault.ObjFault.TheVariants.{Malformed}
use Rattle.mo_format.specs.Symbol.{symtab_command_at}
use Rattle.mo_format.specs.declared.symbol.Nlist.{Nlist}
use Rattle.mo_format.specs.declared.symbol.SymtabCommand.{SymtabCommand}
use Rattle.mo_obj.specs.Faults.{keeps}
use Rattle.mo_strings.specs.Strings.{string_at}
use Rattle.mo_obj.specs.Object.{checked_sections}
use Rattle.mo_obj.specs.Parts.{frame_in, headers_in, sections_in, symbol_named, symbols_in, symtab_in}
use Rattle.mo_obj.specs.Rules.{IsBadSymbol, IsBrokenSymtab}
use Rattle.mo_obj.specs.Sections.{each_keeps, has_broken_literals, has_relocs_outside, header_place, is_outside}
use Rattle.mo_obj.specs.Symbols.{entry_at, entry_place, is_placed, is_symtab, no_symtab, strings_of, symbol_at, symbol_of, symbol_with, symbols_of, symtab_of}
use Rattle.mo_obj.proofs.FactsHeaders.{header_least}
use Rattle.mo_obj.proofs.FactsLeast.{IsLeast, both_ways, here_or_later, least_alike}
use Rattle.mo_obj.proofs.FactsRules.{Holds, IsReadBelow, Tells, kept, then_read}

pub sections_told : (bytes : List ℕ) → Holds bytes 3 → Tells bytes (IsReadBelow bytes 5 (sections_in bytes)) (checked_sections bytes (frame_in bytes))
unfolding checked_sections sections_in headers_in Tells
sections_told bytes holds =
    then_read bytes 4 tt (IsReadBelow bytes 5 (sections_in bytes)) (each_keeps rule.Section (frame_in bytes) (is_outside (length bytes)) (headers_in bytes)) _
    (kept bytes rule.Section tt (option_map (header_place (frame_in bytes)) (position (is_outside (length bytes)) (headers_in bytes))) refl holds (header_least (frame_in bytes) (headers_in bytes) (is_outside (length bytes))))
    (λ four. then_read bytes 5 tt (IsReadBelow bytes 5 (sections_in bytes)) (each_keeps rule.Relocations (frame_in bytes) (has_relocs_outside (length bytes)) (headers_in bytes)) _
    (kept bytes rule.Relocations tt (option_map (header_place (frame_in bytes)) (position (has_relocs_outside (length bytes)) (headers_in bytes))) refl four (header_least (frame_in bytes) (headers_in bytes) (has_relocs_outside (length bytes))))
    (λ five. record { same = refl; holds = five }))

pub literals_told : (bytes : List ℕ) → Holds bytes 7 → Tells bytes (IsReadBelow bytes 8 tt) (each_keeps rule.Literals (frame_in bytes) has_broken_literals (sections_in bytes))
literals_told bytes holds =
    kept bytes rule.Literals tt (option_map (header_place (frame_in bytes)) (position has_broken_literals (sections_in bytes))) refl holds (header_least (frame_in bytes) (sections_in bytes) has_broken_literals)

-- the place of a symbol table that is broken
abbrev bad_symtab : List ℕ → Option ℕ → Option ℕ
bad_symtab bytes None = None
bad_symtab bytes (Some at) = if is_symtab bytes at then None else Some at

symtab_kept : (bytes : List ℕ) (at : Option ℕ) → option_map_or (λ at. guarded (is_symtab bytes at) (Malformed at rule.Symbols) (symtab_command_at bytes at)) at (Ok no_symtab) ≡ keeps rule.Symbols (bad_symtab bytes at) (option_map_or (symtab_command_at bytes) at no_symtab)
symtab_kept bytes None = refl
symtab_kept bytes (Some at) = whole_or_not (is_symtab bytes at)
  where
    whole_or_not : (whole : Bool) → guarded whole (Malformed at rule.Symbols) (symtab_command_at bytes at) ≡ keeps rule.Symbols (if whole then None else Some at) (symtab_command_at bytes at)
    whole_or_not true = refl
    whole_or_not false = refl

-- a symbol table stands at a place and is broken
record IsBrokenAt (bytes : List ℕ) (found : Option ℕ) (place : ℕ) : Type 0 where
  there : found ≡ Some place
  broken : is_symtab bytes place ≡ false

broken_or_not : (bytes : List ℕ) (at : ℕ) (whole : Bool) → is_symtab bytes at ≡ whole → IsLeast (IsBrokenAt bytes (Some at)) (if whole then None else Some at)
broken_or_not bytes at true whole = λ place has. (let there : Some at ≡ Some place = has.there in let same : at ≡ place = cc in both_ways (is_symtab bytes place) (ap (is_symtab bytes) (sym same) ∙ whole) has.broken)
broken_or_not bytes at false broken = (
  record { there = refl; broken = broken },
  λ place less has. (let there : Some at ≡ Some place = has.there in let same : at ≡ place = cc in absurd (omega arith)),
)

symtab_least_at : (bytes : List ℕ) (found : Option ℕ) → IsLeast (IsBrokenAt bytes found) (bad_symtab bytes found)
symtab_least_at bytes None = λ place has. (let none : None ≡ Some place = has.there in absurd (cc))
symtab_least_at bytes (Some at) = broken_or_not bytes at (is_symtab bytes at) refl

symtab_least : (bytes : List ℕ) → IsLeast (IsBrokenSymtab bytes) (bad_symtab bytes (frame_in bytes).symtab)
symtab_least bytes = least_alike (IsBrokenAt bytes (frame_in bytes).symtab) (IsBrokenSymtab bytes) (bad_symtab bytes (frame_in bytes).symtab)
    (λ place has. record { command = has.there; broken = has.broken })
    (λ place has. record { there = has.command; broken = has.broken })
    (symtab_least_at bytes (frame_in bytes).symtab)

pub symtab_told : (bytes : List ℕ) → Holds bytes 5 → Tells bytes (IsReadBelow bytes 6 (symtab_in bytes)) (symtab_of bytes (frame_in bytes))
unfolding symtab_of symtab_in
symtab_told bytes holds = subst (Tells bytes (IsReadBelow bytes 6 (symtab_in bytes))) (sym (symtab_kept bytes (frame_in bytes).symtab))
    (kept bytes rule.Symbols (symtab_in bytes) (bad_symtab bytes (frame_in bytes).symtab) refl holds (symtab_least bytes))

-- the first of two places that is there
abbrev or_later : Option ℕ → Option ℕ → Option ℕ
or_later None later = later
or_later (Some place) later = Some place

-- of the values at n places, the first that is at fault
abbrev first_bad : (ℕ → Option ℕ) → ℕ → ℕ → Option ℕ
first_bad bad at zero = None
first_bad bad at (suc n) = or_later (bad at) (first_bad bad (at + 1) n)

one_kept : {A : Type 0} (asked : Rule) (here later : Option ℕ) (x : A) (xs : List A) → (keeps asked here x >>= λ y. keeps asked later xs >>= λ ys. Ok (y ∷ ys)) ≡ keeps asked (or_later here later) (x ∷ xs)
one_kept asked None None x xs = refl
one_kept asked None (Some place) x xs = refl
one_kept asked (Some place) later x xs = refl

each_kept : {A : Type 0} (asked : Rule) (value : ℕ → Result A ObjFault) (bad : ℕ → Option ℕ) (good : ℕ → A) → ((i : ℕ) → value i ≡ keeps asked (bad i) (good i)) → (at n : ℕ) → each_from value at n ≡ keeps asked (first_bad bad at n) (map good (range_with_len at n))
each_kept asked value bad good each at zero = refl
each_kept asked value bad good each at (suc n) =
    ap (λ read. read >>= λ x. each_from value (at + 1) n >>= λ xs. Ok (x ∷ xs)) (each at)
    ∙ ap (λ read. keeps asked (bad at) (good at) >>= λ x. read >>= λ xs. Ok (x ∷ xs)) (each_kept asked value bad good each (at + 1) n)
    ∙ one_kept asked (bad at) (first_bad bad (at + 1) n) (good at) (map good (range_with_len (at + 1) n))

-- a place of a range whose value is at fault
record IsBadIn (bad : ℕ → Option ℕ) (at n place : ℕ) : Type 0 where
  number : ℕ
  low : at ≤ number
  high : number < at + n
  is : bad number ≡ Some place

later_bad : (bad : ℕ → Option ℕ) (at n place : ℕ) → IsBadIn bad (at + 1) n place → IsBadIn bad at (suc n) place
later_bad bad at n place has =
    let low : at + 1 ≤ has.number = has.low in
    let high : has.number < at + 1 + n = has.high in
    record { number = has.number; low = omega arith; high = omega arith; is = has.is }

-- places that rise with the number
abbrev AreRising : (ℕ → Option ℕ) → Type 0
AreRising bad = (i j p q : ℕ) → i ≤ j → bad i ≡ Some p → bad j ≡ Some q → p ≤ q

bad_or_later : (bad : ℕ → Option ℕ) → AreRising bad → (at n : ℕ) (here : Option ℕ) → bad at ≡ here → IsLeast (IsBadIn bad (at + 1) n) (first_bad bad (at + 1) n) → IsLeast (IsBadIn bad at (suc n)) (or_later here (first_bad bad (at + 1) n))
bad_or_later bad rising at n None is rest = least_alike (IsBadIn bad (at + 1) n) (IsBadIn bad at (suc n)) (first_bad bad (at + 1) n)
    (λ place has. later_bad bad at n place has)
    (λ place has. ⊎_elim
    (λ same. (let none : None ≡ Some place = sym is ∙ ap bad same ∙ has.is in absurd (cc)))
    (λ low. (let high : has.number < at + suc n = has.high in record { number = has.number; low = low; high = omega arith; is = has.is }))
    (here_or_later at has.number has.low))
    rest
bad_or_later bad rising at n (Some p) is rest = (
  record { number = at; low = omega arith; high = omega arith; is = is },
  λ place less has. (let above : p ≤ place = rising at has.number p place has.low is has.is in absurd (omega arith)),
)

bad_least : (bad : ℕ → Option ℕ) → AreRising bad → (at n : ℕ) → IsLeast (IsBadIn bad at n) (first_bad bad at n)
bad_least bad rising at zero = λ place has. (let low : at ≤ has.number = has.low in let high : has.number < at + 0 = has.high in absurd (omega arith))
bad_least bad rising at (suc n) = bad_or_later bad rising at n (bad at) refl (bad_least bad rising (at + 1) n)

-- the place where there is no name, or a definition outside its section
abbrev bad_by : ℕ → Option (List ℕ) → Bool → Option ℕ
bad_by place None placed = Some place
bad_by place (Some name) placed = if placed then None else Some place

-- the place of an entry that is no symbol
bad_entry : List ℕ → SymtabCommand → List Section → ℕ → Option ℕ
bad_entry bytes symtab sections i = bad_by (entry_place symtab i) (string_at (strings_of bytes symtab) (entry_at bytes symtab i).n_strx) (is_placed sections (entry_at bytes symtab i))

entry_by : (place : ℕ) (entry : Nlist) (name : Option (List ℕ)) (placed : Bool) → option_map_or Ok (option_map_or (λ name. if placed then Some (symbol_with entry name) else None) name None) (Err (Malformed place rule.Symbol)) ≡ keeps rule.Symbol (bad_by place name placed) (symbol_with entry (unwrap_or name []))
entry_by place entry None placed = refl
entry_by place entry (Some name) true = refl
entry_by place entry (Some name) false = refl

entry_kept : (bytes : List ℕ) (symtab : SymtabCommand) (sections : List Section) (i : ℕ) → symbol_at bytes symtab sections i ≡ keeps rule.Symbol (bad_entry bytes symtab sections i) (symbol_named bytes symtab i)
unfolding symbol_at symbol_of symbol_named bad_entry
entry_kept bytes symtab sections i =
    entry_by (entry_place symtab i) (entry_at bytes symtab i) (string_at (strings_of bytes symtab) (entry_at bytes symtab i).n_strx) (is_placed sections (entry_at bytes symtab i))

-- what is bad of an entry at a place
record IsBadBy (place : ℕ) (name : Option (List ℕ)) (placed : Bool) (p : ℕ) : Type 0 where
  there : p ≡ place
  bad : (name ≡ None) ⊎ (placed ≡ false)

is_bad_by : (place : ℕ) (name : Option (List ℕ)) (placed : Bool) (p : ℕ) → bad_by place name placed ≡ Some p → IsBadBy place name placed p
is_bad_by place None placed p is = record { there = cc; bad = inl refl }
is_bad_by place (Some name) true p is = cc
is_bad_by place (Some name) false p is = record { there = cc; bad = inr refl }

has_bad_by : (place : ℕ) (name : Option (List ℕ)) (placed : Bool) → (name ≡ None) ⊎ (placed ≡ false) → bad_by place name placed ≡ Some place
has_bad_by place None placed bad = refl
has_bad_by place (Some name) false bad = refl
has_bad_by place (Some name) true (inl none) = cc
has_bad_by place (Some name) true (inr no_place) = cc

entry_is_bad : (bytes : List ℕ) (symtab : SymtabCommand) (sections : List Section) (i p : ℕ) → bad_entry bytes symtab sections i ≡ Some p → IsBadBy (entry_place symtab i) (string_at (strings_of bytes symtab) (entry_at bytes symtab i).n_strx) (is_placed sections (entry_at bytes symtab i)) p
unfolding bad_entry
entry_is_bad bytes symtab sections i p is =
    is_bad_by (entry_place symtab i) (string_at (strings_of bytes symtab) (entry_at bytes symtab i).n_strx) (is_placed sections (entry_at bytes symtab i)) p is

bad_is_found : (bytes : List ℕ) (symtab : SymtabCommand) (sections : List Section) (i : ℕ) → (string_at (strings_of bytes symtab) (entry_at bytes symtab i).n_strx ≡ None) ⊎ (is_placed sections (entry_at bytes symtab i) ≡ false) → bad_entry bytes symtab sections i ≡ Some (entry_place symtab i)
unfolding bad_entry
bad_is_found bytes symtab sections i bad =
    has_bad_by (entry_place symtab i) (string_at (strings_of bytes symtab) (entry_at bytes symtab i).n_strx) (is_placed sections (entry_at bytes symtab i)) bad

entries_rise : (bytes : List ℕ) (symtab : SymtabCommand) (sections : List Section) → AreRising (bad_entry bytes symtab sections)
entries_rise bytes symtab sections i j p q low one other =
    let first : p ≡ symtab.symoff + 16 * i = (entry_is_bad bytes symtab sections i p one).there in
    let second : q ≡ symtab.symoff + 16 * j = (entry_is_bad bytes symtab sections j q other).there in
    omega arith

symbol_least : (bytes : List ℕ) → IsLeast (IsBadSymbol bytes) (first_bad (bad_entry bytes (symtab_in bytes) (sections_in bytes)) 0 (symtab_in bytes).nsyms)
symbol_least bytes = least_alike
    (IsBadIn (bad_entry bytes (symtab_in bytes) (sections_in bytes)) 0 (symtab_in bytes).nsyms) (IsBadSymbol bytes)
    (first_bad (bad_entry bytes (symtab_in bytes) (sections_in bytes)) 0 (symtab_in bytes).nsyms)
    (λ place has.
    let high : has.number < 0 + (symtab_in bytes).nsyms = has.high in
    let bad = entry_is_bad bytes (symtab_in bytes) (sections_in bytes) has.number place has.is in
    record { number = has.number; within = omega arith; entry = bad.there; bad = bad.bad })
    (λ place has.
    let high : has.number < (symtab_in bytes).nsyms = has.within in
    record {
      number = has.number;
      low = omega arith;
      high = omega arith;
      is = bad_is_found bytes (symtab_in bytes) (sections_in bytes) has.number has.bad ∙ ap Some (sym has.entry);
    })
    (bad_least (bad_entry bytes (symtab_in bytes) (sections_in bytes)) (entries_rise bytes (symtab_in bytes) (sections_in bytes)) 0 (symtab_in bytes).nsyms)

symbols_kept : (bytes : List ℕ) → symbols_of bytes (symtab_in bytes) (sections_in bytes) ≡ keeps rule.Symbol (first_bad (bad_entry bytes (symtab_in bytes) (sections_in bytes)) 0 (symtab_in bytes).nsyms) (symbols_in bytes)
unfolding symbols_of symbols_in
symbols_kept bytes =
    each_kept rule.Symbol (symbol_at bytes (symtab_in bytes) (sections_in bytes)) (bad_entry bytes (symtab_in bytes) (sections_in bytes)) (symbol_named bytes (symtab_in bytes))
    (entry_kept bytes (symtab_in bytes) (sections_in bytes)) 0 (symtab_in bytes).nsyms

pub symbols_told : (bytes : List ℕ) → Holds bytes 6 → Tells bytes (IsReadBelow bytes 7 (symbols_in bytes)) (symbols_of bytes (symtab_in bytes) (sections_in bytes))
symbols_told bytes holds = subst (Tells bytes (IsReadBelow bytes 7 (symbols_in bytes))) (sym (symbols_kept bytes))
    (kept bytes rule.Symbol (symbols_in bytes) (first_bad (bad_entry bytes (symtab_in bytes) (sections_in bytes)) 0 (symtab_in bytes).nsyms) refl holds (symbol_least bytes))
