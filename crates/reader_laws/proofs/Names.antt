-- The name of a symbol is a string that ends before its first NUL.
use Rattle.std.proofs.Common.{◌≡◌, ◌≢◌, ℕ, zero, suc, ◌+◌, ◌==◌, List, [], ◌∷◌, take, drop, Bool, true, false, Option, Some, None, Result, Ok, Err, All, IfOk, IfSome, if◌then◌else◌, refl, sym, ap, ◌∙◌, arith}
use Rattle.std.specs.Option.{option_map, option_map_or}
use Rattle.std.proofs.lemmas.Bool.{eqb-false}
use Rattle.std.proofs.lemmas.List.Elements.{All-cons, All-nil}
use Rattle.std.proofs.lemmas.Result.{IfOk-at_ok}
use Rattle.mo_strings.specs.Strings.{first_nul, string_at}
use Rattle.mo_strings.proofs.TableLemmas.{nul_first, nul_later, past_all}
use Rattle.mo_format.specs.declared.symbol.Nlist.{Nlist}
use Rattle.mo_format.specs.declared.symbol.SymtabCommand.{SymtabCommand}
use Rattle.mo_types.specs.Gives.{each_from}
use Rattle.mo_types.specs.declared.cause.Rule.TheVariants as rule
use Rattle.mo_types.specs.declared.object.Object.{Object}
use Rattle.mo_types.specs.declared.object.Section.{Section}
use Rattle.mo_types.specs.declared.object.Symbol.{Symbol}
use Rattle.mo_types.specs.declared.object_fault.ObjFault.{ObjFault}
use Rattle.mo_types.specs.declared.object_fault.ObjFault.TheVariants.{Malformed}
use Rattle.mo_obj.specs.Commands.{commands_of, frame_of}
use Rattle.mo_obj.specs.Header.{header_of}
use Rattle.mo_obj.specs.Object.{accepted, checked_sections, described, object_of}
use Rattle.mo_obj.specs.Sections.{each_keeps, has_broken_literals}
use Rattle.mo_obj.specs.Symbols.{entry_at, entry_place, is_placed, strings_of, symbol_at, symbol_of, symbol_with, symbols_of, symtab_of}
use Rattle.lib_bind.proofs.TextLemmas.{then_holds}
use Rattle.reader_laws.specs.Facts.{HasNoNul}
use Rattle.reader_laws.proofs.Steps.{passed}

-- ---- strings

one_less : (found : Option ℕ) (n : ℕ) → option_map (λ k. 1 + k) found ≡ Some (suc n) → found ≡ Some n
one_less None n is = absurd cc
one_less (Some k) n is = let same : 1 + k ≡ suc n = cc in let less : k ≡ n = omega arith in ap (λ (m : ℕ). Some m) less

-- what stands before the first NUL holds none
before_nul : (bytes : List ℕ) (end : ℕ) → first_nul bytes ≡ Some end → HasNoNul (take end bytes)
before_nul [] end is = let none : None ≡ first_nul [] = past_all [] 1 (omega arith) in absurd cc
before_nul (b ∷ bs) zero is = All-nil (λ x. x ≢ 0)
before_nul (b ∷ bs) (suc n) is = by (b == 0) refl (before_nul bs n)
  where
    by : (test : Bool) → (b == 0) ≡ test → (first_nul bs ≡ Some n → HasNoNul (take n bs)) → HasNoNul (take (suc n) (b ∷ bs))
    by true nul rest = let here : first_nul (b ∷ bs) ≡ Some 0 = nul_first b bs nul in absurd cc
    by false other rest = All-cons (λ x. x ≢ 0) b (take n bs) (eqb-false b 0 other) (rest (one_less (first_nul bs) n (sym (nul_later b bs other) ∙ is)))

string_ends : (bytes : List ℕ) (found : Option ℕ) → first_nul bytes ≡ found → IfSome (option_map (λ end. take end bytes) found) HasNoNul
string_ends bytes None is = tt
string_ends bytes (Some end) is = before_nul bytes end is

string_no_nul : (strings : List ℕ) (at : ℕ) → IfSome (string_at strings at) HasNoNul
unfolding string_at
string_no_nul strings at = string_ends (drop at strings) (first_nul (drop at strings)) refl

-- ---- symbols

-- what holds of each value holds of all that are read
all_read : {A E : Type 0} (P : A → Type 0) (value : ℕ → Result A E) → ((i : ℕ) → IfOk (value i) P) → (at n : ℕ) → IfOk (each_from value at n) (All P)
all_read P value holds at zero = All-nil P
all_read P value holds at (suc n) =
    then_holds P (All P) (value at) _ (holds at)
    (λ x here. then_holds (All P) (All P) (each_from value (at + 1) n) (λ xs. Ok (x ∷ xs)) (all_read P value holds (at + 1) n) (λ xs rest. All-cons P x xs here rest))

named : (entry : Nlist) (name : Option (List ℕ)) (placed : Bool) (fault : ObjFault) → IfSome name HasNoNul
    → IfOk (option_map_or Ok (option_map_or (λ text. if placed then Some (symbol_with entry text) else None) name None) (Err fault)) (λ symbol. HasNoNul symbol.name)
named entry None placed fault holds = tt
named entry (Some name) false fault holds = tt
named entry (Some name) true fault holds = holds

symbol_named : (bytes : List ℕ) (symtab : SymtabCommand) (sections : List Section) (i : ℕ) → IfOk (symbol_at bytes symtab sections i) (λ symbol. HasNoNul symbol.name)
unfolding symbol_at symbol_of
symbol_named bytes symtab sections i =
    let entry : Nlist = entry_at bytes symtab i in
    named entry (string_at (strings_of bytes symtab) entry.n_strx) (is_placed sections entry) (Malformed (entry_place symtab i) rule.Symbol)
    (string_no_nul (strings_of bytes symtab) entry.n_strx)

abbrev AreNamed : List Symbol → Type 0
AreNamed symbols = All (λ symbol. HasNoNul symbol.name) symbols

symbols_named : (bytes : List ℕ) (symtab : SymtabCommand) (sections : List Section) → IfOk (symbols_of bytes symtab sections) AreNamed
unfolding symbols_of
symbols_named bytes symtab sections = all_read (λ symbol. HasNoNul symbol.name) (symbol_at bytes symtab sections) (symbol_named bytes symtab sections) 0 symtab.nsyms

-- ---- objects

described_named : (bytes : List ℕ) → IfOk (described bytes) (λ read. AreNamed read.object.symbols)
unfolding described
described_named bytes =
    passed _ (header_of bytes) _ λ header.
    passed _ (commands_of bytes header) _ λ commands.
    passed _ (frame_of bytes commands) _ λ frame.
    passed _ (checked_sections bytes frame) _ λ sections.
    passed _ (symtab_of bytes frame) _ λ symtab.
    then_holds AreNamed _ (symbols_of bytes symtab sections) _ (symbols_named bytes symtab sections) λ symbols are.
    passed _ (each_keeps rule.Literals frame has_broken_literals sections) _ λ literals. are

object_named : (bytes : List ℕ) → IfOk (object_of bytes) (λ object. AreNamed object.symbols)
unfolding object_of
object_named bytes =
    then_holds _ (λ (object : Object). AreNamed object.symbols) (described bytes) _ (described_named bytes) λ read are.
    passed (λ (object : Object). AreNamed object.symbols) (accepted read.object read.foreign) _ λ done. are

pub no_nul_in_names : (bytes : List ℕ) (object : Object) → object_of bytes ≡ Ok object → All (λ symbol. HasNoNul symbol.name) object.symbols
no_nul_in_names bytes object is = IfOk-at_ok (λ (read : Object). AreNamed read.symbols) is (object_named bytes)
