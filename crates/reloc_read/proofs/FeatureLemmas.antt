-- A search of a section's rows, and what no row names.
use Rattle.std.proofs.Common.{◌≡◌, ℕ, zero, suc, ◌<◌, ◌≤◌, ◌∷◌, [], ◌&&◌, List, length, slice_get, Bool, true, false, not, Option, Some, None, refl, sym, arith}
use Rattle.std.specs.List.{list_any, range_with_len}
use Rattle.std.specs.Option.{option_map_or}
use Rattle.std.proofs.Math.Bool.{and-false}
use Rattle.std.proofs.lemmas.Bool.{or_parts}
use Rattle.mo_types.specs.RelocationRules.{is_absolute}
use Rattle.mo_types.specs.Refs.{has_absolute, names_absolute, row_names_absolute}
use Rattle.mo_types.specs.Rows.{first_before, is_subtractor, last_at}
use Rattle.mo_types.specs.Whole.{is_dropped}
use Rattle.mo_types.specs.declared.object.Object.{Object}
use Rattle.mo_types.specs.declared.object.RawReloc.{RawReloc}
use Rattle.mo_types.specs.declared.object.Section.{Section}
use Rattle.mo_types.specs.declared.object.Symbol.{Symbol}
use Rattle.reloc_read.specs.Features.{row_names_absolute_at, any_absolute}
use Rattle.reloc_read.proofs.ScanLemmas.{NoneBelow, any_in_range, none_in_range, none_at_first, none_so_far}

pub one_names : (symbols : List Symbol) (section : Section) (at : ℕ) → at < length section.relocs → true ≡ row_names_absolute_at symbols section.relocs at → true ≡ any_absolute symbols section
one_names symbols section at within pass = sym (any_in_range (row_names_absolute_at symbols section.relocs) 0 (length section.relocs) at (omega arith) (omega arith) (sym pass))

pub none_names : (symbols : List Symbol) (section : Section) (bound : ℕ) → NoneBelow (row_names_absolute_at symbols section.relocs) bound → length section.relocs ≤ bound → false ≡ any_absolute symbols section
none_names symbols section bound none past = sym (none_in_range (row_names_absolute_at symbols section.relocs) 0 (length section.relocs) (λ k low high. none.none k (omega arith)))

pub ruleset scans = (none_at_first, none_so_far, one_names, none_names)

-- where no symbol is a number and no place, no relocation names one

abbrev HasNone : List Symbol → Type 0
HasNone symbols = list_any (λ symbol. is_absolute symbol.kind) symbols ≡ false

no_any : {A : Type 0} (test : A → Bool) (xs : List A) → ((x : A) → test x ≡ false) → list_any test xs ≡ false
no_any test [] none = refl
no_any test (x ∷ xs) none = rw (none x) (no_any test xs none)

no_map : {A : Type 0} (test : A → Bool) (found : Option A) → ((x : A) → test x ≡ false) → option_map_or test found false ≡ false
no_map test None none = refl
no_map test (Some x) none = none x

no_symbol : (symbols : List Symbol) (at : ℕ) → HasNone symbols → option_map_or (λ symbol. is_absolute symbol.kind) (slice_get symbols at) false ≡ false
no_symbol [] at none = refl
no_symbol (symbol ∷ symbols) zero none = (or_parts _ _ none).0
no_symbol (symbol ∷ symbols) (suc at) none = no_symbol symbols at (or_parts _ _ none).1

no_name : (symbols : List Symbol) (reloc : RawReloc) → HasNone symbols → names_absolute symbols reloc ≡ false
no_name symbols reloc none = rw (no_symbol symbols reloc.number none) (and-false reloc.external)

no_row : (symbols : List Symbol) (first : Option RawReloc) (last : RawReloc) → HasNone symbols → row_names_absolute symbols first last ≡ false
no_row symbols None last none = no_name symbols last none
no_row symbols (Some first) last none = rw (no_name symbols first none, no_name symbols last none, and-false (is_subtractor first)) refl

no_section : (symbols : List Symbol) (section : Section) → HasNone symbols → any_absolute symbols section ≡ false
no_section symbols section none =
    no_any (row_names_absolute_at symbols section.relocs) (range_with_len 0 (length section.relocs))
    (λ at. no_map (row_names_absolute symbols (first_before section.relocs at)) (last_at section.relocs at) (λ last. no_row symbols (first_before section.relocs at) last none))

pub unnamed : (object : Object) → false ≡ list_any (λ symbol. is_absolute symbol.kind) object.symbols → false ≡ has_absolute object
unfolding has_absolute
unnamed object none =
    sym (no_any (λ section. not (is_dropped section) && any_absolute object.symbols section) object.sections
    (λ section. rw (no_section object.symbols section (sym none)) (and-false (not (is_dropped section)))))
