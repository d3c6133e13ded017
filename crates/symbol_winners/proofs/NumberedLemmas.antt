-- The numbers of the names of files' symbols.
use Rattle.std.proofs.Common.{◌≡◌, ℕ, ◌<◌, ◌^◌, Bool, true, false, List, [], ◌∷◌, length, map, get_or, slice_get, position, Some, None, refl, sym, ap, ◌∙◌, arith}
use Rattle.std.specs.Prelude.{Option, unwrap_or}
use Rattle.std.specs.Str.{bytes_eq}
use Rattle.std.proofs.lemmas.List.{get_or-map, length-map}
use Rattle.std.proofs.lemmas.List.Quantifiers.{position-Some}
use Rattle.std.proofs.lemmas.Option.{slice_get-get_or}
use Rattle.std.proofs.lemmas.Slice.Eq.{bytes_eq-Decides}
use Rattle.mo_types.specs.declared.loaded.LoadedFile.{LoadedFile}
use Rattle.mo_types.specs.declared.object.Symbol.{Symbol}
use Rattle.name_ids.specs.Names.{number_of, numbers_in, numbers_of}
use Rattle.name_ids.specs.declared.numbered.TheConstants.{NO_NUMBER}

-- a number below the count of names is that of an external symbol's name
pub named_at : (names : List (List ℕ)) (symbol : Symbol) (number : ℕ) → length names < 2 ^ 24 → number ≡ number_of names symbol → number < length names → (symbol.external ≡ true) × (slice_get names number ≡ Some symbol.name)
unfolding number_of
named_at names symbol number few is low = by symbol.external refl
  where
    found : (o : Option ℕ) → position (bytes_eq symbol.name) names ≡ o → number ≡ unwrap_or o NO_NUMBER → slice_get names number ≡ Some symbol.name
    found None none e = absurd (omega (arith, low, few, e))
    found (Some id) some e =
        let at = position-Some (bytes_eq symbol.name) names id [] some in
        let same : symbol.name ≡ get_or names id [] = (bytes_eq-Decides symbol.name (get_or names id [])).0 at.1 in
        ap (slice_get names) e ∙ slice_get-get_or names id [] at.0 ∙ ap (λ (n : List ℕ). Some n) (sym same)

    by : (b : Bool) → symbol.external ≡ b → (symbol.external ≡ true) × (slice_get names number ≡ Some symbol.name)
    by true e = (e, found (position (bytes_eq symbol.name) names) refl (is ∙ rw e refl))
    by false e = absurd (let none : number ≡ 4294967295 = is ∙ rw e refl in omega (arith, low, few, none))

-- the numbers of the symbols of the file at a place
pub numbers_there : (names : List (List ℕ)) (files read : List LoadedFile) (numbers : List (List ℕ)) (at : ℕ) (file : LoadedFile) (list d : List ℕ) → numbers ≡ numbers_of names files → read ≡ files → at < length read → file ≡ get_or read at file → list ≡ get_or numbers at d → list ≡ numbers_in names file
unfolding numbers_of
numbers_there names files read numbers at file list d all same low is there =
    there ∙ ap (λ (ls : List (List ℕ)). get_or ls at d) all ∙ ap (λ (fs : List LoadedFile). get_or (map (numbers_in names) fs) at d) (sym same)
    ∙ get_or-map (numbers_in names) read at file d low ∙ ap (numbers_in names) (sym is)

pub as_many_lists : (names : List (List ℕ)) (files read : List LoadedFile) (numbers : List (List ℕ)) (at : ℕ) → numbers ≡ numbers_of names files → read ≡ files → at < length read → at < length numbers
unfolding numbers_of
as_many_lists names files read numbers at all same low =
    let n : length numbers ≡ length files = ap length all ∙ length-map files (numbers_in names) in
    let m : length read ≡ length files = ap length same in
    omega (arith, low, n, m)

pub as_many : (names : List (List ℕ)) (file : LoadedFile) (numbers : List ℕ) → numbers ≡ numbers_in names file → length numbers ≡ length file.object.symbols
unfolding numbers_in
as_many names file numbers all = ap length all ∙ length-map file.object.symbols (number_of names)

-- the number of the symbol at a place
pub number_there : (names : List (List ℕ)) (file : LoadedFile) (numbers : List ℕ) (i number d : ℕ) (s : Symbol) → numbers ≡ numbers_in names file → i < length numbers → number ≡ get_or numbers i d → number ≡ number_of names (get_or file.object.symbols i s)
unfolding numbers_in
number_there names file numbers i number d s all low is =
    let m : length numbers ≡ length file.object.symbols = ap length all ∙ length-map file.object.symbols (number_of names) in
    let under : i < length file.object.symbols = omega (arith, low, m) in
    is ∙ ap (λ (ns : List ℕ). get_or ns i d) all ∙ get_or-map (number_of names) file.object.symbols i s d under
