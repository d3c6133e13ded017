-- The symbols of a file before a place, and those of the files before one.
use Rattle.std.proofs.Common.{◌≡◌, false, ℕ, ◌+◌, ◌<◌, ◌≤◌, List, [], ◌∷◌, ◌++◌, length, map, take, get_or, refl, sym, ap, ◌∙◌, zero-add}
use Rattle.std.specs.List.{enumerate_from}
use Rattle.std.proofs.lemmas.Grind.{flat_map-append}
use Rattle.std.proofs.lemmas.List.{map-append, take_all, take_more, append-nil}
use Rattle.std.proofs.lemmas.List.FromFn.{get_or-enumerate_from, length-enumerate_from}
use Rattle.mo_types.specs.declared.loaded.LoadedFile.{LoadedFile}
use Rattle.mo_types.specs.declared.object.Symbol.{Symbol}
use Rattle.mo_types.specs.declared.object.SymbolKind.TheVariants.{Passed}
use Rattle.sym_out.specs.Files.{FileSymbol, symbol_of, symbols_in, symbols_of}

-- those of a file before a place
unfoldable pub until : LoadedFile → ℕ → List FileSymbol
until file i = map (symbol_of file) (take i (enumerate_from 0 file.object.symbols))

pub until_none : (file : LoadedFile) → until file 0 ≡ []
unfolding until
until_none file = refl

pub until_more : (file : LoadedFile) (i : ℕ) (d : Symbol) → i < length file.object.symbols → until file (i + 1) ≡ until file i ++ (record { file = file; index = i; symbol = get_or file.object.symbols i d }) ∷ []
unfolding until
until_more file i d low =
    let all : List (ℕ × Symbol) = enumerate_from 0 file.object.symbols in
    let within : i < length all = rw (length-enumerate_from 0 file.object.symbols) low in
    ap (map (symbol_of file)) (take_more all i (0, d) within)
    ∙ map-append (symbol_of file) (take i all) (get_or all i (0, d) ∷ [])
    ∙ ap (λ (p : ℕ × Symbol). map (symbol_of file) (take i all) ++ symbol_of file p ∷ []) (get_or-enumerate_from 0 file.object.symbols i (0, d) low ∙ ap (λ (n : ℕ). (n, get_or file.object.symbols i d)) (zero-add i))

pub until_all : (file : LoadedFile) (i : ℕ) → length file.object.symbols ≤ i → until file i ≡ symbols_in file
unfolding until symbols_in
until_all file i past = ap (map (symbol_of file)) (take_all i (enumerate_from 0 file.object.symbols) (rw (length-enumerate_from 0 file.object.symbols) past))

-- those of files before a place
pub files_none : (files : List LoadedFile) → symbols_of (take 0 files) ≡ []
unfolding symbols_of
files_none files = refl

pub files_more : (files : List LoadedFile) (i : ℕ) (file : LoadedFile) → i < length files → file ≡ get_or files i file → symbols_of (take (i + 1) files) ≡ symbols_of (take i files) ++ symbols_in file
unfolding symbols_of
files_more files i file low is =
    ap symbols_of (take_more files i file low ∙ ap (λ (f : LoadedFile). take i files ++ f ∷ []) (sym is))
    ∙ flat_map-append symbols_in (take i files) (file ∷ [])
    ∙ ap (λ (fs : List FileSymbol). symbols_of (take i files) ++ fs) (append-nil (symbols_in file))

pub files_all : (files : List LoadedFile) (i : ℕ) → length files ≤ i → symbols_of (take i files) ≡ symbols_of files
files_all files i past = ap symbols_of (take_all i files past)

-- a symbol that stands nowhere
pub nothing : Symbol
nothing = record { name = []; kind = Passed; external = false; hidden = false; weak_def = false; weak_ref = false; no_strip = false; alt = false }
