-- What is chosen of the symbols of files, one after the other.
use Rattle.std.proofs.Common.{◌≡◌, ℕ, ◌+◌, ◌<◌, ◌≤◌, List, [], ◌∷◌, ◌++◌, length, take, get_or, sym, ap, ◌∙◌, append_assoc, append-nil, Option, Some, None}
use Rattle.std.specs.List.{filter_map}
use Rattle.std.proofs.lemmas.List.Elements.{filter_map-append}
use Rattle.mo_types.specs.declared.loaded.LoadedFile.{LoadedFile}
use Rattle.mo_types.specs.declared.object.Symbol.{Symbol}
use Rattle.sym_out.specs.Files.{FileSymbol, symbols_in, symbols_of}
use Rattle.sym_out.proofs.Filed.{files_all, files_more, files_none, until, until_all, until_more, until_none}
use Rattle.sym_out.proofs.Loops.{head_none, head_some}

pub own_starts : {Y : Type 0} (f : FileSymbol → Option Y) (old : List Y) (file : LoadedFile) → old ≡ old ++ filter_map f (until file 0)
own_starts {Y} f old file = sym (append-nil old) ∙ ap (λ (s : List FileSymbol). old ++ filter_map f s) (sym (until_none file))

more : {Y : Type 0} (f : FileSymbol → Option Y) (old : List Y) (file : LoadedFile) (i : ℕ) (d : Symbol) (ys : List Y) → i < length file.object.symbols → filter_map f ((record { file = file; index = i; symbol = get_or file.object.symbols i d }) ∷ []) ≡ ys → (old ++ filter_map f (until file i)) ++ ys ≡ old ++ filter_map f (until file (i + 1))
more {Y} f old file i d ys low gives =
    append_assoc old (filter_map f (until file i)) ys
    ∙ ap (λ (z : List Y). old ++ (filter_map f (until file i) ++ z)) (sym gives)
    ∙ ap (λ (z : List Y). old ++ z) (sym (filter_map-append f (until file i) ((record { file = file; index = i; symbol = get_or file.object.symbols i d }) ∷ [])))
    ∙ ap (λ (s : List FileSymbol). old ++ filter_map f s) (sym (until_more file i d low))

pub own_adds : {Y : Type 0} (f : FileSymbol → Option Y) (old now new : List Y) (file : LoadedFile) (i : ℕ) (d : Symbol) (y : Y) → i < length file.object.symbols → now ≡ old ++ filter_map f (until file i) → f (record { file = file; index = i; symbol = get_or file.object.symbols i d }) ≡ Some y → new ≡ now ++ y ∷ [] → new ≡ old ++ filter_map f (until file (i + 1))
own_adds {Y} f old now new file i d y low before gives e =
    e ∙ ap (λ (z : List Y). z ++ y ∷ []) before
    ∙ more f old file i d (y ∷ []) low (head_some f (record { file = file; index = i; symbol = get_or file.object.symbols i d }) [] y gives)

pub own_passes : {Y : Type 0} (f : FileSymbol → Option Y) (old now : List Y) (file : LoadedFile) (i : ℕ) (d : Symbol) → i < length file.object.symbols → now ≡ old ++ filter_map f (until file i) → f (record { file = file; index = i; symbol = get_or file.object.symbols i d }) ≡ None → now ≡ old ++ filter_map f (until file (i + 1))
own_passes {Y} f old now file i d low before gives =
    before ∙ sym (append-nil (old ++ filter_map f (until file i)))
    ∙ more f old file i d [] low (head_none f (record { file = file; index = i; symbol = get_or file.object.symbols i d }) [] gives)

pub own_ends : {Y : Type 0} (f : FileSymbol → Option Y) (old now : List Y) (file : LoadedFile) (i : ℕ) → length file.object.symbols ≤ i → now ≡ old ++ filter_map f (until file i) → now ≡ old ++ filter_map f (symbols_in file)
own_ends {Y} f old now file i past before = before ∙ ap (λ (s : List FileSymbol). old ++ filter_map f s) (until_all file i past)

pub all_start : {Y : Type 0} (f : FileSymbol → Option Y) (now : List Y) (files : List LoadedFile) → now ≡ [] → now ≡ filter_map f (symbols_of (take 0 files))
all_start f now files none = none ∙ ap (filter_map f) (sym (files_none files))

pub all_go_on : {Y : Type 0} (f : FileSymbol → Option Y) (now new : List Y) (files : List LoadedFile) (i : ℕ) (file : LoadedFile) → i < length files → file ≡ get_or files i file → now ≡ filter_map f (symbols_of (take i files)) → new ≡ now ++ filter_map f (symbols_in file) → new ≡ filter_map f (symbols_of (take (i + 1) files))
all_go_on {Y} f now new files i file low is before e =
    e ∙ ap (λ (z : List Y). z ++ filter_map f (symbols_in file)) before
    ∙ sym (filter_map-append f (symbols_of (take i files)) (symbols_in file))
    ∙ ap (filter_map f) (sym (files_more files i file low is))

pub all_end : {Y : Type 0} (f : FileSymbol → Option Y) (now : List Y) (files : List LoadedFile) (i : ℕ) → length files ≤ i → now ≡ filter_map f (symbols_of (take i files)) → now ≡ filter_map f (symbols_of files)
all_end f now files i past before = before ∙ ap (filter_map f) (files_all files i past)
