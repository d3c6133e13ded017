-- Items and their spellings: the words are those of their items, and items are read back from their words.
use Rattle.std.proofs.Common.{◌≡◌, ℕ, zero, suc, ◌+◌, ◌⊎◌, inl, inr, ◌++◌, ◌∷◌, [], List, length, take, drop, get_or, map, Bool, true, false, cond, ◌&&◌, Option, Some, None, Ok, refl, sym, ap, ◌∙◌, subst, arith, append_assoc, length-append}
use Rattle.std.specs.Prelude.{bytes_eq}
use Rattle.std.specs.List.{find}
use Rattle.std.specs.Option.{option_map_or}
use Rattle.std.proofs.Math.Seq.{drop-nil, drop-append_seam}
use Rattle.std.proofs.lemmas.Grind.{common_steps}
use Rattle.std.proofs.lemmas.List.{take-append-drop, take_at}
use Rattle.std.proofs.lemmas.Slice.Eq.{bytes_eq-Decides}
use Rattle.command_line.specs.declared.command.Command.{Command}
use Rattle.mo_cmd.specs.declared.usage_fault.UsageFault.{UsageFault}
use Rattle.mo_cmd.specs.declared.options.CommandOption.{CommandOption}
use Rattle.mo_cmd.specs.declared.options.CommandOption.TheVariants as option
use Rattle.mo_cmd.specs.declared.parts.Part.{Part}
use Rattle.mo_cmd.specs.declared.parts.Rows.{Rows}
use Rattle.mo_cmd.specs.declared.values.Form.{Form}
use Rattle.mo_cmd.specs.declared.values.Form.TheVariants.{Separate, Attached, Whole}
use Rattle.mo_cmd.specs.Options.{name_of, values_of, options, option_named}
use Rattle.mo_cmd.specs.Parts.{has_nul, is_plain, is_attached, has, among, option_of, option_attached, parts_from, parts_of}
use Rattle.mo_cmd.specs.Items.{Item, form_of, value_of, values_by, spelled, spelling, spellings, item_of, items_of}
use Rattle.mo_cmd.specs.Command.{command_by, command_from, decided, line_fault, has_input, switches_of, numbers_of}
use Rattle.mo_cmd.specs.Laws.{has_count, first_word, AreSpelled, AreReadBack, AreConsumed, IsOfItems, HasDefaults}

-- What the option of a word says of the word

abbrev Says : Form → CommandOption → List ℕ → Type 0
Says Separate meant word = name_of meant ≡ word
Says Attached meant word = (name_of meant ++ drop (length (name_of meant)) word ≡ word) × (values_of meant ≡ 0)
Says Whole meant word = values_of meant ≡ 0

abbrev IsSaid : CommandOption → List ℕ → Type 0
IsSaid meant word = Says (form_of meant) meant word

abbrev AreSeparate : List CommandOption → Type 0
AreSeparate [] = Unit {0}
AreSeparate (each ∷ rest) = (form_of each ≡ Separate) × AreSeparate rest

all_separate : AreSeparate options
all_separate = (refl, (refl, (refl, (refl, (refl, (refl, (refl, (refl, (refl, (refl, (refl, (refl, (refl, (refl, (refl, (refl, (refl, (refl, (refl, (refl, (refl, (refl, (refl, (refl, (refl, (refl, (refl, (refl, (refl, (refl, (refl, (refl, (refl, (refl, (refl, (refl, (refl, (refl, (refl, (refl, (refl, (refl, (refl, (refl, (refl, (refl, tt))))))))))))))))))))))))))))))))))))))))))))))

found_step : (test : Bool) (each : CommandOption) (found : Option CommandOption) (word : List ℕ) (meant : CommandOption) → bytes_eq (name_of each) word ≡ test → form_of each ≡ Separate
    → (found ≡ Some meant → IsSaid meant word) → cond test (Some each) found ≡ Some meant → IsSaid meant word
found_step true each found word meant same separate later is =
    let e : each ≡ meant = cc in
    subst (λ (o : CommandOption). IsSaid o word) e (subst (λ (f : Form). Says f each word) (sym separate) ((bytes_eq-Decides (name_of each) word).0 same))
found_step false each found word meant same separate later is = later is

found_says : (those : List CommandOption) (word : List ℕ) (meant : CommandOption) → AreSeparate those → find (λ each. bytes_eq (name_of each) word) those ≡ Some meant → IsSaid meant word
found_says [] word meant separate is = cc
found_says (each ∷ rest) word meant separate is =
    found_step (bytes_eq (name_of each) word) each (find (λ o. bytes_eq (name_of o) word) rest) word meant refl separate.0 (found_says rest word meant separate.1) is

named_says : (word : List ℕ) (meant : CommandOption) → option_named word ≡ Some meant → IsSaid meant word
unfolding option_named
named_says word meant is = found_says options word meant all_separate is

second_true : (a b : Bool) → (a && b) ≡ true → b ≡ true
second_true a b both = grind (arith, common_steps)

begins : (meant : CommandOption) (word : List ℕ) → is_attached meant word ≡ true → name_of meant ++ drop (length (name_of meant)) word ≡ word
begins meant word attached =
    let same : bytes_eq (name_of meant) (take (length (name_of meant)) word) ≡ true = second_true _ _ attached in
    ap (λ front. front ++ drop (length (name_of meant)) word) ((bytes_eq-Decides (name_of meant) (take (length (name_of meant)) word)).0 same) ∙ take-append-drop (length (name_of meant)) word

pick : (test : Bool) (meant other : CommandOption) (word : List ℕ) → (test ≡ true → IsSaid meant word) → IsSaid other word → IsSaid (cond test meant other) word
pick true meant other word said rest = said refl
pick false meant other word said rest = rest

attached_says : (word : List ℕ) → IsSaid (option_attached word) word
attached_says word =
    pick (is_attached option.LibraryDir word) option.LibraryDir _ word (λ is. (begins option.LibraryDir word is, refl))
    (pick (is_attached option.FrameworkDir word) option.FrameworkDir _ word (λ is. (begins option.FrameworkDir word is, refl))
    (pick (is_attached option.Library word) option.Library _ word (λ is. (begins option.Library word is, refl))
    (pick (is_attached option.WeakLibraryNamed word) option.WeakLibraryNamed _ word (λ is. (begins option.WeakLibraryNamed word is, refl))
    (pick (is_attached option.ReexportLibraryNamed word) option.ReexportLibraryNamed option.Unknown word (λ is. (begins option.ReexportLibraryNamed word is, refl)) refl))))

either_says : (named : Option CommandOption) (word : List ℕ) → ((meant : CommandOption) → named ≡ Some meant → IsSaid meant word) → IsSaid (option_map_or (λ meant. meant) named (option_attached word)) word
either_says None word says = attached_says word
either_says (Some meant) word says = says meant refl

option_says : (word : List ℕ) → IsSaid (option_of word) word
unfolding option_of
option_says word =
    pick (has_nul word) option.Unknown _ word (λ _. refl)
    (pick (is_plain word) option.Path (option_map_or (λ meant. meant) (option_named word) (option_attached word)) word (λ _. refl) (either_says (option_named word) word (named_says word)))

among_says : (rows : Rows) (meant : CommandOption) (word : List ℕ) → IsSaid meant word → IsSaid (among rows meant) word
among_says rows meant word said = pick (has rows meant) meant option.Unknown word (λ _. said) refl

-- The words are those of their items

spelled_back : (form : Form) (meant : CommandOption) (word : List ℕ) (rest : List (List ℕ)) → Says form meant word
    → spelled form (name_of meant) (values_by form meant word (take (values_of meant) rest)) ++ drop (values_of meant) rest ≡ word ∷ rest
spelled_back Separate meant word rest said =
    ap (λ (w : List ℕ). w ∷ (take (values_of meant) rest ++ drop (values_of meant) rest)) said ∙ ap (λ (xs : List (List ℕ)). word ∷ xs) (take-append-drop (values_of meant) rest)
spelled_back Attached meant word rest said =
    ap (λ (w : List ℕ). w ∷ drop (values_of meant) rest) said.0 ∙ ap (λ (n : ℕ). word ∷ drop n rest) said.1
spelled_back Whole meant word rest said = ap (λ (n : ℕ). word ∷ drop n rest) said

-- the word at a place and those after it
at_place : (words : List (List ℕ)) (at : ℕ) (word : List ℕ) (rest : List (List ℕ)) → word ∷ rest ≡ drop at words → (get_or words at [] ≡ word) × (drop (at + 1) words ≡ rest)
at_place [] at word rest is = let none : word ∷ rest ≡ [] = is ∙ drop-nil at in cc
at_place (first ∷ others) zero word rest is = let e : word ∷ rest ≡ first ∷ others = is in (cc, cc)
at_place (first ∷ others) (suc at) word rest is =
    let one : suc at + 1 ≡ suc (at + 1) = omega arith in
    let later : (get_or others at [] ≡ word) × (drop (at + 1) others ≡ rest) = at_place others at word rest is in
    (later.0, ap (λ (n : ℕ). drop n (first ∷ others)) one ∙ later.1)

consumed_from : (rows : Rows) (words : List (List ℕ)) (at skipped : ℕ) (rest : List (List ℕ)) → rest ≡ drop at words → spellings (map (item_of words) (parts_from rows at skipped rest)) ≡ drop skipped rest
consumed_from rows words at zero [] is = refl
consumed_from rows words at (suc skipped) [] is = refl
consumed_from rows words at (suc skipped) (word ∷ rest) is = consumed_from rows words (at + 1) skipped rest (sym (at_place words at word rest is).1)
consumed_from rows words at zero (word ∷ rest) is =
    let meant : CommandOption = among rows (option_of word) in
    let part : Part = record { option = meant; at = at } in
    let place : (get_or words at [] ≡ word) × (drop (at + 1) words ≡ rest) = at_place words at word rest is in
    let head : spelling (item_of words part) ≡ spelled (form_of meant) (name_of meant) (values_by (form_of meant) meant word (take (values_of meant) rest)) =
    ap (λ (w : List ℕ). spelled (form_of meant) (name_of meant) (values_by (form_of meant) meant w (take (values_of meant) (drop (at + 1) words)))) place.0
    ∙ ap (λ (xs : List (List ℕ)). spelled (form_of meant) (name_of meant) (values_by (form_of meant) meant word (take (values_of meant) xs))) place.1 in
    ap (λ (xs : List (List ℕ)). spelling (item_of words part) ++ xs) (consumed_from rows words (at + 1) (values_of meant) rest (sym place.1))
    ∙ ap (λ (xs : List (List ℕ)). xs ++ drop (values_of meant) rest) head ∙ spelled_back (form_of meant) meant word rest (among_says rows (option_of word) word (option_says word))

pub consumed : (rows : Rows) → AreConsumed rows
unfolding parts_of
consumed rows words = consumed_from rows words 0 0 words refl

-- Items are read back from their words

no_values : (meant : CommandOption) → (form_of meant ≡ Separate) ⊎ (values_of meant ≡ 0)
no_values option.Execute = inl refl
no_values option.Dylib = inl refl
no_values option.Output = inl refl
no_values option.Arch = inl refl
no_values option.PlatformVersion = inl refl
no_values option.Entry = inl refl
no_values option.Root = inl refl
no_values option.Flat = inl refl
no_values option.Undefined = inl refl
no_values option.Syslibroot = inl refl
no_values option.Framework = inl refl
no_values option.WeakFramework = inl refl
no_values option.ReexportFramework = inl refl
no_values option.WeakLibrary = inl refl
no_values option.ReexportLibrary = inl refl
no_values option.ForceLoad = inl refl
no_values option.AllLoad = inl refl
no_values option.DeadStrip = inl refl
no_values option.InstallName = inl refl
no_values option.DylibInstallName = inl refl
no_values option.CurrentVersion = inl refl
no_values option.DylibCurrentVersion = inl refl
no_values option.CompatibilityVersion = inl refl
no_values option.DylibCompatibilityVersion = inl refl
no_values option.Rpath = inl refl
no_values option.ExportedSymbolsList = inl refl
no_values option.ExportedSymbol = inl refl
no_values option.UnexportedSymbolsList = inl refl
no_values option.UnexportedSymbol = inl refl
no_values option.Map = inl refl
no_values option.Headerpad = inl refl
no_values option.Threads = inl refl
no_values option.BranchReach = inl refl
no_values option.Generate = inl refl
no_values option.Icf = inl refl
no_values option.Demangle = inl refl
no_values option.Dynamic = inl refl
no_values option.NoDeduplicate = inl refl
no_values option.AdhocCodesign = inl refl
no_values option.FixupChains = inl refl
no_values option.NoFixupChains = inl refl
no_values option.Pie = inl refl
no_values option.SearchPathsFirst = inl refl
no_values option.HeaderpadMaxInstallNames = inl refl
no_values option.LtoLibrary = inl refl
no_values option.Mllvm = inl refl
no_values option.LibraryDir = inr refl
no_values option.FrameworkDir = inr refl
no_values option.Library = inr refl
no_values option.WeakLibraryNamed = inr refl
no_values option.ReexportLibraryNamed = inr refl
no_values option.Path = inr refl
no_values option.Unknown = inr refl

-- the first word of a spelling, the words after it, and the values that they give back
record IsHead (form : Form) (meant : CommandOption) (values : List (List ℕ)) (word : List ℕ) (others : List (List ℕ)) : Type 0 where
  pub words : spelled form (name_of meant) values ≡ word ∷ others
  pub long : length others ≡ values_of meant
  pub back : values_by form meant word others ≡ values

none_where : (meant : CommandOption) (form : Form) → form_of meant ≡ form → (form ≡ Separate → ⊥) → values_of meant ≡ 0
none_where meant form is other = elim (no_values meant) [ inl separate ↦ absurd (other (sym is ∙ separate)) | inr none ↦ none ]

head_by : (form : Form) (meant : CommandOption) (values : List (List ℕ)) → form_of meant ≡ form → has_count form (values_of meant) values
    → IsHead form meant values (value_of (spelled form (name_of meant) values)) (drop 1 (spelled form (name_of meant) values))
head_by Separate meant values is count = record { words = refl; long = count; back = refl }
head_by Attached meant [] is count = absurd (omega arith)
head_by Attached meant (value ∷ []) is count = record {
  words = refl;
  long = sym (none_where meant Attached is (λ same. cc));
  back = ap (λ (v : List ℕ). v ∷ []) (drop-append_seam (name_of meant) value);
}
head_by Attached meant (value ∷ other ∷ more) is count = absurd (omega arith)
head_by Whole meant [] is count = absurd (omega arith)
head_by Whole meant (value ∷ []) is count = record { words = refl; long = sym (none_where meant Whole is (λ same. cc)); back = refl }
head_by Whole meant (value ∷ other ∷ more) is count = absurd (omega arith)

skip : (rows : Rows) (at : ℕ) (values rest : List (List ℕ)) → parts_from rows at (length values) (values ++ rest) ≡ parts_from rows (at + length values) zero rest
skip rows at [] rest = let e : at ≡ at + 0 = omega arith in ap (λ (n : ℕ). parts_from rows n zero rest) e
skip rows at (value ∷ values) rest =
    let e : at + 1 + length values ≡ at + suc (length values) = omega arith in
    skip rows (at + 1) values rest ∙ ap (λ (n : ℕ). parts_from rows n zero rest) e

abbrev with_values : CommandOption → List (List ℕ) → Item
with_values meant values = record { option = meant; values = values }

abbrev made : CommandOption → List ℕ → List (List ℕ) → Item
made meant word rest = with_values meant (values_by (form_of meant) meant word (take (values_of meant) rest))

back_from : (rows : Rows) (words front : List (List ℕ)) (items : List Item) → AreSpelled rows items → words ≡ front ++ spellings items
    → map (item_of words) (parts_from rows (length front) zero (spellings items)) ≡ items
back_from rows words front [] are is = refl
back_from rows words front (item ∷ items) are is =
    let meant : CommandOption = item.option in
    let word : List ℕ = first_word item in
    let others : List (List ℕ) = drop 1 (spelling item) in
    let rest : List (List ℕ) = spellings items in
    let at : ℕ = length front in
    let read : CommandOption = among rows (option_of (first_word item)) in
    let means : among rows (option_of (first_word item)) ≡ item.option = are.0.means in
    let head : IsHead (form_of item.option) item.option item.values (first_word item) (drop 1 (spelling item)) = head_by (form_of item.option) item.option item.values refl are.0.count in
    let whole : words ≡ front ++ (word ∷ (others ++ rest)) = is ∙ ap (λ (xs : List (List ℕ)). front ++ (xs ++ rest)) head.words in
    let place : (get_or words at [] ≡ word) × (drop (at + 1) words ≡ others ++ rest) =
    at_place words at word (others ++ rest) (sym (ap (drop at) whole ∙ drop-append_seam front (word ∷ (others ++ rest)))) in
    let part : Part = record { option = read; at = at } in
    let long : at + 1 + length others ≡ length (front ++ spelling item) = omega (arith, length-append front (spelling item), ap length head.words) in
    let tail : parts_from rows (at + 1) (values_of read) (others ++ rest) ≡ parts_from rows (length (front ++ spelling item)) zero rest =
    ap (λ (n : ℕ). parts_from rows (at + 1) n (others ++ rest)) (ap values_of means ∙ sym head.long) ∙ skip rows (at + 1) others rest ∙ ap (λ (n : ℕ). parts_from rows n zero rest) long in
    let parts : parts_from rows at zero (spellings (item ∷ items)) ≡ part ∷ parts_from rows (length (front ++ spelling item)) zero rest =
    ap (λ (xs : List (List ℕ)). parts_from rows at zero (xs ++ rest)) head.words ∙ ap (λ (ps : List Part). part ∷ ps) tail in
    let same : item_of words part ≡ item =
    ap (λ (o : CommandOption). made o (get_or words at []) (drop (at + 1) words)) means ∙ ap (λ (w : List ℕ). made meant w (drop (at + 1) words)) place.0
    ∙ ap (λ (xs : List (List ℕ)). made meant word xs) place.1
    ∙ ap (λ (values : List (List ℕ)). with_values item.option values) (ap (values_by (form_of item.option) item.option word) (take_at others rest (values_of item.option) head.long) ∙ head.back) in
    ap (map (item_of words)) parts ∙ ap (λ (each : Item). each ∷ map (item_of words) (parts_from rows (length (front ++ spelling item)) zero rest)) same
    ∙ ap (λ (more : List Item). item ∷ more) (back_from rows words (front ++ spelling item) items are.1 (is ∙ sym (append_assoc front (spelling item) rest)))

pub read_back : (rows : Rows) → AreReadBack rows
unfolding parts_of
read_back rows items are = back_from rows (spellings items) [] items are refl

-- The command is that of the items

decided_ok : (fault : Option UsageFault) (made command : Command) → decided fault made ≡ Ok command → command ≡ made
decided_ok None made command is = cc
decided_ok (Some fault) made command is = cc

pub of_items : (rows : Rows) → IsOfItems rows
unfolding command_by
of_items rows words command is =
    decided_ok (line_fault words (parts_of rows words) (switches_of (items_of rows words)) (numbers_of (items_of rows words)) (has_input (items_of rows words))) (command_from (items_of rows words)) command is

pub defaults : (path : List ℕ) → HasDefaults path
unfolding command_from
defaults path = refl
