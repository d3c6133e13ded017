-- The libraries that are chosen are whole, and their documents are among those of their files.
use Rattle.std.proofs.Common.{◌≡◌, ℕ, zero, suc, ◌+◌, ◌<◌, ◌≤◌, ◌⊎◌, ◌++◌, ◌∷◌, [], List, length, get_or, slice_get, All, Bool, true, false, Option, Some, None, Result, Ok, Err, IfOk, refl, sym, ap, ◌∙◌, subst, inl, inr, arith, tests, length-append}
use Rattle.std.specs.Prelude.{if◌then◌else◌, ◌&&◌, ◌^◌, nat_le, nat_lt}
use Rattle.std.proofs.lemmas.Bool.{and_parts}
use Rattle.std.proofs.lemmas.List.Elements.{All-nil, All-push, All-weaker}
use Rattle.std.proofs.lemmas.Option.{slice_get-get_or, slice_get_within}
use Rattle.command_line.specs.declared.command.Command.{Command}
use Rattle.command_line.specs.declared.command.CommandInput.{CommandInput}
use Rattle.mo_types.specs.declared.answer.Refusal.TheVariants as refusal
use Rattle.mo_types.specs.declared.cause.Which.TheVariants.{Libraries}
use Rattle.tbd_doc.specs.declared.stub.StubFile.{StubFile}
use Rattle.lib_bind.specs.Closing.{choose, choose_all, choose_as, chosen_of, install_of, library_of, no_input, with_library}
use Rattle.lib_bind.specs.Found.{found}
use Rattle.lib_bind.specs.Graph.{AreLibraries}
use Rattle.lib_bind.specs.Named.{are_named, has_documents, is_next}
use Rattle.lib_bind.specs.declared.bind_fault.BindFault.{BindFault}
use Rattle.lib_bind.specs.declared.bind_fault.BindFault.TheVariants as fault
use Rattle.lib_bind.specs.declared.choosing.Chosen.{Chosen}
use Rattle.lib_bind.specs.declared.library.Library.{Library}
use Rattle.lib_bind.specs.declared.named.NamedStub.{NamedStub}
use Rattle.lib_bind.specs.inner.Held.{AreHeads, total}
use Rattle.lib_bind.proofs.HeldLemmas.{heads_more}
use Rattle.lib_bind.proofs.TextLemmas.{then_holds}

some_same : {X : Type 0} (x y : X) → Some x ≡ Some y → x ≡ y
some_same x y is = cc

-- what a longer list has at an index
pushed : {X : Type 0} (xs : List X) (x : X) (at : ℕ) (y : X) → slice_get (xs ++ x ∷ []) at ≡ Some y → ((at < length xs) × (slice_get xs at ≡ Some y)) ⊎ ((at ≡ length xs) × (x ≡ y))
pushed [] x zero y is = inr (refl, some_same x y is)
pushed [] x (suc at) y is = absurd (cc)
pushed (z ∷ xs) x zero y is = inl (omega arith, is)
pushed (z ∷ xs) x (suc at) y is = by (pushed xs x at y is)
  where
    by : ((at < length xs) × (slice_get xs at ≡ Some y)) ⊎ ((at ≡ length xs) × (x ≡ y)) → ((suc at < length (z ∷ xs)) × (slice_get xs at ≡ Some y)) ⊎ ((suc at ≡ length (z ∷ xs)) × (x ≡ y))
    by (inl old) = inl (let low : at < length xs = old.0 in omega arith, old.1)
    by (inr new) = inr (let last : at ≡ length xs = new.0 in omega arith, new.1)

total_more : (files : List StubFile) (file : StubFile) → total (files ++ file ∷ []) ≡ total files + length file.docs
unfolding total
total_more [] file = omega arith
total_more (one ∷ files) file = let rest : total (files ++ file ∷ []) ≡ total files + length file.docs = total_more files file in omega (arith, rest)

-- libraries whose positions are below one
pub record IsChosen (least : ℕ) (chosen : Chosen) : Type 0 where
  pub count : total chosen.files ≡ chosen.documents
  pub heads_are : AreHeads chosen.documents chosen.heads
  pub within : All (λ library. library.document < chosen.documents) chosen.libraries
  pub ordinals : (at : ℕ) (library : Library) → slice_get chosen.libraries at ≡ Some library → library.ordinal ≡ at + 1
  pub rising : (i j : ℕ) (first second : Library) → i < j → slice_get chosen.libraries i ≡ Some first → slice_get chosen.libraries j ≡ Some second → first.position < second.position
  pub few : length chosen.libraries ≤ 240
  pub below : All (λ library. library.position < least) chosen.libraries

member : {X : Type 0} (P : X → Type 0) (xs : List X) (at : ℕ) (x : X) → All P xs → slice_get xs at ≡ Some x → P x
member {X = X} P xs at x all is =
    let low : at < length xs = slice_get_within xs at x is in
    let same : get_or xs at x ≡ x = some_same (get_or xs at x) x (sym (slice_get-get_or xs at x low) ∙ is) in
    subst P same (all at x low)

kept : (least more : ℕ) (chosen : Chosen) → least ≤ more → IsChosen least chosen → IsChosen more chosen
kept least more chosen low is = record {
  count = is.count;
  heads_are = is.heads_are;
  within = is.within;
  ordinals = is.ordinals;
  rising = is.rising;
  few = is.few;
  below = All-weaker (λ (library : Library). library.position < least) (λ (library : Library). library.position < more) (λ library below. omega (arith, low, below)) chosen.libraries is.below;
}

one_more : (least : ℕ) (input : CommandInput) (named : NamedStub) (chosen : Chosen) → least ≤ named.position → 0 < length named.file.docs → length chosen.libraries < 240 → IsChosen least chosen
    → IsChosen (named.position + 1) (with_library input named chosen)
one_more least input named chosen low some few is = record {
  count = total_more chosen.files named.file ∙ ap (λ n. n + length named.file.docs) is.count;
  heads_are = All-push (λ (pair : List ℕ × ℕ). pair.1 < chosen.documents + length named.file.docs) chosen.heads (install_of named, chosen.documents)
      (heads_more chosen.documents (chosen.documents + length named.file.docs) chosen.heads (omega arith) is.heads_are) (omega (arith, some));
  within = All-push (λ (one : Library). one.document < chosen.documents + length named.file.docs) chosen.libraries library
      (All-weaker (λ (one : Library). one.document < chosen.documents) (λ (one : Library). one.document < chosen.documents + length named.file.docs) (λ one inside. omega (arith, inside)) chosen.libraries is.within)
      (omega (arith, some));
  ordinals = λ at one there. ordinal at one (pushed chosen.libraries library at one there);
  rising = λ i j first second less one other. rises i j first second less (pushed chosen.libraries library i first one) (pushed chosen.libraries library j second other);
  few = omega (arith, few, length-append chosen.libraries (library ∷ []));
  below = All-push (λ (one : Library). one.position < named.position + 1) chosen.libraries library
      (All-weaker (λ (one : Library). one.position < least) (λ (one : Library). one.position < named.position + 1) (λ one inside. omega (arith, inside, low)) chosen.libraries is.below)
      (omega arith);
}
  where
    library : Library
    library = library_of input named chosen

    ordinal : (at : ℕ) (one : Library) → ((at < length chosen.libraries) × (slice_get chosen.libraries at ≡ Some one)) ⊎ ((at ≡ length chosen.libraries) × (library_of input named chosen ≡ one)) → one.ordinal ≡ at + 1
    ordinal at one (inl old) = is.ordinals at one old.1
    ordinal at one (inr new) = ap (λ (l : Library). l.ordinal) (sym new.1) ∙ ap (λ n. n + 1) (sym new.0)

    rises : (i j : ℕ) (first second : Library) → i < j → ((i < length chosen.libraries) × (slice_get chosen.libraries i ≡ Some first)) ⊎ ((i ≡ length chosen.libraries) × (library_of input named chosen ≡ first))
        → ((j < length chosen.libraries) × (slice_get chosen.libraries j ≡ Some second)) ⊎ ((j ≡ length chosen.libraries) × (library_of input named chosen ≡ second)) → first.position < second.position
    rises i j first second less (inl one) (inl other) = is.rising i j first second less one.1 other.1
    rises i j first second less (inl one) (inr other) =
        let before : first.position < least = member (λ (l : Library). l.position < least) chosen.libraries i first is.below one.1 in
        let same : named.position ≡ second.position = ap (λ (l : Library). l.position) other.1 in
        omega (arith, before, same, low)
    rises i j first second less (inr one) (inl other) = absurd (let last : i ≡ length chosen.libraries = one.0 in let inside : j < length chosen.libraries = other.0 in omega (arith, less, last, inside))
    rises i j first second less (inr one) (inr other) = absurd (let last : i ≡ length chosen.libraries = one.0 in let too : j ≡ length chosen.libraries = other.0 in omega (arith, less, last, too))

le_true : (a b : ℕ) → nat_le a b ≡ true → a ≤ b
le_true a b is = grind (arith, tests)

le_false : (a b : ℕ) → nat_le a b ≡ false → b < a
le_false a b is = grind (arith, tests)

pub lt_true : (a b : ℕ) → nat_lt a b ≡ true → a < b
lt_true a b is = grind (arith, tests)

chosen_by : (least : ℕ) (command : Command) (named : NamedStub) (known : Option ℕ) (chosen : Chosen) → least ≤ named.position → 0 < length named.file.docs → IsChosen least chosen
    → IfOk (choose_as command named known chosen) (IsChosen (named.position + 1))
chosen_by least command named (Some document) chosen low some is = kept least (named.position + 1) chosen (omega arith) is
chosen_by least command named None chosen low some is = by (nat_le 240 (length chosen.libraries)) refl
  where
    by : (test : Bool) → nat_le 240 (length chosen.libraries) ≡ test
        → IfOk {E = BindFault} (if test then Err (fault.Refused (refusal.Limit Libraries)) else Ok (with_library (get_or command.inputs named.position no_input) named chosen)) (IsChosen (named.position + 1))
    by true e = tt
    by false e = one_more least (get_or command.inputs named.position no_input) named chosen low some (le_false 240 (length chosen.libraries) e) is

next_chosen : (least : ℕ) (command : Command) (named : NamedStub) (chosen : Chosen) → least ≤ named.position → 0 < length named.file.docs → IsChosen least chosen → IfOk (choose command named chosen) (IsChosen (named.position + 1))
unfolding choose
next_chosen least command named chosen low some is = chosen_by least command named (found (install_of named) chosen.heads) chosen low some is

abbrev AreWhole : Chosen → Type 0
AreWhole chosen = AreHeads (total chosen.files) chosen.heads × AreLibraries (total chosen.files) chosen.libraries

whole_of : (least : ℕ) (chosen : Chosen) → IsChosen least chosen → AreWhole chosen
whole_of least chosen is = rw is.count (
  is.heads_are,
  record {
    within = λ at library there. member (λ (one : Library). one.document < chosen.documents) chosen.libraries at library is.within there;
    ordinals = is.ordinals;
    rising = is.rising;
    few = is.few;
  },
)

all_chosen : (inputs least : ℕ) (command : Command) (named : List NamedStub) (chosen : Chosen) → are_named inputs least named ≡ true → IsChosen least chosen → IfOk (choose_all command named chosen) AreWhole
all_chosen inputs least command [] chosen are is = whole_of least chosen is
all_chosen inputs least command (one ∷ rest) chosen are is =
    let parts = and_parts (is_next inputs least one) (are_named inputs (one.position + 1) rest) are in
    let first = and_parts (nat_le least one.position && nat_lt one.position inputs) (has_documents one) parts.0 in
    let some = and_parts (nat_lt 0 (length one.file.docs)) (nat_lt (length one.file.docs) (2 ^ 32)) first.1 in
    let second = and_parts (nat_le least one.position) (nat_lt one.position inputs) first.0 in
    then_holds (IsChosen (one.position + 1)) AreWhole (choose command one chosen) (choose_all command rest)
    (next_chosen least command one chosen (le_true least one.position second.0) (lt_true 0 (length one.file.docs) some.0) is)
    (λ next held. all_chosen inputs (one.position + 1) command rest next parts.1 held)

nothing_at : (at : ℕ) (library : Library) → slice_get [] at ≡ Some library → ⊥
nothing_at at library is = cc

none_chosen : IsChosen 0 (record { libraries = []; heads = []; files = []; documents = 0 })
unfolding total
none_chosen = record {
  count = refl;
  heads_are = All-nil (λ (pair : List ℕ × ℕ). pair.1 < 0);
  within = All-nil (λ (library : Library). library.document < 0);
  ordinals = λ at library is. absurd (nothing_at at library is);
  rising = λ i j first second less one other. absurd (nothing_at i first one);
  few = omega arith;
  below = All-nil (λ (library : Library). library.position < 0);
}

pub ok_holds : {A E : Type 0} (P : A → Type 0) (r : Result A E) (x : A) → r ≡ Ok x → IfOk r P → P x
ok_holds P r x is holds = subst (λ q. IfOk q P) is holds

pub whole_chosen : (inputs : ℕ) (command : Command) (named : List NamedStub) (chosen : Chosen) → are_named inputs 0 named ≡ true → chosen_of command named ≡ Ok chosen → AreWhole chosen
whole_chosen inputs command named chosen are is = ok_holds AreWhole (chosen_of command named) chosen is (all_chosen inputs 0 command named _ are none_chosen)
