-- A re-exported library that is there has its install name.
use Rattle.std.proofs.Common.{◌≡◌, ℕ, zero, suc, ◌+◌, ◌<◌, ◌++◌, ◌∷◌, [], List, length, map, get_or, slice_get, Contains, Bool, true, false, Option, Some, None, Ok, Err, IfOk, refl, sym, ap, ◌∙◌, subst, arith, append_assoc, bytes_eq, cond, length-append}
use Rattle.std.specs.Prelude.{if◌then◌else◌, ◌&&◌, ◌^◌, nat_le, nat_lt}
use Rattle.std.specs.List.{AllByRecursion}
use Rattle.std.proofs.lemmas.Bool.{and_parts}
use Rattle.std.proofs.lemmas.List.{append-nil}
use Rattle.std.proofs.lemmas.Option.{slice_get-get_or}
use Rattle.std.proofs.lemmas.Slice.Eq.{bytes_eq-Decides}
use Rattle.list_lemmas.proofs.Members.{all_in, all_weaker, in_from_Contains}
use Rattle.command_line.specs.declared.command.Command.{Command}
use Rattle.command_line.specs.declared.command.CommandInput.{CommandInput}
use Rattle.file_cache.specs.Program.{File}
use Rattle.mo_types.specs.Scan.{option_or_else}
use Rattle.mo_types.specs.declared.answer.Refusal.TheVariants as refusal
use Rattle.mo_types.specs.declared.cause.Which.TheVariants.{Libraries}
use Rattle.tbd_doc.specs.declared.stub.Stub.{Stub}
use Rattle.tbd_doc.specs.declared.stub.StubFile.{StubFile}
use Rattle.lib_bind.specs.Closing.{begun, choose, choose_all, choose_as, chosen_of, install_of, no_input, nothing, place_in, reexport_by, reexports_of, with_file, with_files, with_known, with_library, with_link}
use Rattle.lib_bind.specs.Closure.{Bound, bound_after}
use Rattle.lib_bind.specs.Found.{found}
use Rattle.lib_bind.specs.Links.{HasName}
use Rattle.lib_bind.specs.Named.{are_named, has_documents, is_next}
use Rattle.lib_bind.specs.Provides.{no_document}
use Rattle.lib_bind.specs.declared.bind_fault.BindFault.{BindFault}
use Rattle.lib_bind.specs.declared.bind_fault.BindFault.TheVariants as fault
use Rattle.lib_bind.specs.declared.choosing.Chosen.{Chosen}
use Rattle.lib_bind.specs.declared.closing.Closing.{Closing}
use Rattle.lib_bind.specs.declared.growing.Growing.{Growing}
use Rattle.lib_bind.specs.declared.growing.Reexport.{Reexport}
use Rattle.lib_bind.specs.declared.named.NamedStub.{NamedStub}
use Rattle.lib_bind.proofs.ChosenLemmas.{lt_true, ok_holds}
use Rattle.lib_bind.proofs.EndLemmas.{closed_of, made_of, start_of}
use Rattle.lib_bind.proofs.StayLemmas.{after_stays}
use Rattle.lib_bind.proofs.StepLemmas.{all_growing}
use Rattle.lib_bind.proofs.TextLemmas.{then_holds}

some_same : {X : Type 0} (x y : X) → Some x ≡ Some y → x ≡ y
some_same x y is = cc

-- ---- documents that have install names

slice_more : {X : Type 0} (xs ys : List X) (at : ℕ) (x : X) → slice_get xs at ≡ Some x → slice_get (xs ++ ys) at ≡ Some x
slice_more [] ys at x is = absurd (cc)
slice_more (y ∷ xs) ys zero x is = is
slice_more (y ∷ xs) ys (suc at) x is = slice_more xs ys at x is

slice_behind : {X : Type 0} (xs ys : List X) (at : ℕ) → slice_get (xs ++ ys) (length xs + at) ≡ slice_get ys at
slice_behind [] ys at = let same : 0 + at ≡ at = omega arith in ap (slice_get ys) same
slice_behind (x ∷ xs) ys at = let same : suc (length xs) + at ≡ suc (length xs + at) = omega arith in ap (slice_get (x ∷ (xs ++ ys))) same ∙ slice_behind xs ys at

name_more : (documents more : List Stub) (number : ℕ) (install : List ℕ) → HasName documents number install → HasName (documents ++ more) number install
name_more documents more number install has = record { document = has.document; there = slice_more documents more number has.document has.there; named = has.named }

abbrev AreHeaded : List Stub → List (List ℕ × ℕ) → Type 0
AreHeaded documents heads = AllByRecursion (λ pair. HasName documents pair.1 pair.0) heads

heads_more_named : (documents more : List Stub) (heads : List (List ℕ × ℕ)) → AreHeaded documents heads → AreHeaded (documents ++ more) heads
heads_more_named documents more heads are =
    all_weaker (λ (pair : List ℕ × ℕ). HasName documents pair.1 pair.0) (λ (pair : List ℕ × ℕ). HasName (documents ++ more) pair.1 pair.0) (λ pair has. name_more documents more pair.1 pair.0 has) heads are

same_name : (a b : List ℕ) → bytes_eq a b ≡ true → b ≡ a
same_name a b is = sym ((bytes_eq-Decides a b).0 is)

found_named : (documents : List Stub) (install : List ℕ) (heads : List (List ℕ × ℕ)) (number : ℕ) → AreHeaded documents heads → found install heads ≡ Some number → HasName documents number install
found_named documents install [] number are is = absurd (cc)
found_named documents install (pair ∷ heads) number are is = by (bytes_eq install pair.0) refl is (found_named documents install heads number are.1)
  where
    by : (test : Bool) → bytes_eq install pair.0 ≡ test → cond test (Some pair.1) (found install heads) ≡ Some number → (found install heads ≡ Some number → HasName documents number install) → HasName documents number install
    by true e same rest =
        subst (λ (n : ℕ). HasName documents n install) (some_same pair.1 number same) (subst (λ (name : List ℕ). HasName documents pair.1 name) (same_name install pair.0 e) are.0)
    by false e same rest = rest same

-- the document of a file that has an install name
record IsPlace (first : ℕ) (stubs : List Stub) (install : List ℕ) (number : ℕ) : Type 0 where
  at : ℕ
  place : first + at ≡ number
  has : HasName stubs at install

place_named : (first : ℕ) (stubs : List Stub) (install : List ℕ) (number : ℕ) → place_in first stubs install ≡ Some number → IsPlace first stubs install number
place_named first [] install number is = absurd (cc)
place_named first (stub ∷ stubs) install number is = by (bytes_eq install stub.install) refl is (place_named (first + 1) stubs install number)
  where
    by : (test : Bool) → bytes_eq install stub.install ≡ test → (if test then Some first else place_in (first + 1) stubs install) ≡ Some number
        → (place_in (first + 1) stubs install ≡ Some number → IsPlace (first + 1) stubs install number) → IsPlace first (stub ∷ stubs) install number
    by true e same rest =
        let here : first ≡ number = some_same first number same in
        record { at = 0; place = omega (arith, here); has = record { document = stub; there = refl; named = same_name install stub.install e } }
    by false e same rest =
        let later : IsPlace (first + 1) stubs install number = rest same in
        let place : first + 1 + later.at ≡ number = later.place in
        record { at = suc later.at; place = omega (arith, place); has = record { document = later.has.document; there = later.has.there; named = later.has.named } }

-- ---- what documents re-export

abbrev IsNear : List Stub → Reexport → Type 0
IsNear documents reexport = (number : ℕ) → reexport.here ≡ Some number → HasName documents number reexport.install

abbrev AreNear : List Stub → List Reexport → Type 0
AreNear documents reexports = AllByRecursion (IsNear documents) reexports

abbrev AreAllNear : List Stub → List (List Reexport) → Type 0
AreAllNear documents all = AllByRecursion (AreNear documents) all

near_more : (documents more : List Stub) (all : List (List Reexport)) → AreAllNear documents all → AreAllNear (documents ++ more) all
near_more documents more all near =
    all_weaker (AreNear documents) (AreNear (documents ++ more))
    (λ reexports are. all_weaker (IsNear documents) (IsNear (documents ++ more)) (λ reexport is number here. name_more documents more number reexport.install (is number here)) reexports are) all near

near_append : (documents : List Stub) (xs ys : List (List Reexport)) → AreAllNear documents xs → AreAllNear documents ys → AreAllNear documents (xs ++ ys)
near_append documents [] ys near also = also
near_append documents (x ∷ xs) ys near also = (near.0, near_append documents xs ys near.1 also)

either_named : (documents : List Stub) (install : List ℕ) (near head : Option ℕ) (number : ℕ) → ((n : ℕ) → near ≡ Some n → HasName documents n install) → ((n : ℕ) → head ≡ Some n → HasName documents n install)
    → option_or_else near head ≡ Some number → HasName documents number install
either_named documents install (Some n) head number one other is = one number is
either_named documents install None head number one other is = other number is

module _ (heads : List (List ℕ × ℕ)) (front stubs rest all : List Stub) (is : all ≡ (front ++ stubs) ++ rest) (are : AreHeaded all heads) where
  one_near : (install : List ℕ) → IsNear all (reexport_by (place_in (length front) stubs install) (found install heads) install)
  one_near install number here =
      either_named all install (place_in (length front) stubs install) (found install heads) number
      (λ n there.
      let at : IsPlace (length front) stubs install n = place_named (length front) stubs install n there in
      subst (λ (documents : List Stub). HasName documents n install) (sym is)
      (name_more (front ++ stubs) rest n install (record {
        document = at.has.document;
        there = ap (slice_get (front ++ stubs)) (sym at.place) ∙ slice_behind front stubs at.at ∙ at.has.there;
        named = at.has.named;
      })))
      (λ n there. found_named all install heads n are there) here

  names_near : (names : List (List ℕ)) → AreNear all (map (λ install. reexport_by (place_in (length front) stubs install) (found install heads) install) names)
  names_near [] = tt
  names_near (install ∷ names) = (one_near install, names_near names)

  stubs_near : (some : List Stub) → AreAllNear all (map (reexports_of heads (length front) stubs) some)
  stubs_near [] = tt
  stubs_near (stub ∷ some) = (names_near stub.reexports, stubs_near some)

file_near : (heads : List (List ℕ × ℕ)) (stubs rest all : List Stub) (growing : Growing) → all ≡ (growing.documents ++ stubs) ++ rest → AreHeaded all heads → AreAllNear all growing.reexports → AreAllNear all (with_file heads stubs growing).reexports
unfolding with_file
file_near heads stubs rest all growing is are near = near_append all growing.reexports (map (reexports_of heads (length growing.documents) stubs) stubs) near (stubs_near heads growing.documents stubs rest all is are stubs)

file_documents : (heads : List (List ℕ × ℕ)) (stubs : List Stub) (growing : Growing) → (with_file heads stubs growing).documents ≡ growing.documents ++ stubs
unfolding with_file
file_documents heads stubs growing = refl

-- ---- the libraries that are chosen

abbrev docs_of : List StubFile → List Stub
docs_of [] = []
docs_of (file ∷ files) = file.docs ++ docs_of files

docs_more : (files : List StubFile) (file : StubFile) → docs_of (files ++ file ∷ []) ≡ docs_of files ++ file.docs
docs_more [] file = append-nil file.docs
docs_more (one ∷ files) file = ap (λ (rest : List Stub). one.docs ++ rest) (docs_more files file) ∙ sym (append_assoc one.docs (docs_of files) file.docs)

record HasHeads (chosen : Chosen) : Type 0 where
  count : length (docs_of chosen.files) ≡ chosen.documents
  named : AreHeaded (docs_of chosen.files) chosen.heads

heads_push : (documents : List Stub) (heads : List (List ℕ × ℕ)) (pair : List ℕ × ℕ) → AreHeaded documents heads → HasName documents pair.1 pair.0 → AreHeaded documents (heads ++ pair ∷ [])
heads_push documents [] pair are has = (has, tt)
heads_push documents (one ∷ heads) pair are has = (are.0, heads_push documents heads pair are.1 has)

more_heads : (input : CommandInput) (named : NamedStub) (chosen : Chosen) → 0 < length named.file.docs → HasHeads chosen → HasHeads (with_library input named chosen)
more_heads input named chosen some has =
    let place : length (docs_of chosen.files) + 0 ≡ chosen.documents = (let count : length (docs_of chosen.files) ≡ chosen.documents = has.count in omega (arith, count)) in
    record {
      count = ap length (docs_more chosen.files named.file) ∙ length-append (docs_of chosen.files) named.file.docs ∙ ap (λ n. n + length named.file.docs) has.count;
      named = subst (λ (documents : List Stub). AreHeaded documents (chosen.heads ++ (install_of named, chosen.documents) ∷ [])) (sym (docs_more chosen.files named.file))
          (heads_push (docs_of chosen.files ++ named.file.docs) chosen.heads (install_of named, chosen.documents) (heads_more_named (docs_of chosen.files) named.file.docs chosen.heads has.named) (record {
            document = get_or named.file.docs 0 no_document;
            there = ap (slice_get (docs_of chosen.files ++ named.file.docs)) (sym place) ∙ slice_behind (docs_of chosen.files) named.file.docs 0 ∙ slice_get-get_or named.file.docs 0 no_document some;
            named = refl;
          }));
    }

choose_heads : (command : Command) (named : NamedStub) (known : Option ℕ) (chosen : Chosen) → 0 < length named.file.docs → HasHeads chosen → IfOk (choose_as command named known chosen) HasHeads
choose_heads command named (Some document) chosen some has = has
choose_heads command named None chosen some has = by (nat_le 240 (length chosen.libraries))
  where
    by : (test : Bool) → IfOk {E = BindFault} (if test then Err (fault.Refused (refusal.Limit Libraries)) else Ok (with_library (get_or command.inputs named.position no_input) named chosen)) HasHeads
    by true = tt
    by false = more_heads (get_or command.inputs named.position no_input) named chosen some has

next_heads : (command : Command) (named : NamedStub) (chosen : Chosen) → 0 < length named.file.docs → HasHeads chosen → IfOk (choose command named chosen) HasHeads
unfolding choose
next_heads command named chosen some has = choose_heads command named (found (install_of named) chosen.heads) chosen some has

all_heads : (inputs least : ℕ) (command : Command) (named : List NamedStub) (chosen : Chosen) → are_named inputs least named ≡ true → HasHeads chosen → IfOk (choose_all command named chosen) HasHeads
all_heads inputs least command [] chosen are has = has
all_heads inputs least command (one ∷ rest) chosen are has =
    let parts = and_parts (is_next inputs least one) (are_named inputs (one.position + 1) rest) are in
    let first = and_parts (nat_le least one.position && nat_lt one.position inputs) (has_documents one) parts.0 in
    let some = and_parts (nat_lt 0 (length one.file.docs)) (nat_lt (length one.file.docs) (2 ^ 32)) first.1 in
    then_holds HasHeads HasHeads (choose command one chosen) (choose_all command rest) (next_heads command one chosen (lt_true 0 (length one.file.docs) some.0) has)
    (λ next is. all_heads inputs (one.position + 1) command rest next parts.1 is)

chosen_heads : (inputs : ℕ) (command : Command) (named : List NamedStub) → are_named inputs 0 named ≡ true → IfOk (chosen_of command named) HasHeads
chosen_heads inputs command named are = all_heads inputs 0 command named (record { libraries = []; heads = []; files = []; documents = 0 }) are (record { count = refl; named = tt })

-- ---- all documents

record IsNamed (heads : List (List ℕ × ℕ)) (growing : Growing) : Type 0 where
  headed : AreHeaded growing.documents heads
  near : AreAllNear growing.documents growing.reexports

files_named : (heads : List (List ℕ × ℕ)) (files : List StubFile) (growing : Growing) (all : List Stub) → all ≡ growing.documents ++ docs_of files → AreHeaded all heads → AreAllNear all growing.reexports → IsNamed heads (with_files heads files growing)
files_named heads [] growing all is are near =
    let same : all ≡ growing.documents = is ∙ append-nil growing.documents in
    record { headed = subst (λ (documents : List Stub). AreHeaded documents heads) same are; near = subst (λ (documents : List Stub). AreAllNear documents growing.reexports) same near }
files_named heads (file ∷ files) growing all is are near =
    let split : all ≡ (growing.documents ++ file.docs) ++ docs_of files = is ∙ sym (append_assoc growing.documents file.docs (docs_of files)) in
    files_named heads files (with_file heads file.docs growing) all (split ∙ ap (λ (front : List Stub). front ++ docs_of files) (sym (file_documents heads file.docs growing))) are
    (file_near heads file.docs (docs_of files) all growing split are near)

named_file : (heads : List (List ℕ × ℕ)) (stubs : List Stub) (growing : Growing) → IsNamed heads growing → IsNamed heads (with_file heads stubs growing)
named_file heads stubs growing is =
    let all : List Stub = growing.documents ++ stubs in
    let headed : AreHeaded (growing.documents ++ stubs) heads = heads_more_named growing.documents stubs heads is.headed in
    record {
      headed = subst (λ (documents : List Stub). AreHeaded documents heads) (sym (file_documents heads stubs growing)) headed;
      near = subst (λ (documents : List Stub). AreAllNear documents (with_file heads stubs growing).reexports) (sym (file_documents heads stubs growing))
          (file_near heads stubs [] (growing.documents ++ stubs) growing (sym (append-nil (growing.documents ++ stubs))) headed (near_more growing.documents stubs growing.reexports is.near));
    }

named_known : (heads : List (List ℕ × ℕ)) (path : List ℕ) (document : Option ℕ) (growing : Growing) → IsNamed heads growing → IsNamed heads (with_known path document growing)
named_known heads path document growing is = record { headed = is.headed; near = is.near }

named_link : (heads : List (List ℕ × ℕ)) (from to : ℕ) (growing : Growing) → IsNamed heads growing → IsNamed heads (with_link from to growing)
named_link heads from to growing is = record { headed = is.headed; near = is.near }

begun_named : (chosen : Chosen) → HasHeads chosen → IsNamed chosen.heads (begun chosen.libraries chosen.heads chosen.files).growing
begun_named chosen has =
    subst (λ (growing : Growing). IsNamed chosen.heads growing) (sym (all_growing chosen.libraries (record { growing = with_files chosen.heads chosen.files nothing; reached = []; work = [] })))
    (files_named chosen.heads chosen.files nothing (docs_of chosen.files) refl has.named tt)

at_near : (documents : List Stub) (all : List (List Reexport)) (number : ℕ) → AreAllNear documents all → AreNear documents (get_or all number [])
at_near documents [] number near = tt
at_near documents (reexports ∷ all) zero near = near.0
at_near documents (reexports ∷ all) (suc number) near = at_near documents all number near.1

bound_near : (look : List ℕ → File) (command : Command) (named : List NamedStub) (count : ℕ) (bound : Bound) → are_named (length command.inputs) 0 named ≡ true → (bound_after command named count look).end ≡ Ok bound
    → AreAllNear bound.closing.growing.documents bound.closing.growing.reexports
bound_near look command named count bound are is =
    let made = made_of command named count look bound is in
    let has : HasHeads made.chosen = ok_holds HasHeads (chosen_of command named) made.chosen made.chosen_is (chosen_heads (length command.inputs) command named are) in
    let stays : IsNamed made.chosen.heads made.closing.growing =
    ok_holds (λ (new : Closing). IsNamed made.chosen.heads new.growing) (closed_of command count made.chosen look).end made.closing made.closing_is
    (after_stays look made.chosen.heads (IsNamed made.chosen.heads)
    (λ path bytes file growing new there read is_named. named_known made.chosen.heads path (Some (length growing.documents)) (with_file made.chosen.heads file.docs growing) (named_file made.chosen.heads file.docs growing is_named))
    (λ path growing new says is_named. named_known made.chosen.heads path None growing is_named) (named_link made.chosen.heads) command.syslibroot count (start_of made.chosen) (begun_named made.chosen has)) in
    subst (λ (b : Bound). AreAllNear b.closing.growing.documents b.closing.growing.reexports) made.is stays.near

pub here_named : (look : List ℕ → File) (command : Command) (named : List NamedStub) (count : ℕ) (bound : Bound) (document number : ℕ) (reexport : Reexport) → are_named (length command.inputs) 0 named ≡ true
    → (bound_after command named count look).end ≡ Ok bound → Contains (get_or bound.closing.growing.reexports document []) reexport → reexport.here ≡ Some number → HasName bound.closing.growing.documents number reexport.install
here_named look command named count bound document number reexport are is there here =
    all_in (IsNear bound.closing.growing.documents) (get_or bound.closing.growing.reexports document []) reexport
    (at_near bound.closing.growing.documents bound.closing.growing.reexports document (bound_near look command named count bound are is)) (in_from_Contains (get_or bound.closing.growing.reexports document []) reexport there) number here
