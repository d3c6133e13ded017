-- What is known of paths is what stands there.
use Rattle.std.proofs.Common.{◌≡◌, ℕ, ◌++◌, [], List, length, Bool, true, false, Option, Some, None, Ok, refl, sym, ap, ◌∙◌, subst, append_assoc, bytes_eq}
use Rattle.std.specs.Prelude.{if◌then◌else◌}
use Rattle.std.proofs.lemmas.List.{append-nil}
use Rattle.std.proofs.lemmas.Slice.Eq.{bytes_eq-Decides}
use Rattle.command_line.specs.declared.command.Command.{Command}
use Rattle.file_cache.specs.Program.{File, There}
use Rattle.mo_types.specs.Scan.{option_or_else}
use Rattle.tbd_doc.specs.declared.stub.Stub.{Stub}
use Rattle.tbd_doc.specs.declared.stub.StubFile.{StubFile}
use Rattle.lib_bind.specs.Closing.{with_file, with_known, with_link}
use Rattle.lib_bind.specs.Closure.{Bound, bound_after}
use Rattle.lib_bind.specs.Found.{found}
use Rattle.lib_bind.specs.Links.{AnswerSays}
use Rattle.lib_bind.specs.Reexported.{reexported}
use Rattle.lib_bind.specs.declared.closing.Closing.{Closing}
use Rattle.lib_bind.specs.declared.growing.Growing.{Growing}
use Rattle.lib_bind.specs.declared.named.NamedStub.{NamedStub}
use Rattle.lib_bind.proofs.ChosenLemmas.{ok_holds}
use Rattle.lib_bind.proofs.EndLemmas.{closed_of, made_of, start_of}
use Rattle.lib_bind.proofs.GrowingLemmas.{found_more}
use Rattle.lib_bind.proofs.StayLemmas.{after_stays}
use Rattle.lib_bind.proofs.StepLemmas.{begun_known}

module _ (look : List ℕ → File) where
  abbrev AreTold : Growing → Type 0
  AreTold growing = (path : List ℕ) (document : Option ℕ) → found path growing.known ≡ Some document → AnswerSays look growing.documents path document

  says_more : (documents more : List Stub) (path : List ℕ) (document : Option ℕ) → AnswerSays look documents path document → AnswerSays look (documents ++ more) path document
  says_more documents more path None says = says
  says_more documents more path (Some first) says = record {
    bytes = says.bytes;
    there = says.there;
    file = says.file;
    read = says.read;
    before = says.before;
    after = says.after ++ more;
    stand = ap (λ (all : List Stub). all ++ more) says.stand ∙ append_assoc (says.before ++ says.file.docs) says.after more;
    place = says.place;
  }

  file_told : (heads : List (List ℕ × ℕ)) (stubs : List Stub) (growing : Growing) → AreTold growing → AreTold (with_file heads stubs growing)
  unfolding with_file
  file_told heads stubs growing told path document is = says_more growing.documents stubs path document (told path document is)

  same_path : (path other : List ℕ) (new document : Option ℕ) (documents : List Stub) (there : Option (Option ℕ)) (test : Bool) → bytes_eq path other ≡ test → (there ≡ Some document → AnswerSays look documents path document)
      → AnswerSays look documents other new → option_or_else there (if test then Some new else None) ≡ Some document → AnswerSays look documents path document
  same_path path other new document documents (Some known) test e old says is = old is
  same_path path other new document documents None true e old says is =
      subst (λ (p : List ℕ). AnswerSays look documents p document) (sym ((bytes_eq-Decides path other).0 e)) (subst (λ (d : Option ℕ). AnswerSays look documents other d) (some_same new document is) says)
    where
      some_same : (a b : Option ℕ) → Some a ≡ Some b → a ≡ b
      some_same a b h = cc
  same_path path other new document documents None false e old says is = absurd (cc)

  known_told : (other : List ℕ) (new : Option ℕ) (growing : Growing) → AnswerSays look growing.documents other new → AreTold growing → AreTold (with_known other new growing)
  known_told other new growing says told path document is =
      same_path path other new document growing.documents (found path growing.known) (bytes_eq path other) refl (told path document) says (sym (found_more path other new growing.known) ∙ is)

  file_says : (heads : List (List ℕ × ℕ)) (path bytes : List ℕ) (file : StubFile) (growing : Growing) → look path ≡ There bytes → reexported bytes ≡ Ok file
      → AnswerSays look (with_file heads file.docs growing).documents path (Some (length growing.documents))
  unfolding with_file
  file_says heads path bytes file growing there read = record {
    bytes = bytes;
    there = there;
    file = file;
    read = read;
    before = growing.documents;
    after = [];
    stand = sym (append-nil (growing.documents ++ file.docs));
    place = refl;
  }

  told_file : (heads : List (List ℕ × ℕ)) (path bytes : List ℕ) (file : StubFile) (growing : Growing) → look path ≡ There bytes → reexported bytes ≡ Ok file → AreTold growing
      → AreTold (with_known path (Some (length growing.documents)) (with_file heads file.docs growing))
  told_file heads path bytes file growing there read told =
      known_told path (Some (length growing.documents)) (with_file heads file.docs growing) (file_says heads path bytes file growing there read) (file_told heads file.docs growing told)

  told_link : (from to : ℕ) (growing : Growing) → AreTold growing → AreTold (with_link from to growing)
  told_link from to growing told path document is = told path document is

  none_known : (growing : Growing) → growing.known ≡ [] → AreTold growing
  none_known growing none path document is = absurd (not_there path document (ap (λ (known : List (List ℕ × Option ℕ)). found path known) (sym none) ∙ is))
    where
      not_there : (path : List ℕ) (document : Option ℕ) → found path [] ≡ Some document → ⊥
      not_there path document h = absurd (cc)

  pub bound_told : (command : Command) (named : List NamedStub) (count : ℕ) (bound : Bound) → (bound_after command named count look).end ≡ Ok bound → (path : List ℕ) (document : Option ℕ)
      → found path bound.closing.growing.known ≡ Some document → AnswerSays look bound.closing.growing.documents path document
  bound_told command named count bound is =
      let made = made_of command named count look bound is in
      let start : Closing = start_of made.chosen in
      let told : AreTold made.closing.growing =
      ok_holds (λ (new : Closing). AreTold new.growing) (closed_of command count made.chosen look).end made.closing made.closing_is
      (after_stays look made.chosen.heads AreTold (λ path bytes file growing new there read told. told_file made.chosen.heads path bytes file growing there read told)
      (λ path growing new says told. known_told path None growing says told) told_link command.syslibroot count start
      (none_known start.growing (begun_known made.chosen.libraries made.chosen.heads made.chosen.files start refl))) in
      subst (λ (b : Bound). AreTold b.closing.growing) made.is told
