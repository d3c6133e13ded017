-- Libraries that are chosen, and files that are read, one after the other.
use Rattle.std.proofs.Common.{◌≡◌, ℕ, suc, ◌+◌, ◌*◌, ◌^◌, ◌<◌, ◌≤◌, ◌++◌, ◌∷◌, [], List, All, length, length-append, Result, Ok, Err, IsErrAnd, refl, sym, ap, ◌∙◌, subst, arith}
use Rattle.std.proofs.lemmas.Result.{err_from_is_err_and}
use Rattle.command_line.specs.declared.command.Command.{Command}
use Rattle.command_line.specs.declared.command.CommandInput.{CommandInput}
use Rattle.mo_types.specs.Gives.{◌>>=◌, Gives}
use Rattle.tbd_doc.specs.declared.stub.StubFile.{StubFile}
use Rattle.lib_bind.specs.Closing.{IsBindFault, choose, choose_all, install_of, with_library}
use Rattle.lib_bind.specs.declared.bind_fault.BindFault.{BindFault}
use Rattle.lib_bind.specs.declared.choosing.Chosen.{Chosen}
use Rattle.lib_bind.specs.declared.library.Library.{Library}
use Rattle.lib_bind.specs.declared.named.NamedStub.{NamedStub}

pub nothing_left : {X : Type 0} (xs : List X) → length xs ≡ 0 → xs ≡ []
nothing_left [] is = refl
nothing_left (x ∷ xs) is = absurd (omega arith)

pub all_rest : {X : Type 0} (P : X → Type 0) (x : X) (xs : List X) → All P (x ∷ xs) → All P xs
all_rest P x xs all = λ k d within. all (suc k) d (omega arith)

pub all_first : {X : Type 0} (P : X → Type 0) (x : X) (xs : List X) → All P (x ∷ xs) → P x
all_first P x xs all = all 0 x (omega arith)

pub choose_next : (command : Command) (named : NamedStub) (rest : List NamedStub) (chosen next : Chosen) (whole : Result Chosen BindFault)
    → choose_all command (named ∷ rest) chosen ≡ whole → choose command named chosen ≡ Ok next → choose_all command rest next ≡ whole
choose_next command named rest chosen next whole is here = sym (ap (λ (r : Result Chosen BindFault). r >>= choose_all command rest) here) ∙ is

pub choose_ends : (command : Command) (named : NamedStub) (rest : List NamedStub) (chosen : Chosen) (why : BindFault) (result whole : Result Chosen BindFault)
    → choose_all command (named ∷ rest) chosen ≡ whole → Gives {A = Chosen} IsBindFault (Err why) (choose command named chosen) → IsErrAnd result (λ passed. passed ≡ why) → Gives IsBindFault result whole
choose_ends command named rest chosen why result whole is here ends =
    let passed = err_from_is_err_and result ends in
    subst (λ (r : Result Chosen BindFault). Gives IsBindFault r whole) (sym (passed.1 ∙ ap Err passed.2))
    (λ kind. sym is ∙ ap (λ (r : Result Chosen BindFault). r >>= choose_all command rest) (here kind))

-- one library more, part by part
pub library_more : (input : CommandInput) (named : NamedStub) (chosen : Chosen) (libraries : List Library) (heads : List (List ℕ × ℕ)) (files : List StubFile) (documents ordinal : ℕ) (install : List ℕ)
    → libraries ≡ chosen.libraries ++ record { position = named.position; ordinal = ordinal; weak = input.weak; reexport = input.reexport; document = chosen.documents } ∷ []
    → ordinal ≡ length chosen.libraries + 1 → heads ≡ chosen.heads ++ (install, chosen.documents) ∷ [] → install ≡ install_of named → files ≡ chosen.files ++ named.file ∷ []
    → documents ≡ chosen.documents + length named.file.docs → with_library input named chosen ≡ record { libraries = libraries; heads = heads; files = files; documents = documents }
library_more input named chosen libraries heads files documents ordinal install one count two name three sum = λ i. record {
  libraries = (sym (one ∙ ap (λ n. chosen.libraries ++ record { position = named.position; ordinal = n; weak = input.weak; reexport = input.reexport; document = chosen.documents } ∷ []) count)) i;
  heads = (sym (two ∙ ap (λ x. chosen.heads ++ (x, chosen.documents) ∷ []) name)) i;
  files = (sym three) i;
  documents = (sym sum) i;
}

-- how many documents there are then
pub sum_more : (before after : List Library) (library : Library) (documents more size : ℕ) → after ≡ before ++ library ∷ [] → more ≡ size → size < 2 ^ 32 → documents ≤ length before * 2 ^ 32 → documents + more ≤ length after * 2 ^ 32
sum_more before after library documents more size is same few most =
    let count : length after ≡ length before + 1 = ap length is ∙ length-append before (library ∷ []) in
    omega (arith, count, same, few, most)
