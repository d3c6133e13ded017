-- The literals of files, added one by one.
use Rattle.std.proofs.Common.{◌≡◌, ℕ, ◌+◌, ◌<◌, ◌≤◌, List, [], ◌∷◌, ◌++◌, length, drop, get_or, refl, sym, ap, ◌∙◌, append_assoc, Some, None}
use Rattle.std.specs.Prelude.{Option}
use Rattle.std.specs.List.{filter_map}
use Rattle.std.specs.Option.{option_map}
use Rattle.std.proofs.lemmas.List.{drop_all, map-append}
use Rattle.mo_types.specs.declared.atom.Atom.{Atom}
use Rattle.mo_types.specs.declared.loaded.LoadedFile.{LoadedFile}
use Rattle.mo_types.specs.declared.object.Object.{Object}
use Rattle.literal_merge.specs.Representatives.{Literal, literal_at, literals, literals_in}
use Rattle.literal_merge.specs.declared.literal.LiteralIn.{LiteralIn}
use Rattle.literal_merge.specs.inner.Groups.{held_literals, literal_of}
use Rattle.literal_merge.proofs.AddingLemmas.{IsAdding, append_none, there}

abbrev pub from_atoms : Object → List Atom → List Literal
from_atoms object atoms = filter_map (literal_at object) atoms

with_literal : (object : Object) (atoms : List Atom) (i : ℕ) (atom : Atom) (literal : Literal) → i < length atoms → atom ≡ get_or atoms i atom → literal_at object atom ≡ Some literal → from_atoms object (drop i atoms) ≡ literal ∷ from_atoms object (drop (i + 1) atoms)
with_literal object atoms i atom literal low is at = rw (there atoms i atom low is, at) refl

without : (object : Object) (atoms : List Atom) (i : ℕ) (atom : Atom) → i < length atoms → atom ≡ get_or atoms i atom → literal_at object atom ≡ None → from_atoms object (drop i atoms) ≡ from_atoms object (drop (i + 1) atoms)
without object atoms i atom low is at = rw (there atoms i atom low is, at) refl

pub file_start : (before : List Literal) (object : Object) (atoms : List Atom) → IsAdding before before (from_atoms object atoms) (from_atoms object (drop 0 atoms))
file_start before object atoms = record { same = refl }

pub file_add : (before : List Literal) (now new : List LiteralIn) (object : Object) (atoms : List Atom) (i : ℕ) (atom : Atom) (literal : LiteralIn) (found : Option LiteralIn) → IsAdding before (held_literals now) (from_atoms object atoms) (from_atoms object (drop i atoms)) → i < length atoms → atom ≡ get_or atoms i atom → option_map literal_of found ≡ literal_at object atom → found ≡ Some literal → new ≡ now ++ literal ∷ [] → IsAdding before (held_literals new) (from_atoms object atoms) (from_atoms object (drop (i + 1) atoms))
file_add before now new object atoms i atom literal found adding low is at some added = record {
  same =
      ap (λ xs. held_literals xs ++ from_atoms object (drop (i + 1) atoms)) added
      ∙ ap (λ xs. xs ++ from_atoms object (drop (i + 1) atoms)) (map-append literal_of now (literal ∷ []))
      ∙ append_assoc (held_literals now) (literal_of literal ∷ []) (from_atoms object (drop (i + 1) atoms))
      ∙ ap (λ xs. held_literals now ++ xs) (sym (with_literal object atoms i atom (literal_of literal) low is (sym at ∙ ap (option_map literal_of) some)))
      ∙ adding.same;
}

pub file_pass : (before : List Literal) (now : List LiteralIn) (object : Object) (atoms : List Atom) (i : ℕ) (atom : Atom) (found : Option LiteralIn) → IsAdding before (held_literals now) (from_atoms object atoms) (from_atoms object (drop i atoms)) → i < length atoms → atom ≡ get_or atoms i atom → option_map literal_of found ≡ literal_at object atom → found ≡ None → IsAdding before (held_literals now) (from_atoms object atoms) (from_atoms object (drop (i + 1) atoms))
file_pass before now object atoms i atom found adding low is at none = record {
  same = ap (λ xs. held_literals now ++ xs) (sym (without object atoms i atom low is (sym at ∙ ap (option_map literal_of) none))) ∙ adding.same;
}

pub file_end : (before : List Literal) (now : List LiteralIn) (object : Object) (atoms : List Atom) (i : ℕ) → IsAdding before (held_literals now) (from_atoms object atoms) (from_atoms object (drop i atoms)) → length atoms ≤ i → held_literals now ≡ before ++ filter_map (literal_at object) atoms
file_end before now object atoms i adding past = sym (append_none (held_literals now)) ∙ ap (λ xs. held_literals now ++ from_atoms object xs) (sym (drop_all i atoms past)) ∙ adding.same

pub ruleset files_literals = (file_start, file_add, file_pass, file_end)

-- ---- files

first_file : (file : LoadedFile) (rest : List LoadedFile) → literals (file ∷ rest) ≡ literals_in file ++ literals rest
unfolding literals
first_file file rest = refl

no_files : literals [] ≡ []
unfolding literals
no_files = refl

in_file : (object : Object) (file : LoadedFile) (atoms : List Atom) → object ≡ file.object → atoms ≡ file.atoms → from_atoms object atoms ≡ literals_in file
unfolding literals_in
in_file object file atoms e f = rw (e, f) refl

pub all_start : (files : List LoadedFile) (now : List Literal) → now ≡ [] → IsAdding [] now (literals files) (literals (drop 0 files))
all_start files now none = record { same = ap (λ xs. xs ++ literals files) none }

pub all_add : (now new : List Literal) (files : List LoadedFile) (i : ℕ) (file : LoadedFile) (atoms : List Atom) → IsAdding [] now (literals files) (literals (drop i files)) → i < length files → file ≡ get_or files i file → atoms ≡ file.atoms → new ≡ now ++ filter_map (literal_at file.object) atoms → IsAdding [] new (literals files) (literals (drop (i + 1) files))
all_add now new files i file atoms adding low is own added = record {
  same =
      ap (λ xs. xs ++ literals (drop (i + 1) files)) (added ∙ ap (λ xs. now ++ xs) (in_file file.object file atoms refl own))
      ∙ append_assoc now (literals_in file) (literals (drop (i + 1) files))
      ∙ ap (λ xs. now ++ xs) (sym (ap literals (there files i file low is) ∙ first_file file (drop (i + 1) files)))
      ∙ adding.same;
}

pub all_end : (now : List Literal) (files : List LoadedFile) (i : ℕ) → IsAdding [] now (literals files) (literals (drop i files)) → length files ≤ i → now ≡ literals files
all_end now files i adding past = sym (append_none now) ∙ ap (λ xs. now ++ xs) (sym (ap literals (drop_all i files past) ∙ no_files)) ∙ adding.same

pub ruleset all_literals = (all_start, all_add, all_end)
