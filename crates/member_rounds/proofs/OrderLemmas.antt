-- Files with their numbers, in the order of their ids.
use Rattle.std.proofs.Common.{◌≡◌, ◌↔◌, ℕ, ◌+◌, ◌<◌, List, [], ◌∷◌, ◌++◌, true, false, Option, Some, None, length, map, refl, sym, ap, ap₂, subst, ◌∙◌, arith, append_assoc, append-nil}
use Rattle.std.specs.Prelude.{IsSome}
use Rattle.std.specs.Option.{option_to_list}
use Rattle.std.specs.List.{AllByRecursion}
use Rattle.std.specs.List.Sorted.{IsPermutation, IsSortedBy}
use Rattle.std.specs.Ordering.{is_lt}
use Rattle.std.proofs.lemmas.List.{get_or-map, length-map}
use Rattle.std.proofs.lemmas.List.Elements.{All-from_recursion, recursion_from_All}
use Rattle.std.proofs.lemmas.List.Sorted.{All-permutation, IsPermutation-map}
use Rattle.mo_types.specs.Keys.{compare_files}
use Rattle.mo_types.specs.declared.loaded.LoadedFile.{LoadedFile}
use Rattle.member_rounds.specs.declared.in_order.NamedFile.{NamedFile}
use Rattle.member_rounds.specs.inner.Paired.{pair_of, zipped}

-- each with what a function gives of it
zipped_files : (f : LoadedFile → List ℕ) (files : List LoadedFile) → map (λ (p : NamedFile). p.file) (zipped files (map f files)) ≡ files
zipped_files f [] = refl
zipped_files f (file ∷ files) = ap (λ (fs : List LoadedFile). file ∷ fs) (zipped_files f files)

given : (f : LoadedFile → List ℕ) (files : List LoadedFile) → AllByRecursion (λ (p : NamedFile). p.numbers ≡ f p.file) (zipped files (map f files))
given f [] = tt
given f (file ∷ files) = (refl, given f files)

parts_are : (f : LoadedFile → List ℕ) (pairs : List (NamedFile)) → AllByRecursion (λ (p : NamedFile). p.numbers ≡ f p.file) pairs → map (λ (p : NamedFile). p.numbers) pairs ≡ map f (map (λ (p : NamedFile). p.file) pairs)
parts_are f [] all = refl
parts_are f (p ∷ pairs) all = ap₂ (λ (n : List ℕ) (ns : List (List ℕ)). n ∷ ns) all.0 (parts_are f pairs all.1)

module _ (files : List LoadedFile) (numbers : List (List ℕ)) (pairs sorted : List (NamedFile)) (f : LoadedFile → List ℕ) (are : numbers ≡ map f files) (made : pairs ≡ zipped files numbers) (moved : IsPermutation pairs sorted) where
  made_of : pairs ≡ zipped files (map f files)
  made_of = made ∙ ap (zipped files) are

  pub files_moved : IsPermutation files (map (λ (p : NamedFile). p.file) sorted)
  files_moved = subst (λ (fs : List LoadedFile). IsPermutation fs (map (λ (p : NamedFile). p.file) sorted)) (ap (map (λ (p : NamedFile). p.file)) made_of ∙ zipped_files f files) (IsPermutation-map (λ (p : NamedFile). p.file) pairs sorted moved)

  pub numbers_follow : map (λ (p : NamedFile). p.numbers) sorted ≡ map f (map (λ (p : NamedFile). p.file) sorted)
  numbers_follow =
      parts_are f sorted (recursion_from_All (λ (p : NamedFile). p.numbers ≡ f p.file) sorted
      (All-permutation (λ (p : NamedFile). p.numbers ≡ f p.file) pairs sorted moved
      (All-from_recursion (λ (p : NamedFile). p.numbers ≡ f p.file) pairs (subst (λ (ps : List (NamedFile)). AllByRecursion (λ (p : NamedFile). p.numbers ≡ f p.file) ps) (sym made_of) (given f files)))))

pub sorted_files : (pairs : List NamedFile) → IsSortedBy (λ a b. is_lt (compare_files a.file.id b.file.id)) pairs → IsSortedBy (λ a b. is_lt (compare_files a.id b.id)) (map (λ (p : NamedFile). p.file) pairs)
sorted_files pairs sorted k d from low =
    let other : NamedFile = record { file = d; numbers = [] } in
    let within : k + 1 < length pairs = omega (arith, low, length-map pairs (λ (p : NamedFile). p.file)) in
    ap₂ (λ (a b : LoadedFile). is_lt (compare_files a.id b.id)) (get_or-map (λ (p : NamedFile). p.file) pairs (k + 1) other d within) (get_or-map (λ (p : NamedFile). p.file) pairs k other d (omega (arith, within)))
    ∙ sorted k other from within

pub ruleset ordering = (files_moved)

-- ---- pairs, one by one

pub pair_more : (done next : List NamedFile) (file : LoadedFile) (files : List LoadedFile) (found : Option (List ℕ)) (lists rest : List (List ℕ)) (all : List NamedFile) → done ++ zipped (file ∷ files) lists ≡ all → lists ≡ option_to_list found ++ rest → (count : ℕ) → count ≡ length lists → (IsSome found ↔ (0 < count)) → next ≡ done ++ pair_of file found → next ++ zipped files rest ≡ all
pair_more done next file files (Some list) lists rest all so split count many there is =
    ap (λ (ps : List NamedFile). ps ++ zipped files rest) is ∙ append_assoc done (pair_of file (Some list)) (zipped files rest) ∙ sym (ap (λ (ls : List (List ℕ)). done ++ zipped (file ∷ files) ls) split) ∙ so
pair_more done next file files None lists rest all so split count many there is =
    ap (λ (ps : List NamedFile). ps ++ zipped files rest) is ∙ append_assoc done [] (zipped files rest) ∙ none lists rest split (λ some. absurd (let s : false ≡ true = there.1 (omega (arith, some, many)) in let t : true ≡ false = sym s in cc)) ∙ so
  where
    none : (lists rest : List (List ℕ)) → lists ≡ rest → (0 < length lists → ⊥) → done ++ zipped files rest ≡ done ++ zipped (file ∷ files) lists
    none [] rest e never = ap (λ (ls : List (List ℕ)). done ++ zipped files ls) (sym e) ∙ ap (λ (ps : List NamedFile). done ++ ps) (nothing files)
      where
        nothing : (fs : List LoadedFile) → zipped fs [] ≡ []
        nothing [] = refl
        nothing (f ∷ fs) = refl
    none (l ∷ lists) rest e never = absurd (never (omega arith))

pub pair_end : (done : List NamedFile) (lists : List (List ℕ)) (all : List NamedFile) → done ++ zipped [] lists ≡ all → done ≡ all
pair_end done lists all so = sym (append-nil done) ∙ so

pub part_more : {X : Type 0} (f : NamedFile → X) (done next : List X) (pair : NamedFile) (pairs all : List NamedFile) → done ++ map f (pair ∷ pairs) ≡ map f all → next ≡ done ++ f pair ∷ [] → next ++ map f pairs ≡ map f all
part_more f done next pair pairs all so is = ap (λ ps. ps ++ map f pairs) is ∙ append_assoc done (f pair ∷ []) (map f pairs) ∙ so

pub ruleset pairing = (pair_more, pair_end)

pub ruleset parting = (part_more)
