-- The files of a list of pairs, as a scan from its front finds them.
use Rattle.std.proofs.Common.{[], zero, suc, true, false, refl, ◌≢◌, arith, min, option_map, ◌≡◌, ◌∙◌, ap, sym, ◌<◌, ◌+◌, ℕ, Bool, cond, None, Some, Option, List, ◌∷◌, take, drop, get_or, length, nat_eq}
use Rattle.std.proofs.lemmas.Slice.Eq.{bytes_eq-Decides}
use Rattle.std.specs.Str.{bytes_eq}
use Rattle.std.specs.List.{All, AllPairs}
use Rattle.std.proofs.lemmas.List.{at_drop_more, take_min}
use Rattle.std.specs.Ordering.{nat_cmp}
use Rattle.std.specs.Cmp.Lexicographic.{slice_cmp, pointwise, texts_ties, nat_list_cmp_total}
use Rattle.std.specs.FinMap.{find, get-from_entries}
use Rattle.mo_outside.specs.Files.{FileMap, file_at, fetched, fetch_limit}
use Rattle.mo_outside.specs.Memory.{files_of, IsFilesOf}

-- the bytes of the first pair with the path
abbrev pub first_of : List ℕ → List (List ℕ × List ℕ) → Option (List ℕ)
first_of path pairs = find (slice_cmp nat_cmp) path pairs

pub file_at-files_of : (pairs : List (List ℕ × List ℕ)) (path : List ℕ) → file_at (files_of pairs) path ≡ first_of path pairs
unfolding files_of
file_at-files_of pairs path = get-from_entries nat_list_cmp_total pairs path

-- one pair more
pub first_of-drop : (pairs : List (List ℕ × List ℕ)) (path : List ℕ) (i : ℕ) (pair : List ℕ × List ℕ) (same : Bool)
    → i < length pairs → pair ≡ get_or pairs i pair → same ≡ pointwise nat_eq path pair.0
    → first_of path (drop i pairs) ≡ cond same (Some pair.1) (first_of path (drop (i + 1) pairs))
first_of-drop pairs path i pair same within is tests =
    at_drop_more (first_of path) pairs i pair within
    ∙ ap (λ e. first_of path (e ∷ drop (i + 1) pairs)) (sym is)
    ∙ ap (λ b. cond b (Some pair.1) (first_of path (drop (i + 1) pairs))) (sym (tests ∙ texts_ties path pair.0))

first_bytes : (bytes : List ℕ) (limit : ℕ) → take (min (length bytes) limit) bytes ≡ take limit bytes
first_bytes bytes limit = let turned : min (length bytes) limit ≡ min limit (length bytes) = omega arith in rw turned (take_min limit bytes)

pub fetched_absent : (files : FileMap) (path : List ℕ) → None ≡ file_at files path → fetched files path ≡ None
unfolding fetched
fetched_absent files path absent = ap (option_map (take fetch_limit)) (sym absent)

-- the first bytes of a file, up to the limit
pub fetched_present : (files : FileMap) (path bytes : List ℕ) (count : ℕ) → Some bytes ≡ file_at files path
    → count ≡ min (length bytes) fetch_limit → fetched files path ≡ Some (take count bytes)
unfolding fetched
fetched_present files path bytes count present counts =
    ap (option_map (take fetch_limit)) (sym present) ∙ ap Some (sym (ap (λ n. take n bytes) counts ∙ first_bytes bytes fetch_limit))

differ : (b : Bool) (xs ys : List ℕ) → b ≡ bytes_eq xs ys → xs ≢ ys → b ≡ false
differ true xs ys tests apart = absurd (apart ((bytes_eq-Decides xs ys).0 (sym tests)))
differ false xs ys tests apart = refl

first_of_other : (pair : List ℕ × List ℕ) (pairs : List (List ℕ × List ℕ)) (path : List ℕ) → path ≢ pair.0
    → first_of path (pair ∷ pairs) ≡ first_of path pairs
first_of_other pair pairs path apart =
    ap (λ b. cond b (Some pair.1) (first_of path pairs)) (sym (texts_ties path pair.0) ∙ differ _ path pair.0 refl apart)

first_of_same : (pair : List ℕ × List ℕ) (pairs : List (List ℕ × List ℕ)) → first_of pair.0 (pair ∷ pairs) ≡ Some pair.1
first_of_same pair pairs =
    ap (λ b. cond b (Some pair.1) (first_of pair.0 pairs)) (sym (texts_ties pair.0 pair.0) ∙ (bytes_eq-Decides pair.0 pair.0).1 refl)

first_of_each : (pairs : List (List ℕ × List ℕ)) → AllPairs (λ one other. one.0 ≢ other.0) pairs
    → All (λ pair. first_of pair.0 pairs ≡ Some pair.1) pairs
first_of_each [] apart k d within = absurd (omega arith)
first_of_each (pair ∷ pairs) apart zero d within = first_of_same pair pairs
first_of_each (pair ∷ pairs) apart (suc k) d within =
    let other : (get_or pairs k d).0 ≢ pair.0 = λ e. apart 0 (suc k) d (omega arith) within (sym e) in
    let later : k < length pairs = omega arith in
    first_of_other pair pairs (get_or pairs k d).0 other
    ∙ first_of_each pairs (λ i j c before inside. apart (suc i) (suc j) c (omega arith) (omega arith)) k d later

first_of_none : (pairs : List (List ℕ × List ℕ)) (path : List ℕ) → All (λ pair. pair.0 ≢ path) pairs → first_of path pairs ≡ None
first_of_none [] path others = refl
first_of_none (pair ∷ pairs) path others =
    first_of_other pair pairs path (λ e. others 0 pair (omega arith) (sym e))
    ∙ first_of_none pairs path (λ k d within. others (suc k) d (omega arith))

pub files_of_pairs : (pairs : List (List ℕ × List ℕ)) → AllPairs (λ one other. one.0 ≢ other.0) pairs → IsFilesOf pairs (files_of pairs)
files_of_pairs pairs apart = record {
  each = λ k d within. file_at-files_of pairs (get_or pairs k d).0 ∙ first_of_each pairs apart k d within;
  only = λ path others. file_at-files_of pairs path ∙ first_of_none pairs path others;
}
