-- The files of inputs, of files that can all be read.
use Rattle.std.proofs.Common.{◌≡◌, ℕ, zero, suc, ◌<◌, ◌∷◌, [], List, length, slice_get, Option, Some, None, Result, Ok, Err, refl, sym, ap, ◌∙◌, subst, arith}
use Rattle.std.proofs.lemmas.List.Elements.{All-cons, All-head, All-nil, All-tail}
use Rattle.mo_outside.specs.Files.{FileMap, fetched}
use Rattle.mo_types.specs.Gives.{◌>>=◌}
use Rattle.input_fetch.specs.Contents.{first_of}
use Rattle.input_fetch.specs.There.{AreFirstThere, IsFirstMissing, IsFirstThere, IsMissing, contents_in, found_in, or_missing, there_or}
use Rattle.input_fetch.specs.declared.content.Content.{Content}
use Rattle.input_fetch.specs.declared.stop.FetchStop.{FetchStop}
use Rattle.input_fetch.specs.declared.stop.FetchStop.TheVariants.{ReadFault, Missing}

-- an input

first_here : (files : FileMap) (path bytes : List ℕ) (paths : List (List ℕ)) (content : Content) → fetched files path ≡ Some bytes → record { label = path; bytes = bytes } ≡ content → IsFirstThere files (path ∷ paths) content
first_here files path bytes paths content is same =
    subst (λ (c : Content). IsFirstThere files (path ∷ paths) c) same (record { at = 0; label = refl; there = is; before = λ k other low. absurd (omega (arith, low)) })

before_later : (files : FileMap) (path : List ℕ) (paths : List (List ℕ)) (at : ℕ) → fetched files path ≡ None → ((k : ℕ) (other : List ℕ) → k < at → slice_get paths k ≡ Some other → fetched files other ≡ None)
    → (k : ℕ) (other : List ℕ) → k < suc at → slice_get (path ∷ paths) k ≡ Some other → fetched files other ≡ None
before_later files path paths at none before zero other low is = let same : path ≡ other = cc in subst (λ (p : List ℕ). fetched files p ≡ None) same none
before_later files path paths at none before (suc k) other low is = before k other (omega (arith, low)) is

first_later : (files : FileMap) (path : List ℕ) (paths : List (List ℕ)) (content : Content) → fetched files path ≡ None → IsFirstThere files paths content → IsFirstThere files (path ∷ paths) content
first_later files path paths content none first = record {
  at = suc first.at;
  label = first.label;
  there = first.there;
  before = before_later files path paths first.at none first.before;
}

pub first_found : (files : FileMap) (paths : List (List ℕ)) (content : Content) → found_in files paths ≡ Some content → IsFirstThere files paths content
first_found files [] content is = absurd cc
first_found files (path ∷ paths) content is = by (fetched files path) refl is (first_found files paths content)
  where
    by : (o : Option (List ℕ)) → fetched files path ≡ o → there_or path o (found_in files paths) ≡ Some content → (found_in files paths ≡ Some content → IsFirstThere files paths content) → IsFirstThere files (path ∷ paths) content
    by (Some bytes) held found rest = let same : record { label = path; bytes = bytes } ≡ content = cc in first_here files path bytes paths content held same
    by None held found rest = first_later files path paths content held (rest found)

first_at : (files : FileMap) (paths : List (List ℕ)) (content : Content) (at : ℕ) → slice_get paths at ≡ Some content.label → fetched files content.label ≡ Some content.bytes
    → ((k : ℕ) (path : List ℕ) → k < at → slice_get paths k ≡ Some path → fetched files path ≡ None) → found_in files paths ≡ Some content
first_at files [] content at label there before = absurd cc
first_at files (path ∷ paths) content zero label there before =
    let same : path ≡ content.label = cc in
    ap (λ (p : List ℕ). there_or p (fetched files p) (found_in files paths)) same ∙ ap (λ (o : Option (List ℕ)). there_or content.label o (found_in files paths)) there
first_at files (path ∷ paths) content (suc at) label there before =
    let none : fetched files path ≡ None = before 0 path (omega arith) refl in
    ap (λ (o : Option (List ℕ)). there_or path o (found_in files paths)) none ∙ first_at files paths content at label there (λ k other low is. before (suc k) other (omega (arith, low)) is)

pub found_first : (files : FileMap) (paths : List (List ℕ)) (content : Content) → IsFirstThere files paths content → found_in files paths ≡ Some content
found_first files paths content first = first_at files paths content first.at first.label first.there first.before

none_found : (files : FileMap) (paths : List (List ℕ)) → found_in files paths ≡ None → IsMissing files paths
none_found files [] is = All-nil (λ (p : List ℕ). fetched files p ≡ None)
none_found files (path ∷ paths) is = by (fetched files path) refl is (none_found files paths)
  where
    by : (o : Option (List ℕ)) → fetched files path ≡ o → there_or path o (found_in files paths) ≡ None → (found_in files paths ≡ None → IsMissing files paths) → IsMissing files (path ∷ paths)
    by (Some bytes) held found rest = absurd cc
    by None held found rest = All-cons (λ (p : List ℕ). fetched files p ≡ None) path paths held (rest found)

missing_none : (files : FileMap) (paths : List (List ℕ)) → IsMissing files paths → found_in files paths ≡ None
missing_none files [] all = refl
missing_none files (path ∷ paths) all =
    ap (λ (o : Option (List ℕ)). there_or path o (found_in files paths)) (All-head (λ (p : List ℕ). fetched files p ≡ None) path paths all)
    ∙ missing_none files paths (All-tail (λ (p : List ℕ). fetched files p ≡ None) path paths all)

-- all inputs

abbrev joined : Content → Result (List Content) FetchStop → Result (List Content) FetchStop
joined content given = given >>= λ more. Ok (content ∷ more)

none_there : (files : FileMap) → AreFirstThere files [] []
none_there files = record { size = refl; each = λ at paths content is. absurd (cc) }

one_there : (files : FileMap) (paths : List (List ℕ)) (places : List (List (List ℕ))) (content : Content) (contents : List Content) → IsFirstThere files paths content → AreFirstThere files places contents → AreFirstThere files (paths ∷ places) (content ∷ contents)
one_there files paths places content contents first rest = record { size = ap suc rest.size; each = each }
  where
    each : (at : ℕ) (others : List (List ℕ)) (other : Content) → slice_get (paths ∷ places) at ≡ Some others → slice_get (content ∷ contents) at ≡ Some other → IsFirstThere files others other
    each zero others other is there =
        let same : paths ≡ others = cc in
        let made : content ≡ other = cc in
        subst (λ (p : List (List ℕ)). IsFirstThere files p other) same (subst (λ (c : Content). IsFirstThere files paths c) made first)
    each (suc at) others other is there = rest.each at others other is there

pub there_from : (files : FileMap) (places : List (List (List ℕ))) (contents : List Content) → contents_in files places ≡ Ok contents → AreFirstThere files places contents
there_from files [] contents is = let same : [] ≡ contents = cc in subst (λ (list : List Content). AreFirstThere files [] list) same (none_there files)
there_from files (paths ∷ places) contents is = by (found_in files paths) (contents_in files places) refl refl is (there_from files places)
  where
    by : (o : Option Content) (r : Result (List Content) FetchStop) → found_in files paths ≡ o → contents_in files places ≡ r → (or_missing (first_of paths) o >>= λ content. joined content r) ≡ Ok contents
        → ((more : List Content) → contents_in files places ≡ Ok more → AreFirstThere files places more) → AreFirstThere files (paths ∷ places) contents
    by None r found rest all later = absurd cc
    by (Some content) (Err why) found rest all later = absurd cc
    by (Some content) (Ok more) found rest all later =
        let same : content ∷ more ≡ contents = cc in
        subst (λ (list : List Content). AreFirstThere files (paths ∷ places) list) same
        (one_there files paths places content more (first_found files paths content found) (later more rest))

pub from_there : (files : FileMap) (places : List (List (List ℕ))) (contents : List Content) → AreFirstThere files places contents → contents_in files places ≡ Ok contents
from_there files [] [] all = refl
from_there files [] (content ∷ contents) all = absurd (omega (arith, all.size))
from_there files (paths ∷ places) [] all = absurd (omega (arith, all.size))
from_there files (paths ∷ places) (content ∷ contents) all =
    let here : found_in files paths ≡ Some content = found_first files paths content (all.each 0 paths content refl refl) in
    let less : length contents ≡ length places = omega (arith, all.size) in
    let rest : contents_in files places ≡ Ok contents = from_there files places contents (record { size = less; each = λ at others other is there. all.each (suc at) others other is there }) in
    ap (λ (o : Option Content). or_missing (first_of paths) o >>= λ one. joined one (contents_in files places)) here ∙ ap (joined content) rest

-- the first that is missing

missing_here : (files : FileMap) (paths : List (List ℕ)) (places : List (List (List ℕ))) (path : List ℕ) → found_in files paths ≡ None → first_of paths ≡ path → IsFirstMissing files (paths ∷ places) path
missing_here files paths places path none same = record {
  at = 0;
  paths = paths;
  input = refl;
  first = sym same;
  missing = none_found files paths none;
  before = λ k others low. absurd (omega (arith, low));
}

missing_later : (files : FileMap) (paths : List (List ℕ)) (places : List (List (List ℕ))) (path : List ℕ) (content : Content) → found_in files paths ≡ Some content → IsFirstMissing files places path → IsFirstMissing files (paths ∷ places) path
missing_later files paths places path content there rest = record {
  at = suc rest.at;
  paths = rest.paths;
  input = rest.input;
  first = rest.first;
  missing = rest.missing;
  before = before;
}
  where
    before : (k : ℕ) (others : List (List ℕ)) → k < suc rest.at → slice_get (paths ∷ places) k ≡ Some others → ¬ IsMissing files others
    before zero others low is missing =
        let same : paths ≡ others = cc in
        let none : found_in files paths ≡ None = ap (found_in files) same ∙ missing_none files others missing in
        absurd cc
    before (suc k) others low is missing = rest.before k others (omega (arith, low)) is missing

pub missing_from : (files : FileMap) (places : List (List (List ℕ))) (path : List ℕ) → contents_in files places ≡ Err (Missing path) → IsFirstMissing files places path
missing_from files [] path is = absurd cc
missing_from files (paths ∷ places) path is = by (found_in files paths) (contents_in files places) refl refl is (missing_from files places path)
  where
    by : (o : Option Content) (r : Result (List Content) FetchStop) → found_in files paths ≡ o → contents_in files places ≡ r → (or_missing (first_of paths) o >>= λ content. joined content r) ≡ Err (Missing path)
        → (contents_in files places ≡ Err (Missing path) → IsFirstMissing files places path) → IsFirstMissing files (paths ∷ places) path
    by None r found rest all later = let same : first_of paths ≡ path = cc in missing_here files paths places path found same
    by (Some content) (Ok more) found rest all later = absurd cc
    by (Some content) (Err why) found rest all later = let same : why ≡ Missing path = cc in missing_later files paths places path content found (later (rest ∙ ap Err same))

found_unless : (files : FileMap) (paths : List (List ℕ)) → ¬ IsMissing files paths → (content : Content) × (found_in files paths ≡ Some content)
found_unless files paths other = by (found_in files paths) refl
  where
    by : (o : Option Content) → found_in files paths ≡ o → (content : Content) × (found_in files paths ≡ Some content)
    by (Some content) is = (content, is)
    by None is = absurd (other (none_found files paths is))

missing_at : (files : FileMap) (places : List (List (List ℕ))) (path : List ℕ) (at : ℕ) (missing : List (List ℕ)) → slice_get places at ≡ Some missing → path ≡ first_of missing → IsMissing files missing
    → ((k : ℕ) (others : List (List ℕ)) → k < at → slice_get places k ≡ Some others → ¬ IsMissing files others) → contents_in files places ≡ Err (Missing path)
missing_at files [] path at missing is first all before = absurd cc
missing_at files (paths ∷ places) path zero missing is first all before =
    let same : paths ≡ missing = cc in
    let none : found_in files paths ≡ None = ap (found_in files) same ∙ missing_none files missing all in
    let name : first_of paths ≡ path = ap first_of same ∙ sym first in
    ap (λ (o : Option Content). or_missing (first_of paths) o >>= λ one. joined one (contents_in files places)) none ∙ ap (λ (p : List ℕ). Err (Missing p)) name
missing_at files (paths ∷ places) path (suc at) missing is first all before =
    let here : (content : Content) × (found_in files paths ≡ Some content) = found_unless files paths (before 0 paths (omega arith) refl) in
    ap (λ (o : Option Content). or_missing (first_of paths) o >>= λ one. joined one (contents_in files places)) here.1
    ∙ ap (joined here.0) (missing_at files places path at missing is first all (λ k others low there. before (suc k) others (omega (arith, low)) there))

pub from_missing : (files : FileMap) (places : List (List (List ℕ))) (path : List ℕ) → IsFirstMissing files places path → contents_in files places ≡ Err (Missing path)
from_missing files places path first = missing_at files places path first.at first.paths first.input first.first first.missing first.before

-- a file that can be read isn't unread
pub not_unread : (files : FileMap) (places : List (List (List ℕ))) (path : List ℕ) → contents_in files places ≡ Err (ReadFault path) → ⊥
not_unread files [] path is = cc
not_unread files (paths ∷ places) path is = by (found_in files paths) (contents_in files places) refl is (not_unread files places path)
  where
    by : (o : Option Content) (r : Result (List Content) FetchStop) → contents_in files places ≡ r → (or_missing (first_of paths) o >>= λ content. joined content r) ≡ Err (ReadFault path) → (contents_in files places ≡ Err (ReadFault path) → ⊥) → ⊥
    by None r rest all later = cc
    by (Some content) (Ok more) rest all later = cc
    by (Some content) (Err why) rest all later = let same : why ≡ ReadFault path = cc in later (rest ∙ ap Err same)
