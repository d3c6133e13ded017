-- Loops over the documents of a file, and what they make.
use Rattle.std.proofs.Common.{◌≡◌, ℕ, ◌+◌, ◌<◌, ◌≤◌, ◌++◌, ◌∷◌, [], List, length, take, map, get_or, Bool, true, false, Option, Some, None, is_some, true≢false, refl, sym, ap, ◌∙◌, arith, append_assoc, bytes_eq, cond}
use Rattle.std.specs.Prelude.{if◌then◌else◌}
use Rattle.std.proofs.lemmas.List.{append-nil, length-take-le, map-append, take_all}
use Rattle.std.proofs.lemmas.Slice.Eq.{bytes_eq-Decides}
use Rattle.mo_types.specs.Scan.{option_or_else}
use Rattle.tbd_doc.specs.declared.stub.Stub.{Stub}
use Rattle.indexmap.specs.IndexMap.{insert_entry}
use Rattle.lib_bind.specs.Closing.{place_in, with_file}
use Rattle.lib_bind.specs.Found.{found}
use Rattle.lib_bind.specs.declared.growing.Growing.{Growing}
use Rattle.lib_bind.proofs.ReachedLemmas.{front_more}

-- A loop that puts what a function makes of each element behind others.

pub record IsMapping {X Y : Type 0} (f : X → Y) (xs : List X) (before : List Y) (at : ℕ) (made : List Y) : Type 0 where
  pub same : made ≡ before ++ map f (take at xs)

pub map_starts : {X Y : Type 0} (f : X → Y) (xs : List X) (before : List Y) → IsMapping f xs before 0 before
map_starts f xs before = record { same = sym (append-nil before) }

pub map_goes_on : {X Y : Type 0} (f : X → Y) (xs : List X) (before : List Y) (at : ℕ) (made more : List Y) (x : X) (y : Y)
    → IsMapping f xs before at made → at < length xs → x ≡ get_or xs at x → y ≡ f x → more ≡ made ++ y ∷ [] → IsMapping f xs before (at + 1) more
map_goes_on f xs before at made more x y mapping within is value pushed =
    let next : map f (take (at + 1) xs) ≡ map f (take at xs) ++ f x ∷ [] = ap (map f) (front_more xs at x within is) ∙ map-append f (take at xs) (x ∷ []) in
    record {
      same = pushed ∙ ap (λ z. made ++ z ∷ []) value ∙ ap (λ zs. zs ++ f x ∷ []) mapping.same ∙ append_assoc before (map f (take at xs)) (f x ∷ [])
          ∙ ap (λ zs. before ++ zs) (sym next);
    }

pub map_ends : {X Y : Type 0} (f : X → Y) (xs : List X) (before : List Y) (at : ℕ) (made : List Y) → IsMapping f xs before at made → length xs ≤ at → made ≡ before ++ map f xs
map_ends f xs before at made mapping past = mapping.same ∙ ap (λ zs. before ++ map f zs) (take_all at xs past)

pub ruleset maps = (map_starts, map_goes_on, map_ends)

-- The places of documents by their install names.

abbrev one_place : Bool → ℕ → Option ℕ
one_place test place = if test then Some place else None

place_more : (first : ℕ) (stubs : List Stub) (stub : Stub) (install : List ℕ)
    → place_in first (stubs ++ stub ∷ []) install ≡ option_or_else (place_in first stubs install) (one_place (bytes_eq install stub.install) (first + length stubs))
place_more first [] stub install =
    let sum : first ≡ first + 0 = omega arith in
    ap (λ n. one_place (bytes_eq install stub.install) n) sum
place_more first (other ∷ stubs) stub install =
    let sum : first + 1 + length stubs ≡ first + length (other ∷ stubs) = omega arith in
    by (bytes_eq install other.install) (place_more (first + 1) stubs stub install ∙ ap (λ n. option_or_else (place_in (first + 1) stubs install) (one_place (bytes_eq install stub.install) n)) sum)
  where
    by : (test : Bool) → place_in (first + 1) (stubs ++ stub ∷ []) install ≡ option_or_else (place_in (first + 1) stubs install) (one_place (bytes_eq install stub.install) (first + length (other ∷ stubs)))
        → (if test then Some first else place_in (first + 1) (stubs ++ stub ∷ []) install) ≡ option_or_else (if test then Some first else place_in (first + 1) stubs install) (one_place (bytes_eq install stub.install) (first + length (other ∷ stubs)))
    by true rest = refl
    by false rest = rest

pub found_more : {V : Type 0} (name other : List ℕ) (value : V) (pairs : List (List ℕ × V))
    → found name (pairs ++ (other, value) ∷ []) ≡ option_or_else (found name pairs) (if bytes_eq name other then Some value else None)
found_more name other value [] = refl
found_more {V = V} name other value (pair ∷ pairs) = by (bytes_eq name pair.0) (found_more name other value pairs)
  where
    by : (test : Bool) → found name (pairs ++ (other, value) ∷ []) ≡ option_or_else (found name pairs) (if bytes_eq name other then Some value else None)
        → cond test (Some pair.1) (found name (pairs ++ (other, value) ∷ [])) ≡ option_or_else (cond test (Some pair.1) (found name pairs)) (if bytes_eq name other then Some value else None)
    by true rest = refl
    by false rest = rest

there_stays : (here : Option ℕ) (place : ℕ) (same : Bool) → (same ≡ true → is_some here ≡ true) → here ≡ option_or_else here (one_place same place)
there_stays (Some x) place same is = refl
there_stays None place false is = refl
there_stays None place true is = absurd (true≢false (sym (is refl)))

pub noted_there : (places : List (List ℕ × ℕ)) (name : List ℕ) (number : ℕ) (test : Bool) (got : Option ℕ) (other : List ℕ) → test ≡ true → test ≡ is_some got → got ≡ found name places
    → found other places ≡ option_or_else (found other places) (one_place (bytes_eq other name) number)
noted_there places name number test got other holds is value =
    there_stays (found other places) number (bytes_eq other name)
    (λ same. ap (λ n. is_some (found n places)) ((bytes_eq-Decides other name).0 same) ∙ ap is_some (sym value) ∙ sym is ∙ holds)

pub noted_new : (places more : List (List ℕ × ℕ)) (name : List ℕ) (number : ℕ) (other : List ℕ) → more ≡ places ++ (name, number) ∷ []
    → found other more ≡ option_or_else (found other places) (one_place (bytes_eq other name) number)
noted_new places more name number other is = ap (found other) is ∙ found_more other name number places

pub none_found : {V : Type 0} (test : Bool) (got : Option V) → test ≡ false → test ≡ is_some got → got ≡ None
none_found test None fails is = refl
none_found test (Some x) fails is = absurd (true≢false (sym is ∙ fails))

pub ruleset noting = (noted_there, noted_new, none_found)

pub record IsPlacing (first : ℕ) (stubs : List Stub) (at : ℕ) (places : List (List ℕ × ℕ)) : Type 0 where
  pub same : (install : List ℕ) → found install places ≡ place_in first (take at stubs) install

pub place_starts : (first : ℕ) (stubs : List Stub) → IsPlacing first stubs 0 []
place_starts first stubs = record { same = λ install. refl }

pub place_goes_on : (first : ℕ) (stubs : List Stub) (at number : ℕ) (places more : List (List ℕ × ℕ)) (stub : Stub) → IsPlacing first stubs at places → at < length stubs → stub ≡ get_or stubs at stub
    → number ≡ first + at → ((other : List ℕ) → found other more ≡ option_or_else (found other places) (one_place (bytes_eq other stub.install) number)) → IsPlacing first stubs (at + 1) more
place_goes_on first stubs at number places more stub placing within is sum notes = record {
  same = λ install.
      let low : at ≤ length stubs = omega arith in
      let count : number ≡ first + length (take at stubs) = sum ∙ ap (λ n. first + n) (sym (length-take-le at stubs low)) in
      notes install ∙ ap (λ before. option_or_else before (one_place (bytes_eq install stub.install) number)) (placing.same install)
      ∙ ap (λ n. option_or_else (place_in first (take at stubs) install) (one_place (bytes_eq install stub.install) n)) count
      ∙ sym (ap (λ front. place_in first front install) (front_more stubs at stub within is) ∙ place_more first (take at stubs) stub install);
}

pub place_ends : (first : ℕ) (stubs : List Stub) (at : ℕ) (places : List (List ℕ × ℕ)) (install : List ℕ) → IsPlacing first stubs at places → length stubs ≤ at → found install places ≡ place_in first stubs install
place_ends first stubs at places install placing past = placing.same install ∙ ap (λ front. place_in first front install) (take_all at stubs past)

pub ruleset placing = (place_starts, place_goes_on, place_ends)

-- A pair with a new name.

pub insert_new : {V : Type 0} (name : List ℕ) (value : V) (pairs : List (List ℕ × V)) → found name pairs ≡ None → insert_entry bytes_eq pairs name value ≡ pairs ++ (name, value) ∷ []
insert_new name value [] is = refl
insert_new {V = V} name value (pair ∷ pairs) is = by (bytes_eq name pair.0) is (insert_new name value pairs)
  where
    by : (test : Bool) → cond test (Some pair.1) (found name pairs) ≡ None → (found name pairs ≡ None → insert_entry bytes_eq pairs name value ≡ pairs ++ (name, value) ∷ [])
        → (if test then (pair.0, value) ∷ pairs else pair ∷ insert_entry bytes_eq pairs name value) ≡ pair ∷ (pairs ++ (name, value) ∷ [])
    by true none rest = absurd (cc)
    by false none rest = ap (λ more. pair ∷ more) (rest none)

-- What is known of paths, after a file.

pub file_known : (heads : List (List ℕ × ℕ)) (stubs : List Stub) (growing : Growing) → (with_file heads stubs growing).known ≡ growing.known
unfolding with_file
file_known heads stubs growing = refl

pub still_new : (heads : List (List ℕ × ℕ)) (stubs : List Stub) (growing next : Growing) (path : List ℕ) → next ≡ with_file heads stubs growing → found path growing.known ≡ None → found path next.known ≡ None
still_new heads stubs growing next path is new = ap (λ (g : Growing). found path g.known) is ∙ ap (found path) (file_known heads stubs growing) ∙ new

pub ruleset files = (still_new)
