-- What a first offer says of paths and documents.
use Rattle.std.proofs.Common.{◌≡◌, ◌↔◌, ℕ, zero, suc, ◌<◌, Bool, true, false, IsTrue, List, [], ◌∷◌, length, get_or, slice_get, Contains, Option, Some, None, refl, sym, ap, subst, ◌∙◌, arith}
use Rattle.std.specs.Prelude.{is_some, option_map, zip, if◌then◌else◌}
use Rattle.std.specs.List.{list_any}
use Rattle.std.proofs.lemmas.Option.{slice_get-get_or, slice_get_within}
use Rattle.list_lemmas.proofs.Members.{In, in_from_Contains, Contains_from_in, any_from_in, any_true}
use Rattle.mo_types.specs.Scan.{first_some, option_or_else}
use Rattle.tbd_doc.specs.declared.stub.Stub.{Stub}
use Rattle.lib_bind.specs.Graph.{AreReached, IsWhole, Leads, Reaches}
use Rattle.lib_bind.specs.Provides.{Finds, IsFirst, IsProvidedBy, Provides, Weakens, exports_at, offer_by, offer_of, provider_by, provider_of, weakens_at}
use Rattle.lib_bind.specs.declared.library.Library.{Library}
use Rattle.lib_bind.specs.declared.library.LibraryGraph.{LibraryGraph}
use Rattle.lib_bind.specs.declared.provider.Offer.{Offer}
use Rattle.lib_bind.specs.declared.provider.Provider.{Provider}

-- ---- the first answer of a list

record IsFound {A B : Type 0} (f : A → Option B) (xs : List A) (y : B) : Type 0 where
  at : ℕ
  x : A
  there : slice_get xs at ≡ Some x
  answer : f x ≡ Some y
  before : (j : ℕ) (z : A) → j < at → slice_get xs j ≡ Some z → f z ≡ None

here : {A B : Type 0} (f : A → Option B) (x : A) (xs : List A) (y : B) → f x ≡ Some y → IsFound f (x ∷ xs) y
here f x xs y is = record { at = 0; x = x; there = refl; answer = is; before = λ j z low. absurd (omega (arith, low)) }

later_before : {A B : Type 0} (f : A → Option B) (x : A) (xs : List A) (at : ℕ) → f x ≡ None → ((j : ℕ) (z : A) → j < at → slice_get xs j ≡ Some z → f z ≡ None) → (j : ℕ) (z : A) → j < suc at → slice_get (x ∷ xs) j ≡ Some z → f z ≡ None
later_before {A = A} f x xs at none before zero z low is = let same : x ≡ z = (let e : Some x ≡ Some z = is in cc) in subst (λ (w : A). f w ≡ None) same none
later_before f x xs at none before (suc j) z low is = before j z (omega (arith, low)) is

later : {A B : Type 0} (f : A → Option B) (x : A) (xs : List A) (y : B) → f x ≡ None → IsFound f xs y → IsFound f (x ∷ xs) y
later f x xs y none found = record { at = suc found.at; x = found.x; there = found.there; answer = found.answer; before = later_before f x xs found.at none found.before }

not_both : {A : Type 0} (y : A) → None ≡ Some y → ⊥
not_both y is = let e : false ≡ true = ap is_some is in cc

found_by : {A B : Type 0} (f : A → Option B) (x : A) (xs : List A) (y : B) (o : Option B) → f x ≡ o → option_or_else o (first_some f xs) ≡ Some y → (first_some f xs ≡ Some y → IsFound f xs y) → IsFound f (x ∷ xs) y
found_by f x xs y None is first rest = later f x xs y is (rest first)
found_by f x xs y (Some z) is first rest = here f x xs y (is ∙ first)

first_found : {A B : Type 0} (f : A → Option B) (xs : List A) (y : B) → first_some f xs ≡ Some y → IsFound f xs y
first_found f [] y is = absurd (not_both y is)
first_found f (x ∷ xs) y is = found_by f x xs y (f x) refl is (first_found f xs y)

none_first : {B : Type 0} (o p : Option B) → option_or_else o p ≡ None → o ≡ None
none_first None p is = refl
none_first (Some y) p is = is

none_rest : {B : Type 0} (o p : Option B) → option_or_else o p ≡ None → p ≡ None
none_rest None p is = is
none_rest (Some y) p is = absurd (not_both y (sym is))

none_found : {A B : Type 0} (f : A → Option B) (xs : List A) → first_some f xs ≡ None → (at : ℕ) (x : A) → slice_get xs at ≡ Some x → f x ≡ None
none_found f [] none at x is = absurd (not_both x is)
none_found {A = A} f (y ∷ xs) none zero x is = let same : y ≡ x = (let e : Some y ≡ Some x = is in cc) in subst (λ (w : A). f w ≡ None) same (none_first (f y) (first_some f xs) none)
none_found f (y ∷ xs) none (suc at) x is = none_found f xs (none_rest (f y) (first_some f xs) none) at x is

-- ---- pairs

zipped : {A B : Type 0} (xs : List A) (ys : List B) (at : ℕ) (x : A) (y : B) → slice_get xs at ≡ Some x → slice_get ys at ≡ Some y → slice_get (zip xs ys) at ≡ Some (x, y)
zipped [] ys at x y is there = absurd (not_both x is)
zipped (v ∷ xs) [] at x y is there = absurd (not_both y there)
zipped (v ∷ xs) (w ∷ ys) zero x y is there = let e : v ≡ x = (let h : Some v ≡ Some x = is in cc) in let f : w ≡ y = (let h : Some w ≡ Some y = there in cc) in cc
zipped (v ∷ xs) (w ∷ ys) (suc at) x y is there = zipped xs ys at x y is there

pair_parts : {A B : Type 0} (v : A) (w : B) (p : A × B) → Some (v, w) ≡ Some p → (Some v ≡ Some p.0) × (Some w ≡ Some p.1)
pair_parts v w p is = let e : (v, w) ≡ p = (let h : Some (v, w) ≡ Some p = is in cc) in (ap (λ q. Some q.0) e, ap (λ q. Some q.1) e)

unzipped : {A B : Type 0} (xs : List A) (ys : List B) (at : ℕ) (p : A × B) → slice_get (zip xs ys) at ≡ Some p → (slice_get xs at ≡ Some p.0) × (slice_get ys at ≡ Some p.1)
unzipped [] ys at p is = absurd (not_both p is)
unzipped (v ∷ xs) [] at p is = absurd (not_both p is)
unzipped (v ∷ xs) (w ∷ ys) zero p is = pair_parts v w p is
unzipped (v ∷ xs) (w ∷ ys) (suc at) p is = unzipped xs ys at p is

-- ---- a library's offer

abbrev offered : Library → Bool → Bool → Option Offer
offered library true weak = Some (record { library = library; weak = weak })
offered library false weak = None

offer_is : (documents : List Stub) (name : List ℕ) (pair : Library × List ℕ) → offer_by documents name pair ≡ offered pair.0 (list_any (exports_at documents name) pair.1) (list_any (weakens_at documents name) pair.1)
unfolding offer_by
offer_is documents name pair = by (list_any (exports_at documents name) pair.1)
  where
    by : (b : Bool) → (if b then Some (record { library = pair.0; weak = list_any (weakens_at documents name) pair.1 }) else None) ≡ offered pair.0 b (list_any (weakens_at documents name) pair.1)
    by true = refl
    by false = refl

offered_some : (library : Library) (e w : Bool) (offer : Offer) → offered library e w ≡ Some offer → (e ≡ true) × (library ≡ offer.library) × (w ≡ offer.weak)
offered_some library true w offer is = let same : record { library = library; weak = w } ≡ offer = (let h : Some (record { library = library; weak = w }) ≡ Some offer = is in cc) in (refl, ap (λ (o : Offer). o.library) same, ap (λ (o : Offer). o.weak) same)
offered_some library false w offer is = absurd (not_both offer is)

offered_none : (library : Library) (e w : Bool) → offered library e w ≡ None → e ≡ false
offered_none library true w is = absurd (not_both _ (sym is))
offered_none library false w is = refl

finds : (graph : LibraryGraph) (test : ℕ → Bool) (library : Library) (reached : List ℕ) → AreReached graph.links library.document reached → list_any test reached ≡ true → Finds graph test library
finds graph test library reached are any =
    let it : (d : ℕ) × In d reached × (test d ≡ true) = any_true test reached any in
    record { document = it.0; reached = are.only it.0 (Contains_from_in reached it.0 it.1); passes = it.2 }

is_found : (graph : LibraryGraph) (test : ℕ → Bool) (library : Library) (reached : List ℕ) → AreReached graph.links library.document reached → Finds graph test library → list_any test reached ≡ true
is_found graph test library reached are found =
    any_from_in test reached found.document (in_from_Contains reached found.document (are.all found.document found.reached)) found.passes

-- ---- libraries that are whole

reached_at : (graph : LibraryGraph) → IsWhole graph → (at : ℕ) (library : Library) → slice_get graph.libraries at ≡ Some library → AreReached graph.links library.document (get_or graph.reach at [])
reached_at graph whole at library is = whole.reach.reached at library is

reach_there : (graph : LibraryGraph) → IsWhole graph → (at : ℕ) (library : Library) → slice_get graph.libraries at ≡ Some library → slice_get graph.reach at ≡ Some (get_or graph.reach at [])
reach_there graph whole at library is =
    let each : length graph.reach ≡ length graph.libraries = whole.reach.each in
    let low : at < length graph.libraries = slice_get_within graph.libraries at library is in
    slice_get-get_or graph.reach at [] (omega (arith, each, low))

-- the pair of a library that is asked for its offer
pair_at : (graph : LibraryGraph) → IsWhole graph → (at : ℕ) (library : Library) → slice_get graph.libraries at ≡ Some library → slice_get (zip graph.libraries graph.reach) at ≡ Some (library, get_or graph.reach at [])
pair_at graph whole at library is = zipped graph.libraries graph.reach at library (get_or graph.reach at []) is (reach_there graph whole at library is)

refused : (graph : LibraryGraph) (name : List ℕ) → IsWhole graph → (at : ℕ) (library : Library) → slice_get graph.libraries at ≡ Some library → offer_by graph.documents name (library, get_or graph.reach at []) ≡ None → ¬ Provides graph name library
refused graph name whole at library is none provides =
    let no : list_any (exports_at graph.documents name) (get_or graph.reach at []) ≡ false = offered_none library _ _ (sym (offer_is graph.documents name (library, get_or graph.reach at [])) ∙ none) in
    let yes : list_any (exports_at graph.documents name) (get_or graph.reach at []) ≡ true = is_found graph (exports_at graph.documents name) library (get_or graph.reach at []) (reached_at graph whole at library is) provides in
    let e : false ≡ true = sym no ∙ yes in cc

-- what the pair of an offer says
record IsOffered (graph : LibraryGraph) (name : List ℕ) (offer : Offer) : Type 0 where
  at : ℕ
  first : IsFirst graph name at offer.library
  weak : offer.weak ≡ list_any (weakens_at graph.documents name) (get_or graph.reach at [])

offered_first : (graph : LibraryGraph) (name : List ℕ) (offer : Offer) → IsWhole graph → IsFound (offer_by graph.documents name) (zip graph.libraries graph.reach) offer → IsOffered graph name offer
offered_first graph name offer whole found =
    let parts : (slice_get graph.libraries found.at ≡ Some found.x.0) × (slice_get graph.reach found.at ≡ Some found.x.1) = unzipped graph.libraries graph.reach found.at found.x found.there in
    let offer_parts : (list_any (exports_at graph.documents name) found.x.1 ≡ true) × (found.x.0 ≡ offer.library) × (list_any (weakens_at graph.documents name) found.x.1 ≡ offer.weak)
    = offered_some found.x.0 _ _ offer (sym (offer_is graph.documents name found.x) ∙ found.answer) in
    let there : slice_get graph.libraries found.at ≡ Some offer.library = parts.0 ∙ ap Some offer_parts.1 in
    let reached : found.x.1 ≡ get_or graph.reach found.at [] = (let e : Some found.x.1 ≡ Some (get_or graph.reach found.at []) = sym parts.1 ∙ reach_there graph whole found.at offer.library there in cc) in
    record {
      at = found.at;
      first = record {
        there = there;
        provides = finds graph (exports_at graph.documents name) offer.library (get_or graph.reach found.at []) (reached_at graph whole found.at offer.library there)
            (subst (λ (ds : List ℕ). list_any (exports_at graph.documents name) ds ≡ true) reached offer_parts.0);
        first = λ before other low is. refused graph name whole before other is (found.before before (other, get_or graph.reach before []) low (pair_at graph whole before other is));
      };
      weak = sym offer_parts.2 ∙ ap (λ (ds : List ℕ). list_any (weakens_at graph.documents name) ds) reached;
    }

offer_found : (graph : LibraryGraph) (name : List ℕ) (offer : Offer) → offer_of graph name ≡ Some offer → IsFound (offer_by graph.documents name) (zip graph.libraries graph.reach) offer
unfolding offer_of
offer_found graph name offer is = first_found (offer_by graph.documents name) (zip graph.libraries graph.reach) offer is

offer_none : (graph : LibraryGraph) (name : List ℕ) → offer_of graph name ≡ None → (at : ℕ) (pair : Library × List ℕ) → slice_get (zip graph.libraries graph.reach) at ≡ Some pair → offer_by graph.documents name pair ≡ None
unfolding offer_of
offer_none graph name is = none_found (offer_by graph.documents name) (zip graph.libraries graph.reach) is

pub first_offer : (graph : LibraryGraph) (name : List ℕ) (offer : Offer) → IsWhole graph → offer_of graph name ≡ Some offer → (at : ℕ) × IsFirst graph name at offer.library
first_offer graph name offer whole is = let o : IsOffered graph name offer = offered_first graph name offer whole (offer_found graph name offer is) in (o.at, o.first)

provider_parts : (o : Option Offer) (provider : Provider) → option_map provider_by o ≡ Some provider → (offer : Offer) × (o ≡ Some offer) × (provider_by offer ≡ provider)
provider_parts None provider is = absurd (not_both provider is)
provider_parts (Some offer) provider is = (offer, refl, (let e : Some (provider_by offer) ≡ Some provider = is in cc))

weak_listed : (graph : LibraryGraph) (name : List ℕ) (offer : Offer) (o : IsOffered graph name offer) → IsWhole graph → (weak : Bool) → offer.weak ≡ weak → IsTrue weak ↔ Weakens graph name offer.library
weak_listed graph name offer o whole weak is =
    let are : AreReached graph.links offer.library.document (get_or graph.reach o.at []) = reached_at graph whole o.at offer.library o.first.there in (
      λ true_is. finds graph (weakens_at graph.documents name) offer.library (get_or graph.reach o.at []) are (sym o.weak ∙ is ∙ true_is),
      λ found. sym is ∙ o.weak ∙ is_found graph (weakens_at graph.documents name) offer.library (get_or graph.reach o.at []) are found,
    )

pub first_provider : (graph : LibraryGraph) (name : List ℕ) (provider : Provider) → IsWhole graph → provider_of graph name ≡ Some provider → IsProvidedBy graph name provider
first_provider graph name provider whole is =
    let parts : (offer : Offer) × (offer_of graph name ≡ Some offer) × (provider_by offer ≡ provider) = provider_parts (offer_of graph name) provider is in
    let o : IsOffered graph name parts.0 = offered_first graph name parts.0 whole (offer_found graph name parts.0 parts.1) in
    record {
      at = o.at;
      library = parts.0.library;
      first = o.first;
      ordinal = sym (ap (λ (p : Provider). p.ordinal) parts.2) ∙ whole.libraries.ordinals o.at parts.0.library o.first.there;
      weak = weak_listed graph name parts.0 o whole provider.weak (ap (λ (p : Provider). p.weak) parts.2);
      weak_library = sym (ap (λ (p : Provider). p.weak_library) parts.2);
    }

no_offer : (o : Option Offer) → option_map provider_by o ≡ None → o ≡ None
no_offer None is = refl
no_offer (Some offer) is = absurd (not_both _ (sym is))

pub no_provider : (graph : LibraryGraph) (name : List ℕ) (at : ℕ) (library : Library) → IsWhole graph → provider_of graph name ≡ None → slice_get graph.libraries at ≡ Some library → Provides graph name library → ⊥
no_provider graph name at library whole none is provides =
    refused graph name whole at library is (offer_none graph name (no_offer (offer_of graph name) none) at (library, get_or graph.reach at []) (pair_at graph whole at library is)) provides

pub ruleset providers = (first_offer, first_provider, no_provider)

pub reach_all : (graph : LibraryGraph) (at : ℕ) (library : Library) (path : List ℕ) (to : ℕ) → IsWhole graph → slice_get graph.libraries at ≡ Some library → Leads graph.links library.document path to → Contains (get_or graph.reach at []) to
reach_all graph at library path to whole is leads = (reached_at graph whole at library is).all to (record { path = path; leads = leads })

pub reach_only : (graph : LibraryGraph) (at : ℕ) (library : Library) (to : ℕ) → IsWhole graph → slice_get graph.libraries at ≡ Some library → Contains (get_or graph.reach at []) to → (path : List ℕ) × Leads graph.links library.document path to
reach_only graph at library to whole is there = let r : Reaches graph.links library.document to = (reached_at graph whole at library is).only to there in (r.path, r.leads)

pub ruleset reach = (reach_all, reach_only)
