-- The files by names, offer by offer and input by input.
use Rattle.std.proofs.Common.{◌≡◌, ℕ, zero, suc, ◌+◌, ◌<◌, ◌≤◌, ◌||◌, ◌++◌, Bool, true, false, List, [], ◌∷◌, length, take, get_or, Option, Some, None, refl, sym, ap, ◌∙◌, subst, arith}
use Rattle.std.specs.Prelude.{if◌then◌else◌, slice_get, option_map, is_some}
use Rattle.std.specs.Str.{bytes_eq}
use Rattle.std.proofs.lemmas.List.{take_all, take_more}
use Rattle.std.proofs.lemmas.List.Folds.{list_any_more}
use Rattle.std.proofs.lemmas.Slice.Eq.{bytes_eq-Decides}
use Rattle.mo_ar.specs.Offers.{first_offer, lesser}
use Rattle.mo_ar.specs.declared.archive.Archive.{Archive}
use Rattle.mo_ar.specs.declared.offers.Offer.{Offer}
use Rattle.mo_types.specs.Scan.{first_some, option_or_else}
use Rattle.mo_types.specs.declared.key.FileId.{FileId}
use Rattle.input_files.specs.Files.{archive_in, id_at}
use Rattle.member_rounds.specs.Rounds.{offer_as, offer_in}
use Rattle.input_files.specs.Sources.{inputs_of}
use Rattle.member_rounds.specs.declared.files_by_name.FilesByName.{FilesByName}
use Rattle.input_files.specs.declared.input.Input.{Input}
use Rattle.input_files.specs.declared.sources.Source.{Source}
use Rattle.member_rounds.specs.inner.Offered.{IsIndexOf, file_named, is_offered}

-- ---- one offer

or_none : {B : Type 0} (o : Option B) → option_or_else o None ≡ o
or_none (Some y) = refl
or_none None = refl

same_name : (a b : List ℕ) → bytes_eq a b ≡ true → a ≡ b
same_name a b is = (bytes_eq-Decides a b).0 is

stays : {B : Type 0} (o p : Option B) → is_some o ≡ true → o ≡ option_or_else o p
stays (Some y) p is = refl
stays None p is = absurd (let s : true ≡ false = sym is in cc)

replaced : {B : Type 0} (o p : Option B) → is_some o ≡ false → p ≡ option_or_else o p
replaced (Some y) p is = absurd (let s : true ≡ false = is in cc)
replaced None p is = refl

pub name_has : (old : FilesByName) (input : Input) (name : List ℕ) → is_some (file_named old name) ≡ true → (other : List ℕ) → file_named old other ≡ (if bytes_eq name other then option_or_else (file_named old other) (offer_in other input) else file_named old other)
name_has old input name has other = by (bytes_eq name other) refl
  where
    by : (b : Bool) → bytes_eq name other ≡ b → file_named old other ≡ (if b then option_or_else (file_named old other) (offer_in other input) else file_named old other)
    by true e = stays (file_named old other) (offer_in other input) (subst (λ (n : List ℕ). is_some (file_named old n) ≡ true) (same_name name other e) has)
    by false e = refl

pub name_gets : (old new : FilesByName) (input : Input) (name : List ℕ) (id : FileId) → is_some (file_named old name) ≡ false → Some id ≡ offer_in name input → ((other : List ℕ) → file_named new other ≡ (if bytes_eq name other then Some id else file_named old other)) → (other : List ℕ) → file_named new other ≡ (if bytes_eq name other then option_or_else (file_named old other) (offer_in other input) else file_named old other)
name_gets old new input name id lacks is more other = more other ∙ by (bytes_eq name other) refl
  where
    by : (b : Bool) → bytes_eq name other ≡ b → (if b then Some id else file_named old other) ≡ (if b then option_or_else (file_named old other) (offer_in other input) else file_named old other)
    by true e =
        let same : name ≡ other = same_name name other e in
        subst (λ (n : List ℕ). Some id ≡ offer_in n input) same is ∙ replaced (file_named old other) (offer_in other input) (subst (λ (n : List ℕ). is_some (file_named old n) ≡ false) same lacks)
    by false e = refl

pub name_lacks : (old : FilesByName) (input : Input) (name : List ℕ) → is_some (file_named old name) ≡ false → None ≡ offer_in name input → (other : List ℕ) → file_named old other ≡ (if bytes_eq name other then option_or_else (file_named old other) (offer_in other input) else file_named old other)
name_lacks old input name lacks is other = by (bytes_eq name other) refl
  where
    by : (b : Bool) → bytes_eq name other ≡ b → file_named old other ≡ (if b then option_or_else (file_named old other) (offer_in other input) else file_named old other)
    by true e =
        let none : None ≡ offer_in other input = subst (λ (n : List ℕ). None ≡ offer_in n input) (same_name name other e) is in
        sym (or_none (file_named old other)) ∙ ap (option_or_else (file_named old other)) none
    by false e = refl

pub ruleset one_offer = (name_has, name_gets, name_lacks)

-- ---- the offers of an archive

-- the files by names after the offers before a place
pub record IsOffering (before now : FilesByName) (input : Input) (offers : List Offer) (i : ℕ) : Type 0 where
  pub each : (name : List ℕ) → file_named now name ≡ (if is_offered name (take i offers) then option_or_else (file_named before name) (offer_in name input) else file_named before name)

pub offers_start : (before : FilesByName) (input : Input) (offers : List Offer) → IsOffering before before input offers 0
offers_start before input offers = record { each = λ name. refl }

got : (offers : List Offer) (i : ℕ) (offer : Offer) → slice_get offers i ≡ Some offer → (i < length offers) × (get_or offers i offer ≡ offer)
got [] i offer is = absurd (let s : None ≡ Some offer = is in cc)
got (o ∷ offers) zero offer is = (omega arith, let s : Some o ≡ Some offer = is in cc)
got (o ∷ offers) (suc i) offer is = let r = got offers i offer is in (omega (arith, r.0), r.1)

merged : {B : Type 0} (a b : Bool) (o p : Option B) → (if b then option_or_else (if a then option_or_else o p else o) p else (if a then option_or_else o p else o)) ≡ (if a || b then option_or_else o p else o)
merged true true (Some y) p = refl
merged true true None (Some y) = refl
merged true true None None = refl
merged true false o p = refl
merged false true o p = refl
merged false false o p = refl

pub offers_step : (before now next : FilesByName) (input : Input) (offers : List Offer) (i : ℕ) (name : List ℕ) (member : ℕ) → IsOffering before now input offers i → slice_get offers i ≡ Some (record { name = name; member = member }) → ((other : List ℕ) → file_named next other ≡ (if bytes_eq name other then option_or_else (file_named now other) (offer_in other input) else file_named now other)) → IsOffering before next input offers (i + 1)
offers_step before now next input offers i name member so is more = record {
  each = λ other.
      let offer : Offer = record { name = name; member = member } in
      let at = got offers i offer is in
      let any : is_offered other (take (i + 1) offers) ≡ (is_offered other (take i offers) || bytes_eq name other) = list_any_more (λ (o : Offer). bytes_eq o.name other) offers i offer at.0 ∙ ap (λ (o : Offer). is_offered other (take i offers) || bytes_eq o.name other) at.1 in
      more other
      ∙ ap (λ (o : Option FileId). if bytes_eq name other then option_or_else o (offer_in other input) else o) (so.each other)
      ∙ merged (is_offered other (take i offers)) (bytes_eq name other) (file_named before other) (offer_in other input)
      ∙ ap (λ (b : Bool). if b then option_or_else (file_named before other) (offer_in other input) else file_named before other) (sym any);
}

pub offers_end : (before now : FilesByName) (input : Input) (offers : List Offer) (i : ℕ) → IsOffering before now input offers i → length offers ≤ i → (name : List ℕ) → file_named now name ≡ (if is_offered name offers then option_or_else (file_named before name) (offer_in name input) else file_named before name)
offers_end before now input offers i so past name = so.each name ∙ ap (λ (os : List Offer). if is_offered name os then option_or_else (file_named before name) (offer_in name input) else file_named before name) (take_all i offers past)

pub ruleset offers = (offers_start, offers_step, offers_end)

-- ---- an archive

unoffered : (name : List ℕ) (offers : List Offer) → is_offered name offers ≡ false → first_offer name offers ≡ None
unfolding first_offer
unoffered name [] none = refl
unoffered name (offer ∷ offers) none = by (λ away. unoffered name offers away) (bytes_eq offer.name name) refl
  where
    by : (is_offered name offers ≡ false → first_offer name offers ≡ None) → (b : Bool) → bytes_eq offer.name name ≡ b → (if bytes_eq offer.name name then Some (lesser offer.member (first_offer name offers)) else first_offer name offers) ≡ None
    by rest true e = absurd (let s : (bytes_eq offer.name name || is_offered name offers) ≡ false = none in let t : true ≡ false = rw e at s in cc)
    by rest false e = rw e (rest (let s : (bytes_eq offer.name name || is_offered name offers) ≡ false = none in rw e at s))

pub archive_offers : (before now : FilesByName) (input : Input) (archive : Archive) → Some archive ≡ archive_in input → ((name : List ℕ) → file_named now name ≡ (if is_offered name archive.offers then option_or_else (file_named before name) (offer_in name input) else file_named before name)) → (name : List ℕ) → file_named now name ≡ option_or_else (file_named before name) (offer_in name input)
unfolding offer_in
archive_offers before now input archive is each name = each name ∙ by (is_offered name archive.offers) refl
  where
    by : (b : Bool) → is_offered name archive.offers ≡ b → (if b then option_or_else (file_named before name) (offer_as name input (archive_in input)) else file_named before name) ≡ option_or_else (file_named before name) (offer_as name input (archive_in input))
    by true e = refl
    by false e =
        let none : offer_as name input (archive_in input) ≡ None = ap (offer_as name input) (sym is) ∙ ap (option_map (id_at input)) (unoffered name archive.offers e) in
        sym (ap (option_or_else (file_named before name)) none ∙ or_none (file_named before name))

pub no_archive_offers : (before : FilesByName) (input : Input) → None ≡ archive_in input → (name : List ℕ) → file_named before name ≡ option_or_else (file_named before name) (offer_in name input)
unfolding offer_in
no_archive_offers before input is name = sym (ap (λ (o : Option Archive). option_or_else (file_named before name) (offer_as name input o)) (sym is) ∙ or_none (file_named before name))

pub ruleset archives = (archive_offers, no_archive_offers)

-- ---- the inputs

over_inputs : {B : Type 0} (f : Input → Option B) (sources : List Source) → first_some (λ source. f source.input) sources ≡ first_some f (inputs_of sources)
over_inputs f [] = refl
over_inputs f (source ∷ sources) = ap (option_or_else (f source.input)) (over_inputs f sources)

one_more : {A B : Type 0} (f : A → Option B) (xs : List A) (x : A) → first_some f (xs ++ x ∷ []) ≡ option_or_else (first_some f xs) (f x)
one_more f [] x = or_none (f x)
one_more f (y ∷ xs) x = ap (option_or_else (f y)) (one_more f xs x) ∙ grouped (f y) (first_some f xs) (f x)
  where
    grouped : {B : Type 0} (a b c : Option B) → option_or_else a (option_or_else b c) ≡ option_or_else (option_or_else a b) c
    grouped (Some v) b c = refl
    grouped None b c = refl

-- the files by names of the inputs before a place
pub record IsIndexing (sources : List Source) (i : ℕ) (index : FilesByName) : Type 0 where
  pub each : (name : List ℕ) → file_named index name ≡ first_some (λ source. offer_in name source.input) (take i sources)

pub index_start : (sources : List Source) (index : FilesByName) → ((name : List ℕ) → file_named index name ≡ None) → IsIndexing sources 0 index
index_start sources index none = record { each = none }

pub index_step : (sources : List Source) (i : ℕ) (source : Source) (index next : FilesByName) → IsIndexing sources i index → i < length sources → source ≡ get_or sources i source → ((name : List ℕ) → file_named next name ≡ option_or_else (file_named index name) (offer_in name source.input)) → IsIndexing sources (i + 1) next
index_step sources i source index next so low is more = record {
  each = λ name.
      more name ∙ ap (λ (o : Option FileId). option_or_else o (offer_in name source.input)) (so.each name)
      ∙ sym (one_more (λ (s : Source). offer_in name s.input) (take i sources) source)
      ∙ ap (first_some (λ (s : Source). offer_in name s.input)) (sym (take_more sources i source low ∙ ap (λ (s : Source). take i sources ++ s ∷ []) (sym is)));
}

pub index_end : (sources : List Source) (i : ℕ) (index : FilesByName) → IsIndexing sources i index → length sources ≤ i → IsIndexOf (inputs_of sources) index
index_end sources i index so past = record {
  leads = λ name. so.each name ∙ ap (first_some (λ (s : Source). offer_in name s.input)) (take_all i sources past) ∙ over_inputs (offer_in name) sources;
}

pub ruleset indexes = (index_start, index_step, index_end)
