-- Documents that are looked at one by one, for the library that reaches them.
use Rattle.std.proofs.Common.{◌≡◌, ℕ, ◌+◌, ◌<◌, ◌≤◌, ◌⊎◌, Bool, true, false, ◌&&◌, ◌||◌, nat_eq, List, [], ◌∷◌, ◌++◌, length, take, get_or, slice_get, Contains, Option, None, Some, IsSome, refl, sym, ap, subst, ◌∙◌, inl, inr, arith}
use Rattle.std.specs.Prelude.{bytes_eq, is_some, zip}
use Rattle.std.specs.List.{list_any}
use Rattle.std.proofs.lemmas.List.{get_or_default, take_all, take_more}
use Rattle.std.proofs.lemmas.List.Elements.{Contains-push}
use Rattle.std.proofs.lemmas.Slice.Zip.{get_or-zip, length-zip}
use Rattle.std.proofs.lemmas.Option.{slice_get-get_or}
use Rattle.list_lemmas.proofs.Members.{in_from_Contains, Contains_from_in, any_from_in, in_left}
use Rattle.mo_types.specs.Scan.{first_some, option_or_else}
use Rattle.tbd_doc.specs.declared.stub.Export.{Export}
use Rattle.tbd_doc.specs.declared.stub.Stub.{Stub}
use Rattle.lib_bind.specs.Provides.{exports, exports_at, offer_by, weakens, weakens_at, no_document}
use Rattle.lib_bind.specs.declared.fill.Filling.{Filling}
use Rattle.lib_bind.specs.declared.index.NameIndex.{NameIndex}
use Rattle.lib_bind.specs.declared.library.Library.{Library}
use Rattle.lib_bind.specs.declared.provider.Offer.{Offer}
use Rattle.lib_bind.specs.inner.Filling.{Covers, IsBefore, merged}
use Rattle.lib_bind.specs.inner.Index.{known}
use Rattle.lib_bind.proofs.FillLemmas.{and_left, any_next, merged_none, step, weaker_any}

-- a document that lists a name as weak exports it
weak_exported : (name : List ℕ) (document : Stub) → weakens name document ≡ true → exports name document ≡ true
unfolding exports weakens
weak_exported name document h = weaker_any _ _ (λ export. and_left _ export.weak) document.exports h

pub weak_exported_at : (documents : List Stub) (name : List ℕ) (d : ℕ) → weakens_at documents name d ≡ true → exports_at documents name d ≡ true
weak_exported_at documents name d h = weak_exported name (get_or documents d no_document) h

not_true : (a b : Bool) → (a ≡ true → b ≡ true) → b ≡ false → a ≡ false
not_true true b only is = sym (only refl) ∙ is
not_true false b only is = refl

or_false : (a : Bool) → (a || false) ≡ a
or_false true = refl
or_false false = refl

-- ---- a front of a list

pub front_more : {A : Type 0} (xs : List A) (i : ℕ) (x : A) → i < length xs → x ≡ get_or xs i x → take (i + 1) xs ≡ take i xs ++ x ∷ []
front_more xs i x within is = take_more xs i x within ∙ ap (λ y. take i xs ++ y ∷ []) (sym is)

pub contains_left : {X : Type 0} (xs ys : List X) (x : X) → Contains xs x → Contains (xs ++ ys) x
contains_left xs ys x h = Contains_from_in (xs ++ ys) x (in_left xs ys x (in_from_Contains xs x h))

more_has : {X : Type 0} (xs : List X) (i : ℕ) (item x : X) → i < length xs → item ≡ get_or xs i item → Contains (take i xs) x → Contains (take (i + 1) xs) x
more_has xs i item x within is h = subst (λ ys. Contains ys x) (sym (front_more xs i item within is)) (contains_left (take i xs) (item ∷ []) x h)

more_has_item : {X : Type 0} (xs : List X) (i : ℕ) (item : X) → i < length xs → item ≡ get_or xs i item → Contains (take (i + 1) xs) item
more_has_item xs i item within is = subst (λ ys. Contains ys item) (sym (front_more xs i item within is)) (Contains-push (take i xs) item)

again : {X : Type 0} (t : X → Bool) (xs : List X) (x : X) (b : Bool) → Contains xs x → t x ≡ b → (list_any t xs || b) ≡ list_any t xs
again t xs x true h is = let e : list_any t xs ≡ true = any_from_in t xs x (in_from_Contains xs x h) is in rw e refl
again t xs x false h is = or_false (list_any t xs)

pub number_at : (xs : List ℕ) (i : ℕ) → i < length xs → get_or xs i 0 ≡ get_or xs i (get_or xs i 0)
number_at xs i within = get_or_default xs i 0 (get_or xs i 0) within

pub contains_at : (xs : List ℕ) (i : ℕ) → i < length xs → Contains xs (get_or xs i 0)
contains_at xs i within = (i, within, sym (number_at xs i within))

-- ---- one library

-- what the documents of a front give beside what was known before
pub record IsFilling (documents : List Stub) (library : Library) (before now : Filling) (front : List ℕ) : Type 0 where
  pub size : length now.seen.items ≡ length documents
  pub names : (name : List ℕ) → known now.index name ≡ merged library (known before.index name) (list_any (exports_at documents name) front) (list_any (weakens_at documents name) front)
  pub marked : (d : ℕ) → get_or now.seen.items d false ≡ true → Contains front d ⊎ ((name : List ℕ) → exports_at documents name d ≡ true → IsSome (known before.index name))

pub starts : (documents : List Stub) (library : Library) (before : Filling) → length before.seen.items ≡ length documents → Covers documents before → IsFilling documents library before before []
starts documents library before size covers = record {
  size = size;
  names = λ name. sym (merged_none library _);
  marked = λ d is. inr (covers.names d is);
}

number_apart : (a b : ℕ) → a < b → nat_eq a b ≡ false
number_apart a b h = grind arith

lesser_apart : (ordinal : ℕ) (index : NameIndex) (name : List ℕ) (offer : Offer) → IsBefore ordinal index → known index name ≡ Some offer → nat_eq offer.library.ordinal ordinal ≡ false
lesser_apart ordinal index name offer before is = number_apart offer.library.ordinal ordinal (before.lesser name offer is)

-- another document changes nothing of a name that is known of a library before, nor of one that it doesn't export
same_merged : (library : Library) (x : Option Offer) (e f w v : Bool) → ((offer : Offer) → x ≡ Some offer → nat_eq offer.library.ordinal library.ordinal ≡ false) → (f ≡ true → IsSome x) → (v ≡ true → f ≡ true) → merged library x e w ≡ merged library x (e || f) (w || v)
same_merged library None e true w v other some only = let h : false ≡ true = some refl in cc
same_merged library None e false w true other some only = let h : false ≡ true = only refl in cc
same_merged library None e false w false other some only =
    ap (λ (b : Bool). merged library None b w) (sym (or_false e)) ∙ ap (λ (b : Bool). merged library None (e || false) b) (sym (or_false w))
same_merged library (Some offer) e f w v other some only = let apart : nat_eq offer.library.ordinal library.ordinal ≡ false = other offer refl in rw apart refl

seen_names : (documents : List Stub) (library : Library) (before now : Filling) (new : NameIndex) (xs : List ℕ) (i item : ℕ) → IsFilling documents library before now (take i xs) → i < length xs → item ≡ get_or xs i item → IsBefore library.ordinal before.index
    → Contains (take i xs) item ⊎ ((name : List ℕ) → exports_at documents name item ≡ true → IsSome (known before.index name))
    → (name : List ℕ) → known new name ≡ known now.index name
    → known new name ≡ merged library (known before.index name) (list_any (exports_at documents name) (take (i + 1) xs)) (list_any (weakens_at documents name) (take (i + 1) xs))
seen_names documents library before now new xs i item filling within is first (inl there) name same =
    same ∙ filling.names name
    ∙ ap (λ (b : Bool). merged library (known before.index name) b (list_any (weakens_at documents name) (take i xs))) (sym (any_next (exports_at documents name) xs i item within is ∙ again (exports_at documents name) (take i xs) item (exports_at documents name item) there refl))
    ∙ ap (λ (b : Bool). merged library (known before.index name) (list_any (exports_at documents name) (take (i + 1) xs)) b) (sym (any_next (weakens_at documents name) xs i item within is ∙ again (weakens_at documents name) (take i xs) item (weakens_at documents name item) there refl))
seen_names documents library before now new xs i item filling within is first (inr provided) name same =
    let unchanged : merged library (known before.index name) (list_any (exports_at documents name) (take i xs)) (list_any (weakens_at documents name) (take i xs))
    ≡ merged library (known before.index name) (list_any (exports_at documents name) (take i xs) || exports_at documents name item) (list_any (weakens_at documents name) (take i xs) || weakens_at documents name item)
    = same_merged library (known before.index name) _ _ _ _ (λ offer known_is. lesser_apart library.ordinal before.index name offer first known_is) (provided name) (weak_exported_at documents name item) in
    same ∙ filling.names name ∙ unchanged
    ∙ ap (λ (b : Bool). merged library (known before.index name) b (list_any (weakens_at documents name) (take i xs) || weakens_at documents name item)) (sym (any_next (exports_at documents name) xs i item within is))
    ∙ ap (λ (b : Bool). merged library (known before.index name) (list_any (exports_at documents name) (take (i + 1) xs)) b) (sym (any_next (weakens_at documents name) xs i item within is))

next_names : (documents : List Stub) (library : Library) (before now new : Filling) (xs : List ℕ) (i item : ℕ) → IsFilling documents library before now (take i xs) → i < length xs → item ≡ get_or xs i item → IsBefore library.ordinal before.index
    → (get_or now.seen.items item false ≡ false → (name : List ℕ) → known new.index name ≡ merged library (known now.index name) (exports_at documents name item) (weakens_at documents name item))
    → (get_or now.seen.items item false ≡ true → (name : List ℕ) → known new.index name ≡ known now.index name)
    → (b : Bool) → get_or now.seen.items item false ≡ b
    → (name : List ℕ) → known new.index name ≡ merged library (known before.index name) (list_any (exports_at documents name) (take (i + 1) xs)) (list_any (weakens_at documents name) (take (i + 1) xs))
next_names documents library before now new xs i item filling within is first added same true mark name =
    seen_names documents library before now new.index xs i item filling within is first (filling.marked item mark) name (same mark name)
next_names documents library before now new xs i item filling within is first added same false mark name =
    step library _ _ _ (exports_at documents name) (weakens_at documents name) xs i item within is (filling.names name) (added mark name) (weak_exported_at documents name)

next_marked : (documents : List Stub) (before now new : Filling) (xs : List ℕ) (i item d : ℕ) → i < length xs → item ≡ get_or xs i item
    → (get_or now.seen.items d false ≡ true → Contains (take i xs) d ⊎ ((name : List ℕ) → exports_at documents name d ≡ true → IsSome (known before.index name)))
    → (d ≡ item) ⊎ (get_or now.seen.items d false ≡ true) → Contains (take (i + 1) xs) d ⊎ ((name : List ℕ) → exports_at documents name d ≡ true → IsSome (known before.index name))
next_marked documents before now new xs i item d within is old (inl e) = inl (subst (λ (x : ℕ). Contains (take (i + 1) xs) x) (sym e) (more_has_item xs i item within is))
next_marked documents before now new xs i item d within is old (inr mark) = elim (old mark) [
  | inl there ↦ inl (more_has xs i item d within is there)
  | inr provided ↦ inr provided
]

pub next : (documents : List Stub) (library : Library) (before now new : Filling) (xs : List ℕ) (i item : ℕ) → IsFilling documents library before now (take i xs) → i < length xs → item ≡ get_or xs i item → IsBefore library.ordinal before.index
    → length new.seen.items ≡ length documents
    → ((d : ℕ) → get_or new.seen.items d false ≡ true → (d ≡ item) ⊎ (get_or now.seen.items d false ≡ true))
    → (get_or now.seen.items item false ≡ false → (name : List ℕ) → known new.index name ≡ merged library (known now.index name) (exports_at documents name item) (weakens_at documents name item))
    → (get_or now.seen.items item false ≡ true → (name : List ℕ) → known new.index name ≡ known now.index name)
    → IsFilling documents library before new (take (i + 1) xs)
next documents library before now new xs i item filling within is first size marks added same = record {
  size = size;
  names = next_names documents library before now new xs i item filling within is first added same (get_or now.seen.items item false) refl;
  marked = λ d mark. next_marked documents before now new xs i item d within is (filling.marked d) (marks d mark);
}

-- ---- all of a library's documents

pub done : (documents : List Stub) (library : Library) (before now : Filling) (xs : List ℕ) (i : ℕ) → length xs ≤ i → IsFilling documents library before now (take i xs) → IsFilling documents library before now xs
done documents library before now xs i past filling = subst (λ (ys : List ℕ). IsFilling documents library before now ys) (take_all i xs past) filling

merged_some : (library : Library) (x : Option Offer) (e w : Bool) → IsSome x → IsSome (merged library x e w)
merged_some library None e w h = let other : false ≡ true = h in cc
merged_some library (Some offer) e w h = refl

merged_exported : (library : Library) (x : Option Offer) (e w : Bool) → e ≡ true → IsSome (merged library x e w)
merged_exported library None true w is = refl
merged_exported library None false w is = let h : false ≡ true = is in cc
merged_exported library (Some offer) e w is = refl

covered : (documents : List Stub) (library : Library) (before now : Filling) (xs : List ℕ) → IsFilling documents library before now xs → (d : ℕ) (name : List ℕ) → exports_at documents name d ≡ true
    → Contains xs d ⊎ ((name : List ℕ) → exports_at documents name d ≡ true → IsSome (known before.index name)) → IsSome (known now.index name)
covered documents library before now xs filling d name exported (inl there) =
    subst (λ (x : Option Offer). IsSome x) (sym (filling.names name))
    (merged_exported library _ _ _ (any_from_in (exports_at documents name) xs d (in_from_Contains xs d there) exported))
covered documents library before now xs filling d name exported (inr provided) =
    subst (λ (x : Option Offer). IsSome x) (sym (filling.names name)) (merged_some library _ _ _ (provided name exported))

pub covers : (documents : List Stub) (library : Library) (before now : Filling) (xs : List ℕ) → IsFilling documents library before now xs → Covers documents now
covers documents library before now xs filling = record { names = λ d mark name exported. covered documents library before now xs filling d name exported (filling.marked d mark) }

ordinal_of : Option Offer → ℕ
ordinal_of None = 0
ordinal_of (Some offer) = offer.library.ordinal

merged_ordinal : (library : Library) (x : Option Offer) (e w : Bool) (offer : Offer) → ((old : Offer) → x ≡ Some old → old.library.ordinal < library.ordinal) → merged library x e w ≡ Some offer → offer.library.ordinal < library.ordinal + 1
unfolding ordinal_of
merged_ordinal library None true w offer lesser is =
    let same : library.ordinal ≡ offer.library.ordinal = ap ordinal_of is in
    omega (arith, same)
merged_ordinal library None false w offer lesser is = let h : false ≡ true = ap is_some is in cc
merged_ordinal library (Some old) e w offer lesser is =
    let low : old.library.ordinal < library.ordinal = lesser old refl in
    let same : old.library.ordinal ≡ offer.library.ordinal = ap ordinal_of is in
    omega (arith, low, same)

pub lesser : (documents : List Stub) (library : Library) (before now : Filling) (xs : List ℕ) → IsFilling documents library before now xs → IsBefore library.ordinal before.index → IsBefore (library.ordinal + 1) now.index
lesser documents library before now xs filling first = record {
  lesser = λ name offer is. merged_ordinal library (known before.index name) _ _ offer (λ old there. first.lesser name old there) (sym (filling.names name) ∙ is);
}

merged_first : (documents : List Stub) (library : Library) (name : List ℕ) (xs : List ℕ) (x : Option Offer) → ((old : Offer) → x ≡ Some old → nat_eq old.library.ordinal library.ordinal ≡ false)
    → merged library x (list_any (exports_at documents name) xs) (list_any (weakens_at documents name) xs) ≡ option_or_else x (offer_by documents name (library, xs))
unfolding offer_by
merged_first documents library name xs None other = refl
merged_first documents library name xs (Some old) other =
    let apart : nat_eq old.library.ordinal library.ordinal ≡ false = other old refl in
    rw apart (ap (λ (b : Bool). Some (record { library = old.library; weak = b })) (or_false old.weak))

pub names : (documents : List Stub) (library : Library) (before now : Filling) (xs : List ℕ) → IsFilling documents library before now xs → IsBefore library.ordinal before.index → (name : List ℕ) → known now.index name ≡ option_or_else (known before.index name) (offer_by documents name (library, xs))
names documents library before now xs filling first name =
    filling.names name ∙ merged_first documents library name xs (known before.index name) (λ old is. lesser_apart library.ordinal before.index name old first is)

-- ---- all libraries

or_else_twice : {B : Type 0} (o p q : Option B) → option_or_else o (option_or_else p q) ≡ option_or_else (option_or_else o p) q
or_else_twice None p q = refl
or_else_twice (Some y) p q = refl

first_append : {A B : Type 0} (f : A → Option B) (xs ys : List A) → first_some f (xs ++ ys) ≡ option_or_else (first_some f xs) (first_some f ys)
first_append f [] ys = refl
first_append f (x ∷ xs) ys = ap (option_or_else (f x)) (first_append f xs ys) ∙ or_else_twice (f x) (first_some f xs) (first_some f ys)

or_none : {B : Type 0} (o : Option B) → option_or_else o None ≡ o
or_none None = refl
or_none (Some y) = refl

pub first_more : {A B : Type 0} (f : A → Option B) (xs : List A) (i : ℕ) (x : A) → i < length xs → x ≡ get_or xs i x → first_some f (take (i + 1) xs) ≡ option_or_else (first_some f (take i xs)) (f x)
first_more f xs i x within is =
    ap (first_some f) (front_more xs i x within is) ∙ first_append f (take i xs) (x ∷ []) ∙ ap (option_or_else (first_some f (take i xs))) (or_none (f x))

-- what the first libraries provide
pub record IsIndexing (documents : List Stub) (pairs : List (Library × List ℕ)) (at : ℕ) (filling : Filling) : Type 0 where
  pub size : length filling.seen.items ≡ length documents
  pub covers : Covers documents filling
  pub before : IsBefore (at + 1) filling.index
  pub names : (name : List ℕ) → known filling.index name ≡ first_some (offer_by documents name) (take at pairs)

pub indexed_more : (documents : List Stub) (pairs : List (Library × List ℕ)) (at : ℕ) (old new : Filling) (library : Library) (reached : List ℕ) → IsIndexing documents pairs at old → at < length pairs → (library, reached) ≡ get_or pairs at (library, reached) → library.ordinal ≡ at + 1
    → length new.seen.items ≡ length documents → Covers documents new → IsBefore (library.ordinal + 1) new.index
    → ((name : List ℕ) → known new.index name ≡ option_or_else (known old.index name) (offer_by documents name (library, reached)))
    → IsIndexing documents pairs (at + 1) new
indexed_more documents pairs at old new library reached indexing within is ordinal size covered lesser names = record {
  size = size;
  covers = covered;
  before = subst (λ (n : ℕ). IsBefore (n + 1) new.index) ordinal lesser;
  names = λ name. names name ∙ ap (λ (o : Option Offer). option_or_else o (offer_by documents name (library, reached))) (indexing.names name) ∙ sym (first_more (offer_by documents name) pairs at (library, reached) within is);
}

pub pair_is : (libraries : List Library) (reach : List (List ℕ)) (at : ℕ) (library : Library) (reached : List ℕ) → length reach ≡ length libraries → at < length libraries → library ≡ get_or libraries at library → reached ≡ get_or reach at reached
    → (library, reached) ≡ get_or (zip libraries reach) at (library, reached)
pair_is libraries reach at library reached each within is there =
    ap (λ (l : Library). (l, reached)) is ∙ ap (λ (r : List ℕ). (get_or libraries at library, r)) there
    ∙ sym (get_or-zip libraries reach at (library, reached) within (let low : at < length libraries = within in omega (arith, low, each)))

pub pairs_size : (libraries : List Library) (reach : List (List ℕ)) → length reach ≡ length libraries → length (zip libraries reach) ≡ length libraries
pairs_size libraries reach each = length-zip libraries reach ∙ (let e : length reach ≡ length libraries = each in omega (arith, e))

-- ---- one document

pub document_names : (documents : List Stub) (library : Library) (name : List ℕ) (at : ℕ) (document : Stub) (x : Option Offer) → at < length documents → document ≡ get_or documents at document
    → merged library x (list_any (λ export. bytes_eq name export.name) document.exports) (list_any (λ export. bytes_eq name export.name && export.weak) document.exports) ≡ merged library x (exports_at documents name at) (weakens_at documents name at)
unfolding exports weakens
document_names documents library name at document x within is =
    let same : get_or documents at no_document ≡ document = get_or_default documents at no_document document within ∙ sym is in
    ap (λ (d : Stub). merged library x (list_any (λ export. bytes_eq name export.name) d.exports) (list_any (λ export. bytes_eq name export.name && export.weak) d.exports)) (sym same)

pub reading : (library : Library) (name : List ℕ) (x y : Option Offer) (read exported : List Export) → read ≡ exported
    → y ≡ merged library x (list_any (λ export. bytes_eq name export.name) read) (list_any (λ export. bytes_eq name export.name && export.weak) read)
    → y ≡ merged library x (list_any (λ export. bytes_eq name export.name) exported) (list_any (λ export. bytes_eq name export.name && export.weak) exported)
reading library name x y read exported same is =
    is ∙ ap (λ (es : List Export). merged library x (list_any (λ export. bytes_eq name export.name) es) (list_any (λ export. bytes_eq name export.name && export.weak) es)) same

-- ---- the libraries and what they reach, place by place

abbrev pub no_library : Library
no_library = record { position = 0; ordinal = 0; weak = false; reexport = false; document = 0 }

pub library_is : (libraries : List Library) (at : ℕ) → at < length libraries → get_or libraries at no_library ≡ get_or libraries at (get_or libraries at no_library)
library_is libraries at within = get_or_default libraries at no_library (get_or libraries at no_library) within

pub ordinal_is : (libraries : List Library) (at : ℕ) → ((k : ℕ) (library : Library) → slice_get libraries k ≡ Some library → library.ordinal ≡ k + 1) → at < length libraries → (get_or libraries at no_library).ordinal ≡ at + 1
ordinal_is libraries at ordinals within = ordinals at (get_or libraries at no_library) (slice_get-get_or libraries at no_library within)

pub reach_is : (reach : List (List ℕ)) (at : ℕ) (reached read : List ℕ) → at < length reach → reached ≡ get_or reach at reached → read ≡ reached → read ≡ get_or reach at []
reach_is reach at reached read within is same = same ∙ is ∙ get_or_default reach at reached [] within

pub before_is : (index : NameIndex) (ordinal next : ℕ) → ordinal ≡ next → IsBefore next index → IsBefore ordinal index
before_is index ordinal next is before = subst (λ (n : ℕ). IsBefore n index) (sym is) before
