-- What is made of an image's inputs is one image, or one fault.
use Rattle.std.proofs.Common.{◌≡◌, ℕ, ◌<◌, ◌≤◌, ◌^◌, ◌⊎◌, ℤ, pos, List, [], length, map, Option, Result, Ok, Err, All, refl, sym, ap, ap₂, ◌∙◌, subst, inl, inr, arith}
use Rattle.std.specs.List.Sorted.{IsStrictlySortedBy}
use Rattle.std.specs.Ordering.{on}
use Rattle.std.proofs.lemmas.List.Elements.{All-contains}
use Rattle.list_lemmas.proofs.Members.{Contains_from_in, in_from_Contains}
use Rattle.fixup_chain.proofs.OneLemmas.{same_chains}
use Rattle.fixup_chain.specs.declared.chains.Chains.{Chains}
use Rattle.fixup_chain.specs.declared.chains.Fixup.{Fixup}
use Rattle.image_join.proofs.OneLemmas.{one_image}
use Rattle.image_make.specs.Atoms.{AreLow, AreRising, atom_of}
use Rattle.image_make.specs.Faults.{IsFault, IsFirstFault, Spot}
use Rattle.image_make.specs.Made.{IsChained, IsImage, IsLaid, IsMade, IsMadeWith, IsOverlong, IsPlaceFault, IsUnfit, ImageInputs, blank, kept_of, mets_of, plan_for, plan_with, rows_of, scene_of, sizes_of, told_mets, with_info, with_least}
use Rattle.image_make.specs.Parts.{whole_size}
use Rattle.image_make.specs.declared.fault.MakeFault.{MakeFault}
use Rattle.image_make.specs.declared.fault.MakeFault.TheVariants as make
use Rattle.image_make.proofs.AloneLemmas.{fails_alike}
use Rattle.image_make.proofs.FieldLemmas.{HasRefs}
use Rattle.image_make.proofs.KeptListLemmas.{rising_atoms}
use Rattle.image_make.proofs.OneInfo.{IsOfText, first_long, firsts_long, infos_same, least_small, plans_same}
use Rattle.image_make.proofs.RoomLemmas.{blank_long}
use Rattle.image_make.proofs.WorkLemmas.{are_standing}
use Rattle.mo_bytes.specs.Number.{number}
use Rattle.mo_types.specs.Keys.{compare_keys}
use Rattle.mo_types.specs.declared.atom.Atom.{Atom}
use Rattle.mo_types.specs.declared.key.AtomKey.{AtomKey}
use Rattle.patch.specs.Field.{field_of}
use Rattle.patch.specs.Patched.{size_of}
use Rattle.patch.specs.Range.{IsPlaced, bytes_of, part_of}
use Rattle.patch.specs.declared.met.Met.{Met}
use Rattle.patch.specs.declared.met.RangeFault.{RangeFault}
use Rattle.ref_meet.specs.Pointers.{AreFixups, all_fixups}
use Rattle.ref_meet.proofs.PairLemmas.{one_order}
use Rattle.sect_list.proofs.Once.{listed_once}
use Rattle.sect_list.specs.OutSections.{out_sections}
use Rattle.sect_place.proofs.Single.{layouts_same}
use Rattle.sect_place.specs.Layout.{base_of, image_size}
use Rattle.sect_place.specs.declared.layout.Layout.{Layout}
use Rattle.sect_place.specs.declared.size.PlaceFault.TheVariants as place
use Rattle.link_files.proofs.ApartLemmas.{one_first}
use Rattle.link_files.proofs.Lists.{no_some}

-- What an image is made of that is one: kept atoms that rise and are aligned to a page at most, and references of which no
-- two fill in one field.
pub record IsSound (m : ImageInputs) : Type 0 where
  pub rising : AreRising (kept_of m)
  pub low : AreLow (kept_of m)
  pub refs : All HasRefs m.files

-- ---- one layout, with one list of pointers and their chains

layout_one : (m : ImageInputs) (a b : Layout) → IsStrictlySortedBy (on (λ (atom : Atom). atom.key) compare_keys) (map atom_of (kept_of m)) → IsLaid m a → IsLaid m b → a ≡ b
unfolding plan_with
layout_one m a b rising p q =
    layouts_same (map atom_of (kept_of m)) (out_sections m.files (map atom_of (kept_of m))) m.slots m.islands (sizes_of m.command m.libs (length m.info)) m.command a b
    (listed_once m.files (map atom_of (kept_of m)) rising) p.layout_of q.layout_of

same_layout : (m : ImageInputs) (a b : Layout) → IsSound m → IsLaid m a → IsLaid m b → a ≡ b
same_layout m a b sound = layout_one m a b (rising_atoms (kept_of m) sound.rising)

same_pointers : (m : ImageInputs) (layout : Layout) (a b : List Fixup) → AreFixups (scene_of m layout) (rows_of m layout) a → AreFixups (scene_of m layout) (rows_of m layout) b → a ≡ b
same_pointers m layout a b p q = one_order (λ (fixup : Fixup). fixup.address) (all_fixups (scene_of m layout) (rows_of m layout)) a b p.apart q.apart p.all q.all

same_ends : (m : ImageInputs) (a b : Layout) (f g : List Fixup) (c d : Chains) → IsSound m → IsLaid m a → IsLaid m b → IsChained m a f c → IsChained m b g d → (b ≡ a) × (d ≡ c)
same_ends m a b f g c d sound p q x y =
    let layout : b ≡ a = same_layout m b a sound q p in
    let here : IsChained m a g d = subst (λ (l : Layout). IsChained m l g d) layout y in
    let pointers : g ≡ f = same_pointers m a g f here.pointers x.pointers in
    let there : IsChained m a f d = subst (λ (fs : List Fixup). IsChained m a fs d) pointers here in
    (layout, same_chains a f d c there.chains_are x.chains_are)

-- the first fault, with the layout and the pointers of another answer
first_here : (m : ImageInputs) (a b : Layout) (fixups : List Fixup) (atom : Option AtomKey) (fault : RangeFault) → IsSound m → IsLaid m a → AreFixups (scene_of m a) (rows_of m a) fixups → IsUnfit m b atom fault
    → IsFirstFault a fixups m.files (told_mets m a) (rows_of m a) atom fault
first_here m a b fixups atom fault sound laid pointers unfit =
    let layout : b ≡ a = same_layout m b a sound unfit.laid laid in
    let here : IsUnfit m a atom fault = subst (λ (l : Layout). IsUnfit m l atom fault) layout unfit in
    subst (λ (fs : List Fixup). IsFirstFault a fs m.files (told_mets m a) (rows_of m a) atom fault) (same_pointers m a here.fixups fixups here.pointers pointers) here.first

-- ---- one image

moved : (m : ImageInputs) (a b : Layout) (f g : List Fixup) (c d : Chains) (image : List ℕ) → IsSound m → IsLaid m a → IsChained m a f c → IsImage m b g d image → IsImage m a f c image
moved m a b f g c d image sound laid chained is =
    let layout : b ≡ a = same_layout m b a sound is.laid laid in
    let here : IsImage m a g d image = subst (λ (l : Layout). IsImage m l g d image) layout is in
    let pointers : g ≡ f = same_pointers m a g f here.chained.pointers chained.pointers in
    let there : IsImage m a f d image = subst (λ (fs : List Fixup). IsImage m a fs d image) pointers here in
    subst (λ (cs : Chains). IsImage m a f cs image) (same_chains a f d c there.chained.chains_are chained.chains_are) there

image_one : (m : ImageInputs) (a b : List ℕ) → IsSound m → IsMadeWith m (Ok a) → IsMadeWith m (Ok b) → a ≡ b
image_one m a b sound (layout, fixups, chains, is) (other, more, also, again) =
    let here : IsImage m layout fixups chains b = moved m layout other fixups more chains also b sound is.laid is.chained again in
    let long = blank_long m layout fixups chains in
    one_image m.files (mets_of m layout chains) 0 (rows_of m layout) (blank m layout fixups chains) a b
    (are_standing m layout (length (blank m layout fixups chains)) sound.rising sound.low is.laid (omega (arith, long)))
    is.filled.bytes here.filled.bytes is.filled.beside is.filled.placed here.filled.beside here.filled.placed

-- ---- an image, and a fault

ok_not_err : (value : ℕ) (fault : RangeFault) (r : Result ℕ RangeFault) → r ≡ Ok value → r ≡ Err fault → ⊥
ok_not_err value fault r e f = cc

-- in an image no value is out of range
all_fit : (m : ImageInputs) (layout : Layout) (fixups : List Fixup) (chains : Chains) (image : List ℕ) (spot : Spot) (fault : RangeFault) → IsImage m layout fixups chains image
    → IsFault layout fixups m.files (told_mets m layout) (rows_of m layout) spot fault → ⊥
all_fit m layout fixups chains image spot fault is (inl pointer) =
    no_some _ (sym (is.chained.chains_are.sound pointer.fixup pointer.among) ∙ pointer.fails)
all_fit m layout fixups chains image spot fault is (inr field) =
    let met = fails_alike (scene_of m layout) [] chains.words field.item field.met fault (in_from_Contains (told_mets m layout field.item) field.met field.among) field.fails in
    let one = All-contains (IsPlaced m.files (mets_of m layout chains) 0 image) (rows_of m layout) field.item is.filled.placed field.of_items in
    let new = part_of m.files 0 field.item image in
    ok_not_err (number (size_of field.met) new field.met.place) fault (field_of field.item.address (bytes_of m.files field.item) field.met)
    (All-contains (λ (x : Met). field_of field.item.address (bytes_of m.files field.item) x ≡ Ok (number (size_of x) new x.place)) (mets_of m layout chains field.item) field.met one.fields
    (Contains_from_in (mets_of m layout chains field.item) field.met met)) field.fails

image_not_unfit : (m : ImageInputs) (image : List ℕ) (atom : Option AtomKey) (fault : RangeFault) → IsSound m → IsMadeWith m (Ok image) → IsMadeWith m (Err (make.Range atom fault)) → ⊥
image_not_unfit m image atom fault sound (layout, fixups, chains, is) (other, unfit) =
    let first = first_here m layout other fixups atom fault sound is.laid is.chained.pointers unfit in
    all_fit m layout fixups chains image first.spot fault is first.fails

image_not_long : (m : ImageInputs) (image : List ℕ) (value : ℤ) → IsSound m → IsMadeWith m (Ok image) → IsOverlong m (place.ImageSize value) → ⊥
image_not_long m image value sound (layout, fixups, chains, is) other =
    let same = same_ends m layout other.layout fixups other.fixups chains other.chains sound is.laid other.laid is.chained other.chained in
    let size : whole_size (base_of m.command) other.layout other.chains ≡ whole_size (base_of m.command) layout chains = ap₂ (λ (l : Layout) (c : Chains). whole_size (base_of m.command) l c) same.0 same.1 in
    let long : 2 ^ 32 ≤ whole_size (base_of m.command) other.layout other.chains = other.long.0 in
    let few : whole_size (base_of m.command) layout chains < 2 ^ 32 = is.few in
    omega (arith, size, long, few)

-- ---- one fault

unfit_not_long : (m : ImageInputs) (atom : Option AtomKey) (fault : RangeFault) (value : ℤ) → IsSound m → IsMadeWith m (Err (make.Range atom fault)) → IsOverlong m (place.ImageSize value) → ⊥
unfit_not_long m atom fault value sound (layout, unfit) other =
    let first = first_here m other.layout layout other.fixups atom fault sound other.laid other.chained.pointers unfit in
    other.fit first.spot fault first.fails

size_one : (m : ImageInputs) (v w : ℤ) → IsSound m → IsOverlong m (place.ImageSize v) → IsOverlong m (place.ImageSize w) → v ≡ w
size_one m v w sound p q =
    let same = same_ends m p.layout q.layout p.fixups q.fixups p.chains q.chains sound p.laid q.laid p.chained q.chained in
    p.long.1 ∙ ap₂ (λ (l : Layout) (c : Chains). pos (whole_size (base_of m.command) l c)) (sym same.0) (sym same.1) ∙ sym q.long.1

unfit_one : (m : ImageInputs) (a b : Option AtomKey) (f g : RangeFault) → IsSound m → IsMadeWith m (Err (make.Range a f)) → IsMadeWith m (Err (make.Range b g)) → (a ≡ b) × (f ≡ g)
unfit_one m a b f g sound (layout, unfit) (other, more) =
    one_first m layout unfit.fixups a b f g sound.rising unfit.laid sound.refs unfit.pointers unfit.first (first_here m layout other unfit.fixups b g sound unfit.laid unfit.pointers more)

-- ---- one answer, with some bytes of `__unwind_info`

-- an image, or a fault of what it is made of
abbrev pub IsAnswer : Result (List ℕ) MakeFault → Type 0
IsAnswer (Ok image) = Unit {0}
IsAnswer (Err (make.Place (place.ImageSize value))) = Unit {0}
IsAnswer (Err (make.Place place.OutOfMemory)) = ⊥
IsAnswer (Err (make.Range atom fault)) = Unit {0}
IsAnswer (Err make.OutOfMemory) = ⊥

range_same : (a b : Option AtomKey) (f g : RangeFault) → a ≡ b → f ≡ g → ◌≡◌ {A = Result (List ℕ) MakeFault} (Err (make.Range a f)) (Err (make.Range b g))
range_same a b f g e d = ap₂ (λ (x : Option AtomKey) (y : RangeFault). Err (make.Range x y)) e d

with_one : (m : ImageInputs) (a b : Result (List ℕ) MakeFault) → IsSound m → IsAnswer a → IsAnswer b → IsMadeWith m a → IsMadeWith m b → a ≡ b
with_one m (Ok a) (Ok b) sound p q x y = ap Ok (image_one m a b sound x y)
with_one m (Ok a) (Err (make.Place (place.ImageSize value))) sound p q x y = absurd (image_not_long m a value sound x y)
with_one m (Ok a) (Err (make.Place place.OutOfMemory)) sound p q x y = absurd q
with_one m (Ok a) (Err (make.Range atom fault)) sound p q x y = absurd (image_not_unfit m a atom fault sound x y)
with_one m (Ok a) (Err make.OutOfMemory) sound p q x y = absurd q
with_one m (Err (make.Place (place.ImageSize value))) (Ok b) sound p q x y = absurd (image_not_long m b value sound y x)
with_one m (Err (make.Place (place.ImageSize value))) (Err (make.Place (place.ImageSize other))) sound p q x y = ap (λ (v : ℤ). Err (make.Place (place.ImageSize v))) (size_one m value other sound x y)
with_one m (Err (make.Place (place.ImageSize value))) (Err (make.Place place.OutOfMemory)) sound p q x y = absurd q
with_one m (Err (make.Place (place.ImageSize value))) (Err (make.Range atom fault)) sound p q x y = absurd (unfit_not_long m atom fault value sound y x)
with_one m (Err (make.Place (place.ImageSize value))) (Err make.OutOfMemory) sound p q x y = absurd q
with_one m (Err (make.Place place.OutOfMemory)) b sound p q x y = absurd p
with_one m (Err (make.Range atom fault)) (Ok b) sound p q x y = absurd (image_not_unfit m b atom fault sound y x)
with_one m (Err (make.Range atom fault)) (Err (make.Place (place.ImageSize value))) sound p q x y = absurd (unfit_not_long m atom fault value sound x y)
with_one m (Err (make.Range atom fault)) (Err (make.Place place.OutOfMemory)) sound p q x y = absurd q
with_one m (Err (make.Range a f)) (Err (make.Range b g)) sound p q x y = let same = unfit_one m a b f g sound x y in range_same a b f g same.0 same.1
with_one m (Err (make.Range atom fault)) (Err make.OutOfMemory) sound p q x y = absurd q
with_one m (Err make.OutOfMemory) b sound p q x y = absurd p

-- ---- one answer

-- what an image is made of that is one, however many bytes `__unwind_info` has
pub record IsSoundMade (m : ImageInputs) : Type 0 where
  pub sound : IsSound m
  pub text : IsOfText m

sound_with : (m : ImageInputs) (info : List ℕ) → IsSound m → IsSound (with_info m info)
sound_with m info sound = record { rising = sound.rising; low = sound.low; refs = sound.refs }

-- what is laid, where there is an image or a fault of what is laid
laid_by : (m : ImageInputs) (x : Result (List ℕ) MakeFault) → IsAnswer x → IsMadeWith m x → (layout : Layout) × IsLaid m layout
laid_by m (Ok image) p (layout, fixups, chains, is) = (layout, is.laid)
laid_by m (Err (make.Place (place.ImageSize value))) p is = (is.layout, is.laid)
laid_by m (Err (make.Place place.OutOfMemory)) p is = absurd p
laid_by m (Err (make.Range atom fault)) p (layout, is) = (layout, is.laid)
laid_by m (Err make.OutOfMemory) p is = absurd p

-- an answer with some bytes of `__unwind_info`
abbrev IsWith : ImageInputs → Result (List ℕ) MakeFault → Type 0
IsWith m x = (info : List ℕ) × IsMadeWith (with_info m info) x

same_with : (m : ImageInputs) (a b : Result (List ℕ) MakeFault) → IsSoundMade m → IsAnswer a → IsAnswer b → IsWith m a → IsWith m b → a ≡ b
same_with m a b sound p q (info, x) (other, y) =
    let here = laid_by (with_info m info) a p x in
    let there = laid_by (with_info m other) b q y in
    let same : other ≡ info = infos_same m other info there.0 here.0 sound.sound.rising sound.text there.1 here.1 in
    with_one (with_info m info) a b (sound_with m info sound.sound) p q x (subst (λ (bytes : List ℕ). IsMadeWith (with_info m bytes) b) same y)

-- what can't be placed isn't laid
never_laid : (m : ImageInputs) (value : ℤ) (info : List ℕ) (layout : Layout) → IsSoundMade m → IsPlaceFault m (place.ImageSize value) → IsLaid (with_info m info) layout → ⊥
never_laid m value info layout sound (inl large) laid =
    let small = least_small m info layout laid in
    let long : 2 ^ 32 ≤ image_size (plan_for (with_least m)) = large.0 in
    omega (arith, small, long)
never_laid m value info layout sound (inr (first, is, large)) laid =
    let same = ap image_size (plans_same m first info (first_long m first info layout sound.sound.rising sound.text is laid)) in
    let small : image_size (plan_for (with_info m info)) < 2 ^ 32 = laid.small in
    let long : 2 ^ 32 ≤ image_size (plan_for (with_info m first)) = large.0 in
    omega (arith, same, small, long)

place_one : (m : ImageInputs) (v w : ℤ) → IsSoundMade m → IsPlaceFault m (place.ImageSize v) → IsPlaceFault m (place.ImageSize w) → v ≡ w
place_one m v w sound (inl p) (inl q) = p.1 ∙ sym q.1
place_one m v w sound (inl p) (inr (info, is, q)) = let small = is.small in let long : 2 ^ 32 ≤ image_size (plan_for (with_least m)) = p.0 in absurd (omega (arith, small, long))
place_one m v w sound (inr (info, is, p)) (inl q) = let small = is.small in let long : 2 ^ 32 ≤ image_size (plan_for (with_least m)) = q.0 in absurd (omega (arith, small, long))
place_one m v w sound (inr (info, is, p)) (inr (other, also, q)) =
    let same = ap image_size (plans_same m info other (firsts_long m info other sound.sound.rising sound.text is also)) in
    p.1 ∙ ap pos same ∙ sym q.1

split : (m : ImageInputs) (x : Result (List ℕ) MakeFault) → IsAnswer x → IsMade m x → ((value : ℤ) × (x ≡ Err (make.Place (place.ImageSize value))) × IsPlaceFault m (place.ImageSize value)) ⊎ IsWith m x
split m (Ok image) p is = inr is
split m (Err (make.Place (place.ImageSize value))) p (inl early) = inl (value, refl, early)
split m (Err (make.Place (place.ImageSize value))) p (inr later) = inr later
split m (Err (make.Place place.OutOfMemory)) p is = absurd p
split m (Err (make.Range atom fault)) p is = inr is
split m (Err make.OutOfMemory) p is = absurd p

pub made_one : (m : ImageInputs) (a b : Result (List ℕ) MakeFault) → IsSoundMade m → IsAnswer a → IsAnswer b → IsMade m a → IsMade m b → a ≡ b
made_one m a b sound p q x y = by (split m a p x) (split m b q y)
  where
    by : ((value : ℤ) × (a ≡ Err (make.Place (place.ImageSize value))) × IsPlaceFault m (place.ImageSize value)) ⊎ IsWith m a
        → ((value : ℤ) × (b ≡ Err (make.Place (place.ImageSize value))) × IsPlaceFault m (place.ImageSize value)) ⊎ IsWith m b → a ≡ b
    by (inl (v, e, early)) (inl (w, f, also)) = e ∙ ap (λ (n : ℤ). Err (make.Place (place.ImageSize n))) (place_one m v w sound early also) ∙ sym f
    by (inl (v, e, early)) (inr (info, is)) = let laid = laid_by (with_info m info) b q is in absurd (never_laid m v info laid.0 sound early laid.1)
    by (inr (info, is)) (inl (w, f, early)) = let laid = laid_by (with_info m info) a p is in absurd (never_laid m w info laid.0 sound early laid.1)
    by (inr here) (inr there) = same_with m a b sound p q here there
