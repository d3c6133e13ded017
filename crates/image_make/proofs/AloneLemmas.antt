-- Rows of one key are the same atom at the same address, and pointers that hold words never fail.
use Rattle.std.proofs.Common.{◌≡◌, ℕ, List, [], ◌∷◌, ℤ, Option, Some, Result, Ok, Err, ◌⊎◌, ◌≤◌, refl, sym, ap, ◌∙◌, subst, inl, inr}
use Rattle.std.specs.List.{cons_option, filter_map}
use Rattle.std.proofs.lemmas.List.Elements.{All-contains, All-from_recursion}
use Rattle.list_lemmas.proofs.Members.{Contains_from_in, In, all_from_in, from_filter_map, in_filter_map, in_from_Contains}
use Rattle.fixup_chain.specs.declared.chains.ChainWord.{ChainWord}
use Rattle.mo_types.specs.declared.goal.Goal.{Goal}
use Rattle.mo_types.specs.declared.key.AtomKey.{AtomKey}
use Rattle.mo_types.specs.declared.loaded.LoadedFile.{LoadedFile}
use Rattle.mo_types.specs.declared.reference.Ref.{Ref}
use Rattle.mo_types.specs.declared.reference.RefKind.{RefKind}
use Rattle.mo_types.specs.declared.reference.RefKind.TheVariants.{Pointer, Diff32, Diff64, Branch, Page, PageOff, GotPage, GotPageOff, GotDelta, GotPointer, TlvPage, TlvPageOff}
use Rattle.patch.specs.Field.{field_by, field_of}
use Rattle.patch.specs.Patched.{Fits, IsFirstFault}
use Rattle.patch.specs.Range.{AllFit, IsLeastFault, IsUpTo, bytes_of}
use Rattle.patch.specs.declared.met.Met.{Met}
use Rattle.patch.specs.declared.met.RangeFault.{RangeFault}
use Rattle.patch.specs.declared.range.PlacedWork.{PlacedWork}
use Rattle.ref_meet.specs.Mets.{met_by, met_of, met_with, mets_of}
use Rattle.ref_meet.specs.Scene.{Scene, goal_of, refs_of}
use Rattle.ref_meet.specs.Template.{is_descriptor}
use Rattle.sect_place.specs.Addresses.{address_in}
use Rattle.sect_place.specs.declared.layout.Layout.{Layout}
use Rattle.image_make.specs.Atoms.{AreRising, kept_at}
use Rattle.image_make.specs.Made.{IsLaid, ImageInputs, kept_of, rows_of}
use Rattle.image_make.specs.declared.kept.KeptAtom.{KeptAtom}
use Rattle.image_make.proofs.Rowed.{find_mapped, row_in}
use Rattle.image_make.proofs.FieldLemmas.{as_met}

-- ---- one atom has one row

-- a row wherever its section stands in the file
abbrev pub bare : PlacedWork → PlacedWork
bare item = record { atom = item.atom; file = item.file; at = 0; address = item.address }

some_is : {X : Type 0} (x y : X) → Some x ≡ Some y → x ≡ y
some_is x y e = cc

bare_of : (kept : KeptAtom) (address : ℕ) → PlacedWork
bare_of kept address = record { atom = kept.atom; file = kept.file; at = 0; address = address }

pub same_row : (m : ImageInputs) (layout : Layout) (a b : PlacedWork) → AreRising (kept_of m) → IsLaid m layout → In a (rows_of m layout) → In b (rows_of m layout) → a.atom.key ≡ b.atom.key → bare a ≡ bare b
unfolding bare_of
same_row m layout a b rising laid h k same =
    let one = row_in m layout a rising laid h in
    let two = row_in m layout b rising laid k in
    let key_a : one.kept.atom.key ≡ one.key = named one.kept one.key one.known in
    let key_b : two.kept.atom.key ≡ two.key = named two.kept two.key two.known in
    let own_a : one.kept.atom.key ≡ a.atom.key = ap (λ (r : PlacedWork). r.atom.key) one.is in
    let own_b : two.kept.atom.key ≡ b.atom.key = ap (λ (r : PlacedWork). r.atom.key) two.is in
    let keys : one.key ≡ two.key = sym key_a ∙ own_a ∙ same ∙ sym own_b ∙ key_b in
    let kept : one.kept ≡ two.kept = some_is one.kept two.kept (sym one.known ∙ ap (kept_at (kept_of m)) keys ∙ two.known) in
    let address : a.address ≡ b.address = some_is a.address b.address (sym one.stood ∙ ap (address_in layout.placed) same ∙ two.stood) in
    ap bare (sym one.is) ∙ ap (λ (x : KeptAtom). bare_of x a.address) kept ∙ ap (bare_of two.kept) address ∙ ap bare two.is
  where
    named : (kept : KeptAtom) (key : AtomKey) → kept_at (kept_of m) key ≡ Some kept → kept.atom.key ≡ key
    named kept key known = (Rattle.sect_place.proofs.Positions.found_atom _ key kept.atom (find_mapped (kept_of m) key kept known)).0

pub bytes_bare : (files : List LoadedFile) (item : PlacedWork) → bytes_of files item ≡ bytes_of files (bare item)
unfolding bytes_of
bytes_bare files item = refl

kind_bare : (kind : RefKind) (scene : Scene) (words : List ChainWord) (item : PlacedWork) (r : Ref) (goal : Goal) → met_by kind scene words item r goal ≡ met_by kind scene words (bare item) r goal
unfolding is_descriptor
kind_bare Pointer scene words item r goal = refl
kind_bare GotPointer scene words item r goal = refl
kind_bare Diff32 scene words item r goal = refl
kind_bare Diff64 scene words item r goal = refl
kind_bare Branch scene words item r goal = refl
kind_bare Page scene words item r goal = refl
kind_bare PageOff scene words item r goal = refl
kind_bare GotPage scene words item r goal = refl
kind_bare GotPageOff scene words item r goal = refl
kind_bare GotDelta scene words item r goal = refl
kind_bare TlvPage scene words item r goal = refl
kind_bare TlvPageOff scene words item r goal = refl

found_alike : {X Y : Type 0} (f g : X → Option Y) (xs : List X) → ((x : X) → f x ≡ g x) → filter_map f xs ≡ filter_map g xs
found_alike f g [] same = refl
found_alike {Y = Y} f g (x ∷ xs) same =
    ap (λ (o : Option Y). cons_option o (filter_map f xs)) (same x) ∙ ap (λ (ys : List Y). cons_option (g x) ys) (found_alike f g xs same)

pub mets_bare : (scene : Scene) (words : List ChainWord) (item : PlacedWork) → mets_of scene words item ≡ mets_of scene words (bare item)
unfolding mets_of met_of refs_of
mets_bare scene words item = found_alike (met_of scene words item) (met_of scene words (bare item)) (refs_of scene.files item) (λ r. kind_bare r.kind scene words item r (goal_of scene item.file r.target))

pub refs_bare : (files : List LoadedFile) (item : PlacedWork) → refs_of files item ≡ refs_of files (bare item)
unfolding refs_of
refs_bare files item = refl

-- ---- fields that fail

-- the field of a pointer holds each value
never : (address : ℕ) (bytes : List ℕ) (r : Ref) (value minus : ℕ) (addend : ℤ) (fault : RangeFault) → (r.kind ≡ Pointer) → field_of address bytes (met_with r value minus addend) ≡ Err fault → ⊥
unfolding field_of field_by
never address bytes r value minus addend fault kind e = let f = rw kind at e in cc

never_got : (address : ℕ) (bytes : List ℕ) (r : Ref) (value minus : ℕ) (addend : ℤ) (fault : RangeFault) → (r.kind ≡ GotPointer) → field_of address bytes (met_with r value minus addend) ≡ Err fault → ⊥
unfolding field_of field_by
never_got address bytes r value minus addend fault kind e = let f = rw kind at e in cc

-- a reference whose field fails is met alike, whatever the words
abbrev Alike : Scene → List ChainWord → List ChainWord → PlacedWork → Ref → Goal → Met → RefKind → Type 0
Alike scene words others item r goal met kind = met_by kind scene words item r goal ≡ Some met → met_by kind scene others item r goal ≡ Some met

alike : (kind : RefKind) (scene : Scene) (words others : List ChainWord) (item : PlacedWork) (r : Ref) (goal : Goal) (met : Met) → (kind ≡ Pointer → ⊥) → (kind ≡ GotPointer → ⊥) → Alike scene words others item r goal met kind
alike Pointer scene words others item r goal met a b e = absurd (a refl)
alike GotPointer scene words others item r goal met a b e = absurd (b refl)
alike Diff32 scene words others item r goal met a b e = e
alike Diff64 scene words others item r goal met a b e = e
alike Branch scene words others item r goal met a b e = e
alike Page scene words others item r goal met a b e = e
alike PageOff scene words others item r goal met a b e = e
alike GotPage scene words others item r goal met a b e = e
alike GotPageOff scene words others item r goal met a b e = e
alike GotDelta scene words others item r goal met a b e = e
alike TlvPage scene words others item r goal met a b e = e
alike TlvPageOff scene words others item r goal met a b e = e

pub fails_alike : (scene : Scene) (words others : List ChainWord) (item : PlacedWork) (met : Met) (fault : RangeFault) → In met (mets_of scene words item) → field_of item.address (bytes_of scene.files item) met ≡ Err fault → In met (mets_of scene others item)
unfolding mets_of met_of
fails_alike scene words others item met fault h fails =
    let from = from_filter_map (met_of scene words item) (refs_of scene.files item) met h in
    let r : Ref = from.0 in
    let one = as_met scene words item r met from.2 in
    let failing = subst (λ (x : Met). field_of item.address (bytes_of scene.files item) x ≡ Err fault) (sym one.is) fails in
    in_filter_map (met_of scene others item) (refs_of scene.files item) r met from.1
    (alike r.kind scene words others item r (goal_of scene item.file r.target) met
    (λ pointer. never item.address (bytes_of scene.files item) r one.value one.minus one.addend fault pointer failing)
    (λ pointer. never_got item.address (bytes_of scene.files item) r one.value one.minus one.addend fault pointer failing) from.2)

-- ---- the first fault of fields, whatever the words

ok_not_err : (value : ℕ) (fault : RangeFault) (r : Result ℕ RangeFault) → r ≡ Ok value → r ≡ Err fault → ⊥
ok_not_err value fault r e f = cc

-- where all that fit with some words fit with others
fit_alike : (scene : Scene) (words others : List ChainWord) (item : PlacedWork) → AllFit scene.files (mets_of scene words) item → AllFit scene.files (mets_of scene others) item
fit_alike scene words others item fit = All-from_recursion (Fits item.address (bytes_of scene.files item)) (mets_of scene others item) (all_from_in (Fits item.address (bytes_of scene.files item)) (mets_of scene others item) each)
  where
    each : (met : Met) → In met (mets_of scene others item) → Fits item.address (bytes_of scene.files item) met
    each met h = by (field_of item.address (bytes_of scene.files item) met) refl
      where
        by : (r : Result ℕ RangeFault) → field_of item.address (bytes_of scene.files item) met ≡ r → Fits item.address (bytes_of scene.files item) met
        by (Ok value) e = (value, e)
        by (Err fault) e =
            let there = fails_alike scene others words item met fault h e in
            All-contains (Fits item.address (bytes_of scene.files item)) (mets_of scene words item) met fit (Contains_from_in (mets_of scene words item) met there)

first_alike : (scene : Scene) (words others : List ChainWord) (item : PlacedWork) (fault : RangeFault) → IsFirstFault item.address (bytes_of scene.files item) (mets_of scene words item) fault → IsFirstFault item.address (bytes_of scene.files item) (mets_of scene others item) fault
first_alike scene words others item fault (met, is) = (
  met,
  record {
    among = Contains_from_in (mets_of scene others item) met (fails_alike scene words others item met fault (in_from_Contains (mets_of scene words item) met is.among) is.fails);
    fails = is.fails;
    least = All-from_recursion Least (mets_of scene others item) (all_from_in Least (mets_of scene others item) each);
  },
)
  where
    Least : Met → Type 0
    Least other = Fits item.address (bytes_of scene.files item) other ⊎ (met.place ≤ other.place)

    each : (other : Met) → In other (mets_of scene others item) → Least other
    each other h = by (field_of item.address (bytes_of scene.files item) other) refl
      where
        by : (r : Result ℕ RangeFault) → field_of item.address (bytes_of scene.files item) other ≡ r → Least other
        by (Ok value) e = inl (value, e)
        by (Err why) e = All-contains Least (mets_of scene words item) other is.least (Contains_from_in (mets_of scene words item) other (fails_alike scene others words item other why h e))

pub least_alike : (scene : Scene) (words others : List ChainWord) (rows : List PlacedWork) (key : AtomKey) (fault : RangeFault) → IsLeastFault scene.files (mets_of scene words) rows key fault → IsLeastFault scene.files (mets_of scene others) rows key fault
least_alike scene words others rows key fault (item, is) = (
  item,
  record {
    among = is.among;
    of_item = is.of_item;
    fails = first_alike scene words others item fault is.fails;
    least = All-from_recursion (Least others) rows (all_from_in (Least others) rows (λ other h. each other (All-contains (Least words) rows other is.least (Contains_from_in rows other h))));
  },
)
  where
    Least : List ChainWord → PlacedWork → Type 0
    Least some other = AllFit scene.files (mets_of scene some) other ⊎ IsUpTo key other.atom.key

    each : (other : PlacedWork) → Least words other → Least others other
    each other (inl fit) = inl (fit_alike scene words others other fit)
    each other (inr up_to) = inr up_to
