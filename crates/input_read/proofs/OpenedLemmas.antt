-- What inputs in order are, sorted.
use Rattle.std.proofs.Common.{◌≡◌, ℕ, ◌+◌, ◌^◌, ◌<◌, ◌≤◌, true, List, [], ◌∷◌, All, Result, Ok, Err, length, map, inl, inr, refl, sym, ap, subst, ◌∙◌, arith, tests}
use Rattle.std.specs.List.{AllByRecursion, filter_map}
use Rattle.std.specs.List.Sorted.{IsStrictlySortedBy}
use Rattle.std.specs.Ordering.{nat_cmp}
use Rattle.std.specs.declared.cmp.Ordering.TheVariants.{Less}
use Rattle.std.proofs.lemmas.Cmp.{ranked}
use Rattle.list_lemmas.proofs.Members.{In, all_in, all_weaker}
use Rattle.mo_types.specs.Gives.{◌>>=◌}
use Rattle.mo_types.specs.Loaded.{IsWholeFile}
use Rattle.mo_types.specs.declared.loaded.LoadedFile.{LoadedFile}
use Rattle.lib_bind.specs.Named.{are_named, is_next}
use Rattle.lib_bind.specs.declared.named.NamedStub.{NamedStub}
use Rattle.input_files.specs.Sources.{AreInOrder, AreObjects, inputs_of, object_reads}
use Rattle.input_files.specs.declared.fault.LoadFault.{LoadFault}
use Rattle.input_files.specs.declared.input.Input.{Input}
use Rattle.input_files.proofs.EachLemmas.{all_from, all_has}
use Rattle.input_read.specs.Opened.{Contents, contents_as, contents_in, contents_of, input_in, object_in, openings_of, stubs_in}
use Rattle.input_read.specs.Opening.{opening_of}
use Rattle.input_read.specs.Sound.{AreDocuments, IsSound}
use Rattle.input_read.specs.declared.opened.Opened.{Opened}
use Rattle.input_read.specs.declared.opening.Opening.{Opening}
use Rattle.input_read.specs.declared.opening.Opening.TheVariants as opening
use Rattle.input_read.proofs.PlaceLemmas.{IsKnown, opening_known, place_kept, place_of}

-- ---- the first input, and the others

record IsRead (input : Input) (inputs : List Input) (openings : List Opening) : Type 0 where
  pub one : Opening
  pub more : List Opening
  pub first : opening_of input ≡ Ok one
  pub others : openings_of inputs ≡ Ok more
  pub are : openings ≡ one ∷ more

read_both : (input : Input) (inputs : List Input) (openings : List Opening) → openings_of (input ∷ inputs) ≡ Ok openings → IsRead input inputs openings
read_both input inputs openings is = by (opening_of input) refl is
  where
    both : (one : Opening) → opening_of input ≡ Ok one → (q : Result (List Opening) LoadFault) → openings_of inputs ≡ q → (q >>= λ os. Ok (one ∷ os)) ≡ Ok openings → IsRead input inputs openings
    both one first (Err e) q h = absurd (let s : Err e ≡ Ok openings = h in cc)
    both one first (Ok os) q h = record { one = one; more = os; first = first; others = q; are = (let s : Ok (one ∷ os) ≡ Ok openings = h in let same : one ∷ os ≡ openings = cc in sym same) }

    by : (r : Result Opening LoadFault) → opening_of input ≡ r → (r >>= λ one. openings_of inputs >>= λ os. Ok (one ∷ os)) ≡ Ok openings → IsRead input inputs openings
    by (Err e) r h = absurd (let s : Err e ≡ Ok openings = h in cc)
    by (Ok one) r h = both one r (openings_of inputs) refl h

pub nothing_read : (one : Opening) (openings : List Opening) → openings_of [] ≡ Ok (one ∷ openings) → ⊥
nothing_read one openings is = let s : Ok [] ≡ Ok (one ∷ openings) = is in let same : [] ≡ one ∷ openings = cc in cc

pub something_read : (input : Input) (inputs : List Input) → openings_of (input ∷ inputs) ≡ Ok [] → ⊥
something_read input inputs is = let so = read_both input inputs [] is in let none : [] ≡ so.one ∷ so.more = so.are in cc

pub first_read : (input : Input) (inputs : List Input) (one : Opening) (openings : List Opening) → openings_of (input ∷ inputs) ≡ Ok (one ∷ openings) → (opening_of input ≡ Ok one) × (openings_of inputs ≡ Ok openings)
first_read input inputs one openings is =
    let so = read_both input inputs (one ∷ openings) is in
    let are : one ∷ openings ≡ so.one ∷ so.more = so.are in
    let here : one ≡ so.one = cc in
    let later : openings ≡ so.more = cc in
    (so.first ∙ ap Ok (sym here), so.others ∙ ap Ok (sym later))

-- ---- the order

abbrev places : List Input → List ℕ
places inputs = map (λ (input : Input). input.position) inputs

kept_places : (P : ℕ → Type 0) (inputs : List Input) (openings : List Opening) → openings_of inputs ≡ Ok openings → AllByRecursion P (places inputs) → AllByRecursion P (places (filter_map input_in openings))
kept_places P [] [] is all = tt
kept_places P [] (one ∷ openings) is all = absurd (nothing_read one openings is)
kept_places P (input ∷ inputs) [] is all = tt
kept_places P (input ∷ inputs) (one ∷ openings) is all =
    let so = first_read input inputs one openings is in
    with_first one (place_kept input one so.0) (kept_places P inputs openings so.1 all.1)
  where
    with_first : (one : Opening) → place_of one ≡ input.position → AllByRecursion P (places (filter_map input_in openings)) → AllByRecursion P (places (filter_map input_in (one ∷ openings)))
    with_first (opening.Object i file) same rest = (subst P (sym same) all.0, rest)
    with_first (opening.Archive i archive) same rest = (subst P (sym same) all.0, rest)
    with_first (opening.Stubs named) same rest = rest

abbrev AreAbove : List Opening → ℕ → Type 0
AreAbove openings p = AllByRecursion (λ q. nat_cmp p q ≡ Less) (places (filter_map input_in openings))

inputs_rise : (inputs : List Input) (openings : List Opening) → IsStrictlySortedBy nat_cmp (places inputs) → openings_of inputs ≡ Ok openings → IsStrictlySortedBy nat_cmp (places (filter_map input_in openings))
unfolding IsStrictlySortedBy
inputs_rise [] [] order is = tt
inputs_rise [] (one ∷ openings) order is = absurd (nothing_read one openings is)
inputs_rise (input ∷ inputs) [] order is = tt
inputs_rise (input ∷ inputs) (one ∷ openings) order is =
    let so = first_read input inputs one openings is in
    with_first one (place_kept input one so.0) (kept_places (λ q. nat_cmp input.position q ≡ Less) inputs openings so.1 order.0) (inputs_rise inputs openings order.1 so.1)
  where
    with_first : (one : Opening) → place_of one ≡ input.position → AreAbove openings input.position → IsStrictlySortedBy nat_cmp (places (filter_map input_in openings)) → IsStrictlySortedBy nat_cmp (places (filter_map input_in (one ∷ openings)))
    with_first (opening.Object i file) same above rest = (subst (AreAbove openings) (sym same) above, rest)
    with_first (opening.Archive i archive) same above rest = (subst (AreAbove openings) (sym same) above, rest)
    with_first (opening.Stubs named) same above rest = rest

contents_read : (inputs : List Input) (contents : Contents) → contents_of inputs ≡ Ok contents → (openings : List Opening) × (openings_of inputs ≡ Ok openings) × (contents_in openings ≡ contents)
unfolding contents_of
contents_read inputs contents is = by (openings_of inputs) refl is
  where
    by : (r : Result (List Opening) LoadFault) → openings_of inputs ≡ r → (r >>= λ openings. Ok (contents_in openings)) ≡ Ok contents → (openings : List Opening) × (openings_of inputs ≡ Ok openings) × (contents_in openings ≡ contents)
    by (Err e) r h = absurd (let s : Err e ≡ Ok contents = h in cc)
    by (Ok openings) r h = (openings, r, (let s : Ok (contents_in openings) ≡ Ok contents = h in cc))

pub keeps_order : (inputs : List Input) (contents : Contents) → AreInOrder inputs → contents_of inputs ≡ Ok contents → AreInOrder contents.inputs
keeps_order inputs contents order is =
    let read = contents_read inputs contents is in
    subst (λ (c : Contents). AreInOrder c.inputs) read.2 (inputs_rise inputs read.0 order read.1)

-- ---- the objects

reads_are : (inputs : List Input) (openings : List Opening) → openings_of inputs ≡ Ok openings → object_reads (filter_map input_in openings) ≡ map Ok (filter_map object_in openings)
unfolding object_reads
reads_are [] [] is = refl
reads_are [] (one ∷ openings) is = absurd (nothing_read one openings is)
reads_are (input ∷ inputs) [] is = absurd (something_read input inputs is)
reads_are (input ∷ inputs) (one ∷ openings) is =
    let so = first_read input inputs one openings is in
    by one (opening_known input one so.0) (reads_are inputs openings so.1)
  where
    by : (one : Opening) → IsKnown one → object_reads (filter_map input_in openings) ≡ map Ok (filter_map object_in openings) → object_reads (filter_map input_in (one ∷ openings)) ≡ map Ok (filter_map object_in (one ∷ openings))
    by (opening.Object i file) known rest = rw (known.0, known.1, rest) refl
    by (opening.Archive i archive) known rest = rw known rest
    by (opening.Stubs named) known rest = rest

pub objects_read : (inputs : List Input) (contents : Contents) → contents_of inputs ≡ Ok contents → object_reads contents.inputs ≡ map Ok contents.objects
objects_read inputs contents is =
    let read = contents_read inputs contents is in
    subst (λ (c : Contents). object_reads c.inputs ≡ map Ok c.objects) read.2 (reads_are inputs read.0 read.1)

files_whole : (openings : List Opening) → ((one : Opening) → In one openings → IsSound one) → AllByRecursion IsWholeFile (filter_map object_in openings)
files_whole [] sound = tt
files_whole (one ∷ openings) sound = by one (sound one (inl refl)) (files_whole openings (λ o there. sound o (inr there)))
  where
    by : (one : Opening) → IsSound one → AllByRecursion IsWholeFile (filter_map object_in openings) → AllByRecursion IsWholeFile (filter_map object_in (one ∷ openings))
    by (opening.Object input file) so rest = (so.whole, rest)
    by (opening.Archive input archive) so rest = rest
    by (opening.Stubs named) so rest = rest

-- ---- the stub libraries

below : (p q : ℕ) → nat_cmp p q ≡ Less → p + 1 ≤ q
below p q less = let low : p < q = ranked p q Less (sym less) in omega (arith, low)

named_by : (count least : ℕ) (named : NamedStub) → least ≤ named.position → named.position < count → 0 < length named.file.docs → length named.file.docs < 2 ^ 32 → is_next count least named ≡ true
named_by count least named low high some few = grind (arith, tests)

named_here : (count least : ℕ) (named : NamedStub) → least ≤ named.position → named.position < count → AreDocuments named.file.docs → is_next count least named ≡ true
named_here count least named low high are = named_by count least named low high are.some are.few

named_from : (count least : ℕ) (inputs : List Input) (openings : List Opening) → openings_of inputs ≡ Ok openings → IsStrictlySortedBy nat_cmp (places inputs) → AllByRecursion (λ p. least ≤ p) (places inputs) → ((input : Input) → In input inputs → input.position < count)
    → are_named count least (filter_map stubs_in openings) ≡ true
unfolding IsStrictlySortedBy
named_from count least [] [] is order low high = refl
named_from count least [] (one ∷ openings) is order low high = absurd (nothing_read one openings is)
named_from count least (input ∷ inputs) [] is order low high = refl
named_from count least (input ∷ inputs) (one ∷ openings) is order low high =
    let so = first_read input inputs one openings is in
    by one (place_kept input one so.0) (opening_known input one so.0)
    (λ from later. named_from count from inputs openings so.1 order.1 later (λ i there. high i (inr there)))
  where
    by : (one : Opening) → place_of one ≡ input.position → IsKnown one → ((from : ℕ) → AllByRecursion (λ p. from ≤ p) (places inputs) → are_named count from (filter_map stubs_in openings) ≡ true) → are_named count least (filter_map stubs_in (one ∷ openings)) ≡ true
    by (opening.Object i file) same known rest = rest least low.1
    by (opening.Archive i archive) same known rest = rest least low.1
    by (opening.Stubs named) same known rest =
        let here : input.position < count = high input (inl refl) in
        let from : least ≤ input.position = low.0 in
        rw (named_here count least named (omega (arith, same, from)) (omega (arith, same, here)) known)
        (rest (named.position + 1) (all_weaker (λ q. nat_cmp input.position q ≡ Less) (λ q. named.position + 1 ≤ q) (λ q less. omega (arith, same, below input.position q less)) (places inputs) order.0))

all_low : (ps : List ℕ) → AllByRecursion (λ p. 0 ≤ p) ps
all_low [] = tt
all_low (p ∷ ps) = (omega arith, all_low ps)

pub stubs_named : (inputs : List Input) (contents : Contents) (count : ℕ) → AreInOrder inputs → All (λ (input : Input). input.position < count) inputs → contents_of inputs ≡ Ok contents → are_named count 0 contents.stubs ≡ true
stubs_named inputs contents count order high is =
    let read = contents_read inputs contents is in
    subst (λ (c : Contents). are_named count 0 c.stubs ≡ true) read.2
    (named_from count 0 inputs read.0 read.1 order (all_low (places inputs)) (λ input there. all_has (λ (i : Input). i.position < count) inputs input high there))

-- ---- what was opened

pub opened_exact : (inputs : List Input) (openings : List Opening) (opened : Opened) → openings_of inputs ≡ Ok openings → contents_as opened ≡ contents_in openings → contents_of inputs ≡ Ok (contents_as opened)
unfolding contents_of
opened_exact inputs openings opened read is = rw read (ap Ok (sym is))

pub opened_fails : (inputs : List Input) (fault : LoadFault) → openings_of inputs ≡ Err fault → contents_of inputs ≡ Err fault
unfolding contents_of
opened_fails inputs fault read = rw read refl

pub opened_order : (inputs : List Input) (openings : List Opening) (opened : Opened) → AreInOrder inputs → openings_of inputs ≡ Ok openings → contents_as opened ≡ contents_in openings → AreInOrder (inputs_of opened.sources)
opened_order inputs openings opened order read is = subst (λ (c : Contents). AreInOrder c.inputs) (sym is) (inputs_rise inputs openings order read)

pub opened_objects : (inputs : List Input) (openings : List Opening) (opened : Opened) → openings_of inputs ≡ Ok openings → All IsSound openings → contents_as opened ≡ contents_in openings → AreObjects (inputs_of opened.sources) opened.objects
opened_objects inputs openings opened read sound is =
    let known : (one : Opening) → In one openings → IsSound one = λ one there. all_has IsSound openings one sound there in
    let files : opened.objects ≡ filter_map object_in openings = ap (λ (c : Contents). c.objects) is in
    record {
      read = ap (λ (c : Contents). object_reads c.inputs) is ∙ reads_are inputs openings read ∙ ap (map Ok) (sym files);
      whole = subst (λ (fs : List LoadedFile). All IsWholeFile fs) (sym files) (all_from IsWholeFile (filter_map object_in openings) (λ file there. all_in IsWholeFile (filter_map object_in openings) file (files_whole openings known) there));
    }

pub opened_named : (inputs : List Input) (openings : List Opening) (opened : Opened) → AreInOrder inputs → openings_of inputs ≡ Ok openings → contents_as opened ≡ contents_in openings → (count : ℕ) → All (λ (input : Input). input.position < count) inputs → are_named count 0 opened.stubs ≡ true
opened_named inputs openings opened order read is count high = stubs_named inputs (contents_as opened) count order high (opened_exact inputs openings opened read is)

pub ruleset opens = (opened_exact, opened_fails, opened_order, opened_objects, opened_named)
