-- In each segment the sections with bytes stand first, or the last one has some, and none is aligned to more than a page.
use Rattle.std.proofs.Common.{◌≡◌, ◌≢◌, ℕ, ◌≤◌, ◌==◌, ◌⊎◌, Bool, true, false, codes, List, [], ◌∷◌, ◌++◌, map, inl, inr, refl, sym, ap, ◌∙◌, subst, arith, append-nil, append_assoc, if◌then◌else◌}
use Rattle.std.specs.Prelude.{All}
use Rattle.std.specs.List.{AllByRecursion, filter, flat_map, list_any}
use Rattle.std.specs.Str.{bytes_eq}
use Rattle.std.proofs.lemmas.Bool.{eqb-true, false≢true}
use Rattle.std.proofs.lemmas.List.Elements.{recursion_from_All}
use Rattle.indexmap.specs.IndexSet.{insert_all, insert_key}
use Rattle.list_lemmas.proofs.Members.{In, all_in, any_from_in, from_filter, from_flat, from_map, in_either, in_left, in_right}
use Rattle.mo_types.specs.Whole.{is_zerofill}
use Rattle.mo_types.specs.declared.atom.Atom.{Atom}
use Rattle.mo_types.specs.declared.loaded.LoadedFile.{LoadedFile}
use Rattle.mo_types.specs.declared.out_section.OutSection.{OutSection}
use Rattle.tlv_plan.specs.Template.{greatest_align, is_thread_local, thread_local}
use Rattle.sect_list.specs.OutSections.{in_order, is_in, is_of, is_regular, leading, led, led_by, out_sections, ranked, rows, sections_of, segments_of}
use Rattle.sect_list.proofs.Listed.{names_equal}
use Rattle.sect_list.proofs.Low.{all_low, appended}
use Rattle.sect_list.proofs.Once.{Apart, apart_append}
use Rattle.sect_place.specs.Arrangement.{MadeBytes, chosen, constant_parts, group_named, groups_of, is_chosen, is_code, own, runs, runs_from, section_of, text_parts, with_atoms, writable_parts}
use Rattle.sect_place.specs.declared.part.Choice.{Choice}
use Rattle.sect_place.specs.declared.part.Choice.TheVariants.{Code, BesideCode, Constant, Writable, Elsewhere}
use Rattle.sect_place.specs.declared.part.Group.{Group}
use Rattle.sect_place.specs.declared.part.Made.{Made}
use Rattle.sect_place.specs.declared.part.Made.TheVariants.{Stubs, UnwindInfo, Got, ThreadPtrs}
use Rattle.sect_place.specs.declared.part.Part.{Part}
use Rattle.patch.proofs.ChosenLemmas.{Pairs, both, not_true, pairs_filter, pairs_join, pairs_map, pairs_weaker}

-- in one segment what is behind zerofill is zerofill
abbrev InRank : OutSection → OutSection → Type 0
InRank a b = a.segment ≡ b.segment → is_zerofill a.kind ≡ true → is_zerofill b.kind ≡ true

clash : {X : Type 0} (b : Bool) → b ≡ false → b ≡ true → X
clash b p q = absurd (false≢true (sym p ∙ q))

-- ---- the sections with atoms

solid_regular : (s : OutSection) → is_regular s ≡ true → is_zerofill s.kind ≡ false
solid_regular s e =
    let first = both _ _ e in
    let second = both _ _ first.0 in
    let zeros : (s.kind == 1) ≡ false = not_true (is_of 1 s) first.1 in
    let threads : (s.kind == 0x12) ≡ false = not_true (is_of 0x12 s) second.1 in
    rw (zeros, threads) refl

kind_zeros : (s : OutSection) (kind : ℕ) (b : Bool) → is_zerofill kind ≡ b → is_of kind s ≡ true → is_zerofill s.kind ≡ b
kind_zeros s kind b is e = ap (λ (n : ℕ). is_zerofill n) (eqb-true s.kind kind e) ∙ is

solid_pairs : (ss : List OutSection) → ((s : OutSection) → In s ss → is_zerofill s.kind ≡ false) → Pairs InRank ss
solid_pairs [] each = tt
solid_pairs (s ∷ ss) each = ((λ y h same zeros. clash (is_zerofill s.kind) (each s (inl refl)) zeros), solid_pairs ss (λ y h. each y (inr h)))

zero_pairs : (ss : List OutSection) → ((s : OutSection) → In s ss → is_zerofill s.kind ≡ true) → Pairs InRank ss
zero_pairs [] each = tt
zero_pairs (s ∷ ss) each = ((λ y h same zeros. each y (inr h)), zero_pairs ss (λ y h. each y (inr h)))

passes : (t : OutSection → Bool) (ss : List OutSection) (s : OutSection) → In s (filter t ss) → t s ≡ true
passes t ss s h = (from_filter t ss s h).1

ranked_pairs : (ss : List OutSection) → Pairs InRank (ranked ss)
unfolding ranked
ranked_pairs ss =
    pairs_join InRank ((filter is_regular ss ++ filter (is_of 0x11) ss) ++ filter (is_of 0x12) ss) (filter (is_of 1) ss)
    (pairs_join InRank (filter is_regular ss ++ filter (is_of 0x11) ss) (filter (is_of 0x12) ss)
    (solid_pairs (filter is_regular ss ++ filter (is_of 0x11) ss) solid)
    (zero_pairs (filter (is_of 0x12) ss) (λ s h. kind_zeros s 0x12 true refl (passes (is_of 0x12) ss s h)))
    (λ x y h k same zeros. clash (is_zerofill x.kind) (solid x h) zeros))
    (zero_pairs (filter (is_of 1) ss) (λ s h. kind_zeros s 1 true refl (passes (is_of 1) ss s h)))
    (λ x y h k same zeros. kind_zeros y 1 true refl (passes (is_of 1) ss y k))
  where
    by : (s : OutSection) → In s (filter is_regular ss) ⊎ In s (filter (is_of 0x11) ss) → is_zerofill s.kind ≡ false
    by s (inl h) = solid_regular s (passes is_regular ss s h)
    by s (inr h) = kind_zeros s 0x11 false refl (passes (is_of 0x11) ss s h)

    solid : (s : OutSection) → In s (filter is_regular ss ++ filter (is_of 0x11) ss) → is_zerofill s.kind ≡ false
    solid s h = by s (in_either (filter is_regular ss) (filter (is_of 0x11) ss) s h)

ranked_members : (ss : List OutSection) (s : OutSection) → In s (ranked ss) → In s ss
unfolding ranked
ranked_members ss s h = third (in_either ((filter is_regular ss ++ filter (is_of 0x11) ss) ++ filter (is_of 0x12) ss) (filter (is_of 1) ss) s h)
  where
    first : In s (filter is_regular ss) ⊎ In s (filter (is_of 0x11) ss) → In s ss
    first (inl a) = (from_filter is_regular ss s a).0
    first (inr b) = (from_filter (is_of 0x11) ss s b).0

    second : In s (filter is_regular ss ++ filter (is_of 0x11) ss) ⊎ In s (filter (is_of 0x12) ss) → In s ss
    second (inl a) = first (in_either (filter is_regular ss) (filter (is_of 0x11) ss) s a)
    second (inr b) = (from_filter (is_of 0x12) ss s b).0

    third : In s ((filter is_regular ss ++ filter (is_of 0x11) ss) ++ filter (is_of 0x12) ss) ⊎ In s (filter (is_of 1) ss) → In s ss
    third (inl a) = second (in_either (filter is_regular ss ++ filter (is_of 0x11) ss) (filter (is_of 0x12) ss) s a)
    third (inr b) = (from_filter (is_of 1) ss s b).0

segment_is : (ss : List OutSection) (segment : List ℕ) (s : OutSection) → In s (ranked (filter (is_in segment) ss)) → s.segment ≡ segment
segment_is ss segment s h = (names_equal s.segment segment).0 (passes (is_in segment) ss s (ranked_members (filter (is_in segment) ss) s h))

-- a name is inserted where it isn't there
inserted : (names : List (List ℕ)) (name : List ℕ) → Apart names → Apart (insert_key bytes_eq names name)
inserted names name apart = by (list_any (bytes_eq name) names) refl
  where
    last : list_any (bytes_eq name) names ≡ false → (x : List ℕ) → In x names → In x (name ∷ []) → ⊥
    last e x there (inl same) = absurd (false≢true (sym e ∙ any_from_in (bytes_eq name) names x there ((names_equal name x).1 same)))
    last e x there (inr h) = absurd h

    by : (b : Bool) → list_any (bytes_eq name) names ≡ b → Apart (insert_key bytes_eq names name)
    by true e = rw e apart
    by false e = rw e (apart_append names (name ∷ []) apart ((λ h. absurd h), tt) (last e))

all_inserted : (names more : List (List ℕ)) → Apart names → Apart (insert_all bytes_eq names more)
all_inserted names [] apart = apart
all_inserted names (name ∷ more) apart = all_inserted (insert_key bytes_eq names name) more (inserted names name apart)

segments_apart : (ss : List OutSection) → Apart (segments_of ss)
unfolding segments_of
segments_apart ss =
    let three : Apart (insert_all bytes_eq [] leading) = all_inserted [] leading tt in
    all_inserted leading (map (λ (s : OutSection). s.segment) ss) three

pairs_flat : {X Y : Type 0} (R : Y → Y → Type 0) (f : X → List Y) (xs : List X) → Apart xs → ((x : X) → Pairs R (f x)) → ((x z : X) (a b : Y) → (x ≡ z → ⊥) → In a (f x) → In b (f z) → R a b) → Pairs R (flat_map f xs)
pairs_flat R f [] apart each cross = tt
pairs_flat {X = X} R f (x ∷ xs) apart each cross =
    pairs_join R (f x) (flat_map f xs) (each x) (pairs_flat R f xs apart.1 each cross)
    (λ a b h k. let m = from_flat f xs b k in cross x m.0 a b (λ e. apart.0 (subst (λ (z : X). In z xs) (sym e) m.1)) h m.2)

order_pairs : (ss : List OutSection) → Pairs InRank (in_order ss)
unfolding in_order
order_pairs ss =
    pairs_flat InRank (λ segment. ranked (filter (is_in segment) ss)) (segments_of ss) (segments_apart ss)
    (λ segment. ranked_pairs (filter (is_in segment) ss))
    (λ x z a b differ h k same zeros. absurd (differ (sym (segment_is ss x a h) ∙ same ∙ segment_is ss z b k)))

-- another alignment changes nothing of that
led_member : (align : ℕ) (ss : List OutSection) (s : OutSection) → In s (led_by align ss) → (z : OutSection) × In z ss × (z.segment ≡ s.segment) × (z.kind ≡ s.kind)
led_member align [] s h = absurd h
led_member align (first ∷ ss) s h = by (led_member align ss s) (is_thread_local first) h
  where
    by : (In s (led_by align ss) → (z : OutSection) × In z ss × (z.segment ≡ s.segment) × (z.kind ≡ s.kind)) → (b : Bool) → In s (if b then record first { align = align } ∷ ss else first ∷ led_by align ss) → (z : OutSection) × In z (first ∷ ss) × (z.segment ≡ s.segment) × (z.kind ≡ s.kind)
    by rest true (inl e) = (first, inl refl, ap (λ (z : OutSection). z.segment) e, ap (λ (z : OutSection). z.kind) e)
    by rest true (inr k) = (s, inr k, refl, refl)
    by rest false (inl e) = (first, inl refl, ap (λ (z : OutSection). z.segment) e, ap (λ (z : OutSection). z.kind) e)
    by rest false (inr k) = let m = rest k in (m.0, inr m.1, m.2, m.3)

led_pairs : (align : ℕ) (ss : List OutSection) → Pairs InRank ss → Pairs InRank (led_by align ss)
led_pairs align [] pairs = tt
led_pairs align (first ∷ ss) pairs = by (led_pairs align ss pairs.1) (is_thread_local first)
  where
    behind : (y : OutSection) → In y (led_by align ss) → InRank first y
    behind y h same zeros =
        let m = led_member align ss y h in
        ap (λ (n : ℕ). is_zerofill n) (sym m.3) ∙ pairs.0 m.0 m.1 (same ∙ sym m.2) zeros

    by : Pairs InRank (led_by align ss) → (b : Bool) → Pairs InRank (if b then record first { align = align } ∷ ss else first ∷ led_by align ss)
    by rest true = pairs
    by rest false = (behind, rest)

pub sections_ranked : (files : List LoadedFile) (atoms : List Atom) → Pairs InRank (out_sections files atoms)
unfolding out_sections led
sections_ranked files atoms =
    led_pairs (greatest_align (thread_local (in_order (sections_of (rows files atoms))))) (in_order (sections_of (rows files atoms))) (order_pairs (sections_of (rows files atoms)))

-- ---- the sections of segments

abbrev PartRank : Part → Part → Type 0
PartRank a b = InRank a.section b.section

-- what is behind zerofill is zerofill
abbrev pub FilesFirst : List Part → Type 0
FilesFirst parts = Pairs (λ a b. is_zerofill a.section.kind ≡ true → is_zerofill b.section.kind ≡ true) parts

-- the sections of a segment
pub record IsStored (parts : List Part) : Type 0 where
  pub first : FilesFirst parts
  pub low : (part : Part) → In part parts → part.section.align ≤ 14

-- the last one has bytes of its own
pub record EndsFull (parts : List Part) : Type 0 where
  pub before : List Part
  pub last : Part
  pub joined : parts ≡ before ++ last ∷ []
  pub solid : is_zerofill last.section.kind ≡ false
  pub full : last.fixed ≢ 0

-- either way those with bytes have places in the file
abbrev pub HaveFilePlaces : List Part → Type 0
HaveFilePlaces parts = IsStored parts ⊎ EndsFull parts

-- sections whose order in each segment is known, and whose alignments are
record AreParts (parts : List Part) : Type 0 where
  pub ranks : Pairs PartRank parts
  pub low : (part : Part) → In part parts → part.section.align ≤ 14

chosen_parts : (choice : Choice) (ss : List OutSection) → Pairs InRank ss → All (λ (s : OutSection). s.align ≤ 14) ss → AreParts (chosen choice ss)
unfolding chosen
chosen_parts choice ss pairs low = record {
  ranks = pairs_map with_atoms PartRank (filter (is_chosen choice) ss) (pairs_filter InRank (is_chosen choice) ss pairs);
  low = λ part h.
      let m = from_map with_atoms (filter (is_chosen choice) ss) part h in
      let there = from_filter (is_chosen choice) ss m.0 m.1 in
      subst (λ (p : Part). p.section.align ≤ 14) m.2 (all_in (λ (s : OutSection). s.align ≤ 14) ss m.0 (recursion_from_All (λ (s : OutSection). s.align ≤ 14) ss low) there.0);
}

own_solid : (made : Made) (bytes : ℕ) (part : Part) → In part (own made bytes) → (is_zerofill part.section.kind ≡ false) × (part.section.align ≤ 14)
own_solid made bytes part h = by made (bytes == 0) h
  where
    of_kind : (made : Made) → (is_zerofill (section_of made).kind ≡ false) × ((section_of made).align ≤ 14)
    of_kind Stubs = (refl, omega arith)
    of_kind UnwindInfo = (refl, omega arith)
    of_kind Got = (refl, omega arith)
    of_kind ThreadPtrs = (refl, omega arith)

    by : (made : Made) (b : Bool) → In part (if b then [] else record { section = section_of made; fixed = bytes } ∷ []) → (is_zerofill part.section.kind ≡ false) × (part.section.align ≤ 14)
    by made true k = absurd k
    by made false (inl e) = subst (λ (p : Part). (is_zerofill p.section.kind ≡ false) × (p.section.align ≤ 14)) e (of_kind made)
    by made false (inr k) = absurd k

-- sections with bytes before others
solid_before : (solid parts : List Part) → ((part : Part) → In part solid → (is_zerofill part.section.kind ≡ false) × (part.section.align ≤ 14)) → IsStored parts → IsStored (solid ++ parts)
solid_before [] parts each stored = stored
solid_before (part ∷ solid) parts each stored =
    let rest = solid_before solid parts (λ p h. each p (inr h)) stored in
    record { first = ((λ y h zeros. clash (is_zerofill part.section.kind) (each part (inl refl)).0 zeros), rest.first); low = lower rest.low }
  where
    lower : ((p : Part) → In p (solid ++ parts) → p.section.align ≤ 14) → (p : Part) → (part ≡ p) ⊎ In p (solid ++ parts) → p.section.align ≤ 14
    lower low p (inl e) = subst (λ (q : Part). q.section.align ≤ 14) e (each part (inl refl)).1
    lower low p (inr h) = low p h

of_one : (name : List ℕ) (parts : List Part) → ((part : Part) → In part parts → part.section.segment ≡ name) → AreParts parts → IsStored parts
of_one name parts same are = record {
  first = pairs_weaker PartRank (λ a b. is_zerofill a.section.kind ≡ true → is_zerofill b.section.kind ≡ true) parts (λ x y h k rank. rank (same x h ∙ sym (same y k))) are.ranks;
  low = are.low;
}

-- the segment of chosen sections
chosen_in : (choice : Choice) (name : List ℕ) (ss : List OutSection) → ((s : OutSection) → is_chosen choice s ≡ true → is_in name s ≡ true) → (part : Part) → In part (chosen choice ss) → part.section.segment ≡ name
unfolding chosen
chosen_in choice name ss leads part h =
    let m = from_map with_atoms (filter (is_chosen choice) ss) part h in
    let there = from_filter (is_chosen choice) ss m.0 m.1 in
    subst (λ (p : Part). p.section.segment ≡ name) m.2 ((names_equal m.0.segment name).0 (leads m.0 there.1))

code_solid : (ss : List OutSection) → All (λ (s : OutSection). s.align ≤ 14) ss → Pairs InRank ss → (part : Part) → In part (chosen Code ss) → (is_zerofill part.section.kind ≡ false) × (part.section.align ≤ 14)
unfolding chosen is_chosen
code_solid ss low pairs part h =
    let m = from_map with_atoms (filter (is_chosen Code) ss) part h in
    let there = from_filter (is_chosen Code) ss m.0 m.1 in
    let code : is_code m.0 ≡ true = there.1 in
    let kind : (m.0.kind == 0) ≡ true = (both _ _ code).1 in
    subst (λ (p : Part). (is_zerofill p.section.kind ≡ false) × (p.section.align ≤ 14)) m.2
    (kind_zeros m.0 0 false refl kind, all_in (λ (s : OutSection). s.align ≤ 14) ss m.0 (recursion_from_All (λ (s : OutSection). s.align ≤ 14) ss low) there.0)

beside_in_text : (s : OutSection) → is_chosen BesideCode s ≡ true → is_in (codes "__TEXT") s ≡ true
unfolding is_chosen
beside_in_text s e = (both _ _ e).0

constant_in : (s : OutSection) → is_chosen Constant s ≡ true → is_in (codes "__DATA_CONST") s ≡ true
unfolding is_chosen
constant_in s e = e

writable_in : (s : OutSection) → is_chosen Writable s ≡ true → is_in (codes "__DATA") s ≡ true
unfolding is_chosen
writable_in s e = e

text_stored : (ss : List OutSection) (bytes : MadeBytes) → Pairs InRank ss → All (λ (s : OutSection). s.align ≤ 14) ss → HaveFilePlaces (text_parts ss bytes)
unfolding text_parts
text_stored ss bytes pairs low = by (bytes.unwind == 0) refl
  where
    front : List Part
    front = chosen Code ss ++ own Stubs bytes.stubs ++ chosen BesideCode ss

    info : Part
    info = record { section = section_of UnwindInfo; fixed = bytes.unwind }

    stored : IsStored front
    stored =
        let beside : IsStored (chosen BesideCode ss) = of_one (codes "__TEXT") (chosen BesideCode ss) (chosen_in BesideCode (codes "__TEXT") ss beside_in_text) (chosen_parts BesideCode ss pairs low) in
        let stubs : IsStored (own Stubs bytes.stubs ++ chosen BesideCode ss) = solid_before (own Stubs bytes.stubs) (chosen BesideCode ss) (own_solid Stubs bytes.stubs) beside in
        let all : IsStored (chosen Code ss ++ (own Stubs bytes.stubs ++ chosen BesideCode ss)) = solid_before (chosen Code ss) (own Stubs bytes.stubs ++ chosen BesideCode ss) (code_solid ss low pairs) stubs in
        subst (λ (ps : List Part). IsStored ps) (sym (append_assoc (chosen Code ss) (own Stubs bytes.stubs) (chosen BesideCode ss))) all

    by : (b : Bool) → (bytes.unwind == 0) ≡ b → HaveFilePlaces (front ++ (if b then [] else info ∷ []))
    by true e = inl (subst (λ (ps : List Part). IsStored ps) (sym (append-nil front)) stored)
    by false e = inr (record { before = front; last = info; joined = refl; solid = refl; full = λ z. false≢true (sym e ∙ ap (λ (n : ℕ). n == 0) z) })

constant_stored : (ss : List OutSection) (bytes : MadeBytes) → Pairs InRank ss → All (λ (s : OutSection). s.align ≤ 14) ss → IsStored (constant_parts ss bytes)
unfolding constant_parts
constant_stored ss bytes pairs low =
    solid_before (own Got bytes.got) (chosen Constant ss) (own_solid Got bytes.got)
    (of_one (codes "__DATA_CONST") (chosen Constant ss) (chosen_in Constant (codes "__DATA_CONST") ss constant_in) (chosen_parts Constant ss pairs low))

writable_stored : (ss : List OutSection) (bytes : MadeBytes) → Pairs InRank ss → All (λ (s : OutSection). s.align ≤ 14) ss → IsStored (writable_parts ss bytes)
unfolding writable_parts
writable_stored ss bytes pairs low =
    solid_before (own ThreadPtrs bytes.tlv) (chosen Writable ss) (own_solid ThreadPtrs bytes.tlv)
    (of_one (codes "__DATA") (chosen Writable ss) (chosen_in Writable (codes "__DATA") ss writable_in) (chosen_parts Writable ss pairs low))

-- ---- segments of the inputs' own

pairs_left : (R : Part → Part → Type 0) (xs ys : List Part) → Pairs R (xs ++ ys) → Pairs R xs
pairs_left R [] ys pairs = tt
pairs_left R (x ∷ xs) ys pairs = ((λ y h. pairs.0 y (in_left xs ys y h)), pairs_left R xs ys pairs.1)

pairs_right : (R : Part → Part → Type 0) (xs ys : List Part) → Pairs R (xs ++ ys) → Pairs R ys
pairs_right R [] ys pairs = pairs
pairs_right R (x ∷ xs) ys pairs = pairs_right R xs ys pairs.1

abbrev GroupStored : Group → Type 0
GroupStored group = HaveFilePlaces group.parts

named_stored : (name : List ℕ) (parts : List Part) → IsStored parts → AllByRecursion GroupStored (group_named name parts)
named_stored name [] stored = tt
named_stored name (part ∷ parts) stored = (inl stored, tt)

runs_stored : (name : List ℕ) (run parts : List Part) → ((part : Part) → In part run → part.section.segment ≡ name) → AreParts (run ++ parts) → AllByRecursion GroupStored (runs_from name run parts)
runs_stored name run [] same are =
    named_stored name run (of_one name run same (subst (λ (ps : List Part). AreParts ps) (append-nil run) are))
runs_stored name run (part ∷ parts) same are =
    by (λ p. runs_stored name (run ++ part ∷ []) parts (more p) (subst (λ (ps : List Part). AreParts ps) (sym (append_assoc run (part ∷ []) parts)) are))
    (runs_stored part.section.segment (part ∷ []) parts alone (record { ranks = pairs_right PartRank run (part ∷ parts) are.ranks; low = λ p h. are.low p (in_right run (part ∷ parts) p h) }))
    (bytes_eq part.section.segment name) refl
  where
    alone : (p : Part) → In p (part ∷ []) → p.section.segment ≡ part.section.segment
    alone p (inl e) = ap (λ (q : Part). q.section.segment) (sym e)
    alone p (inr h) = absurd h

    more : part.section.segment ≡ name → (p : Part) → In p (run ++ part ∷ []) → p.section.segment ≡ name
    more e p h = elim (in_either run (part ∷ []) p h) [
      | inl here ↦ same p here
      | inr last ↦ alone p last ∙ e
    ]

    by : (part.section.segment ≡ name → AllByRecursion GroupStored (runs_from name (run ++ part ∷ []) parts)) → AllByRecursion GroupStored (runs_from part.section.segment (part ∷ []) parts) → (b : Bool) → bytes_eq part.section.segment name ≡ b → AllByRecursion GroupStored (runs_from name run (part ∷ parts))
    by on next true e = rw e (on ((names_equal part.section.segment name).0 e))
    by on next false e = rw e (appended GroupStored (group_named name run) (runs_from part.section.segment (part ∷ []) parts)
        (named_stored name run (of_one name run same (record { ranks = pairs_left PartRank run (part ∷ parts) are.ranks; low = λ p h. are.low p (in_left run (part ∷ parts) p h) }))) next)

-- ---- all segments

pub groups_stored : (ss : List OutSection) (bytes : MadeBytes) → Pairs InRank ss → All (λ (s : OutSection). s.align ≤ 14) ss → AllByRecursion (λ (group : Group). HaveFilePlaces group.parts) (groups_of ss bytes)
unfolding groups_of runs
groups_stored ss bytes pairs low =
    let text : List Group = record { name = codes "__TEXT"; parts = text_parts ss bytes } ∷ [] in
    let constant : List Group = group_named (codes "__DATA_CONST") (constant_parts ss bytes) in
    let writable : List Group = group_named (codes "__DATA") (writable_parts ss bytes) in
    let others : List Group = runs_from [] [] (chosen Elsewhere ss) in
    appended GroupStored (text ++ constant ++ writable) others
    (appended GroupStored (text ++ constant) writable
    (appended GroupStored text constant (text_stored ss bytes pairs low, tt) (named_stored (codes "__DATA_CONST") (constant_parts ss bytes) (constant_stored ss bytes pairs low)))
    (named_stored (codes "__DATA") (writable_parts ss bytes) (writable_stored ss bytes pairs low)))
    (runs_stored [] [] (chosen Elsewhere ss) (λ p h. absurd h) (chosen_parts Elsewhere ss pairs low))

pub all_stored : (files : List LoadedFile) (atoms : List Atom) (bytes : MadeBytes) → All (λ (atom : Atom). atom.align ≤ 14) atoms → AllByRecursion (λ (group : Group). HaveFilePlaces group.parts) (groups_of (out_sections files atoms) bytes)
all_stored files atoms bytes low = groups_stored (out_sections files atoms) bytes (sections_ranked files atoms) (all_low files atoms low)
