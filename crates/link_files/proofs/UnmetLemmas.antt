-- Of the references that nothing serves the first one is told alike by all.
use Rattle.std.proofs.Common.{◌≡◌, ◌≢◌, ℕ, List, [], Contains, Option, Some, None, Result, Ok, Err, refl, sym, ap, ◌∙◌, subst, inl, inr, arith}
use Rattle.std.specs.Prelude.{slice_get}
use Rattle.std.specs.List.{enumerate_from, filter}
use Rattle.std.specs.Option.{option_map_or}
use Rattle.std.specs.Ordering.{nat_cmp}
use Rattle.std.specs.declared.cmp.Ordering.TheVariants.{Less, Equal, Greater}
use Rattle.std.specs.Cmp.{IsTotalOrder}
use Rattle.std.proofs.lemmas.Cmp.{nat_cmp_total, on_total, then_total, tied_itself}
use Rattle.std.proofs.lemmas.List.Elements.{All-contains}
use Rattle.list_lemmas.proofs.Members.{Contains_from_in, In, from_filter, from_flat, from_map, in_from_Contains}
use Rattle.list_lemmas.proofs.Ties.{same_number, tied_first, tied_second}
use Rattle.atom_index.proofs.Keys.{same_key}
use Rattle.image_make.proofs.PairLemmas.{of_pairs, pairs_all}
use Rattle.input_files.specs.Files.{or_none}
use Rattle.mo_types.proofs.KeyOrder.{compare_files_total, compare_keys_total}
use Rattle.mo_types.specs.Keys.{compare_files, compare_keys}
use Rattle.mo_types.specs.Loaded.{IsBefore}
use Rattle.mo_types.specs.Refs.{refs_of}
use Rattle.mo_types.specs.RelocationRules.{section_numbered}
use Rattle.mo_types.specs.declared.answer.Refusal.{Refusal}
use Rattle.mo_types.specs.declared.answer.Refusal.TheVariants.{NeedsImage}
use Rattle.mo_types.specs.declared.goal.Goal.{Goal}
use Rattle.mo_types.specs.declared.key.AtomKey.{AtomKey}
use Rattle.mo_types.specs.declared.key.FileId.{FileId}
use Rattle.mo_types.specs.declared.loaded.LoadedFile.{LoadedFile}
use Rattle.mo_types.specs.declared.object.Section.{Section}
use Rattle.mo_types.specs.declared.reference.Ref.{Ref}
use Rattle.mo_types.specs.declared.reference_fault.RefFault.{RefFault}
use Rattle.slot_needs.specs.Unmet.{compare_unmet, is_kept_unmet, unmet, unmet_among, unmet_at, unmet_by}
use Rattle.slot_needs.specs.declared.unmet.Unmet.{Unmet}
use Rattle.link_files.specs.Bound.{IsUnmetTold, NeedsAnImage}
use Rattle.link_files.specs.Linked.{AreOrdered, AreReferred}
use Rattle.link_files.specs.Names.{label_of}
use Rattle.link_files.proofs.Cuts.{key_at}
use Rattle.link_files.proofs.Lists.{from_numbered, in_slice, neither_after, some_is}
use Rattle.link_files.proofs.Refs.{IsRead, is_read}

-- ---- a reference of a file

-- a file, and that a reference was read of its object
record IsOfFile (files : List LoadedFile) (r : Ref) : Type 0 where
  file : LoadedFile
  among : In file files
  read : IsRead file.object file.id r

read_of : (file : LoadedFile) (r : Ref) → file.refs ≡ or_none (refs_of file.object file.id) → In r file.refs → IsRead file.object file.id r
read_of file r is h = by (refs_of file.object file.id) refl
  where
    by : (read : Result (List Ref) RefFault) → refs_of file.object file.id ≡ read → IsRead file.object file.id r
    by (Ok refs) e = is_read file.object file.id refs r e (subst (λ (rs : List Ref). In r rs) (is ∙ ap or_none e) h)
    by (Err fault) e = absurd (subst (λ (rs : List Ref). In r rs) (is ∙ ap or_none e) h)

among_refs : (keys : List AtomKey) (goals : List Goal) (at : ℕ) (refs : List Ref) (u : Unmet) → In u (unmet_among keys goals at refs) → In u.reference refs
among_refs keys goals at refs u h =
    let from = from_map (unmet_by at) (filter (is_kept_unmet keys goals) refs) u h in
    let same : from.0 ≡ u.reference = ap (λ (x : Unmet). x.reference) from.2 in
    subst (λ (r : Ref). In r refs) same (from_filter (is_kept_unmet keys goals) refs from.0 from.1).0

at_file : (keys : List AtomKey) (goals : List (List Goal)) (p : ℕ × LoadedFile) (u : Unmet) → In u (unmet_at keys goals p) → In u.reference p.1.refs
unfolding unmet_at
at_file keys goals p u h = by (slice_get goals p.0) h
  where
    by : (some : Option (List Goal)) → In u (option_map_or (λ (gs : List Goal). unmet_among keys gs p.0 p.1.refs) some []) → In u.reference p.1.refs
    by None none = absurd none
    by (Some gs) among = among_refs keys gs p.0 p.1.refs u among

of_file : (keys : List AtomKey) (goals : List (List Goal)) (files : List LoadedFile) (u : Unmet) → AreReferred files → Contains (unmet keys goals files) u → IsOfFile files u.reference
unfolding unmet
of_file keys goals files u referred among =
    let from = from_flat (unmet_at keys goals) (enumerate_from 0 files) u (in_from_Contains (unmet keys goals files) u among) in
    let file : LoadedFile = from.0.1 in
    let place = from_numbered 0 files from.0 from.1 in
    let there : In file files = in_slice files place.0 file place.2 in
    let refs : file.refs ≡ or_none (refs_of file.object file.id) = All-contains (λ (f : LoadedFile). f.refs ≡ or_none (refs_of f.object f.id)) files file referred (Contains_from_in files file there) in
    record { file = file; among = there; read = read_of file u.reference refs (at_file keys goals from.0 u from.2) }

-- ---- its place in the file hangs on its atom and its place there

never_before : (a b : FileId) → a ≡ b → IsBefore a b → ⊥
never_before a b same before =
    let tied : compare_files a a ≡ Equal = tied_itself compare_files_total a in
    let less : compare_files a a ≡ Less = ap (compare_files a) same ∙ before in
    let both : Equal ≡ Less = sym tied ∙ less in
    cc

one_file : (files : List LoadedFile) (a b : LoadedFile) → AreOrdered files → In a files → In b files → a.id ≡ b.id → a ≡ b
one_file files a b ordered h k same = elim (of_pairs Rises files a b (pairs_all Rises files ordered) h k) [
  | inl e ↦ e
  | inr apart ↦ elim apart [
    | inl before ↦ absurd (never_before a.id b.id same before)
    | inr after ↦ absurd (never_before b.id a.id (sym same) after)
  ]
]
  where
    Rises : LoadedFile → LoadedFile → Type 0
    Rises x y = IsBefore x.id y.id

places : (file : LoadedFile) (a b : Ref) → IsRead file.object file.id a → IsRead file.object file.id b → a.atom ≡ b.atom → a.place ≡ b.place → a.file_place ≡ b.file_place
places file a b p q atom place =
    let keys : key_at file.id p.number p.offset ≡ key_at file.id q.number q.offset = sym p.atom ∙ atom ∙ q.atom in
    let number : p.number ≡ q.number = ap (λ (k : AtomKey). k.section) keys in
    let offset : p.offset ≡ q.offset = ap (λ (k : AtomKey). k.offset) keys in
    let section : p.section ≡ q.section = some_is p.section q.section (sym p.numbered ∙ ap (section_numbered file.object.sections) number ∙ q.numbered) in
    let start : p.section.file_offset ≡ q.section.file_offset = ap (λ (s : Section). s.file_offset) section in
    let one = p.place in
    let two = q.place in
    omega (arith, one, two, start, offset, place)

place_same : (files : List LoadedFile) (a b : Ref) → AreOrdered files → IsOfFile files a → IsOfFile files b → a.atom ≡ b.atom → a.place ≡ b.place → a.file_place ≡ b.file_place
place_same files a b ordered p q atom place =
    let id : q.file.id ≡ p.file.id =
    ap (λ (k : AtomKey). k.file) (sym q.read.atom) ∙ ap (λ (k : AtomKey). k.file) (sym atom) ∙ ap (λ (k : AtomKey). k.file) p.read.atom in
    let file : q.file ≡ p.file = one_file files q.file p.file ordered q.among p.among id in
    places p.file a b p.read (subst (λ (f : LoadedFile). IsRead f.object f.id b) file q.read) atom place

-- ---- the first one

unmet_total : IsTotalOrder compare_unmet
unfolding compare_unmet
unmet_total = then_total (on_total (λ (u : Unmet). u.reference.atom) compare_keys_total) (on_total (λ (u : Unmet). u.reference.place) nat_cmp_total)

tied : (a b : Unmet) → compare_unmet a b ≢ Greater → compare_unmet b a ≢ Greater → (a.reference.atom ≡ b.reference.atom) × (a.reference.place ≡ b.reference.place)
unfolding compare_unmet
tied a b first second =
    let same : compare_unmet a b ≡ Equal = neither_after unmet_total a b first second in (
      same_key a.reference.atom b.reference.atom (tied_first (compare_keys a.reference.atom b.reference.atom) (nat_cmp a.reference.place b.reference.place) same),
      same_number a.reference.place b.reference.place (tied_second (compare_keys a.reference.atom b.reference.atom) (nat_cmp a.reference.place b.reference.place) same),
    )

told_alike : (keys : List AtomKey) (goals : List (List Goal)) (files : List LoadedFile) (a b : Refusal) → AreOrdered files → AreReferred files → NeedsAnImage files (unmet keys goals files) a → NeedsAnImage files (unmet keys goals files) b → a ≡ b
told_alike keys goals files a b ordered referred p q =
    let same = tied p.first q.first (p.least q.first q.among) (q.least p.first p.among) in
    let place : p.first.reference.file_place ≡ q.first.reference.file_place =
    place_same files p.first.reference q.first.reference ordered (of_file keys goals files p.first referred p.among) (of_file keys goals files q.first referred q.among) same.0 same.1 in
    p.told
    ∙ ap (λ (k : AtomKey). NeedsImage (label_of files k.file) p.first.reference.file_place) same.0
    ∙ ap (NeedsImage (label_of files q.first.reference.atom.file)) place
    ∙ sym q.told

never_told : (files : List LoadedFile) (unmet : List Unmet) (why : Refusal) → unmet ≡ [] → NeedsAnImage files unmet why → ⊥
never_told files unmet why none first = subst (λ (us : List Unmet). In first.first us) none (in_from_Contains unmet first.first first.among)

pub unmet_same : (keys : List AtomKey) (goals : List (List Goal)) (files : List LoadedFile) (a b : Option Refusal) → AreOrdered files → AreReferred files → IsUnmetTold files (unmet keys goals files) a → IsUnmetTold files (unmet keys goals files) b → a ≡ b
unmet_same keys goals files None None ordered referred p q = refl
unmet_same keys goals files None (Some why) ordered referred p q = absurd (never_told files (unmet keys goals files) why p q)
unmet_same keys goals files (Some why) None ordered referred p q = absurd (never_told files (unmet keys goals files) why q p)
unmet_same keys goals files (Some a) (Some b) ordered referred p q = ap Some (told_alike keys goals files a b ordered referred p q)
