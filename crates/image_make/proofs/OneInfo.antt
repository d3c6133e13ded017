-- An image has one `__unwind_info`, and with more of its bytes no image is smaller.
use Rattle.std.proofs.Common.{◌≡◌, ◌≢◌, ℕ, ◌-◌, ◌<◌, ◌≤◌, ◌^◌, List, [], ◌∷◌, length, map, Contains, refl, sym, ap, ◌∙◌, subst, inl, inr, arith}
use Rattle.std.specs.List.{AllPairs}
use Rattle.std.specs.List.Sorted.{IsStrictlySortedBy}
use Rattle.std.specs.Ordering.{nat_cmp, on}
use Rattle.std.specs.declared.cmp.Ordering.TheVariants.{Less}
use Rattle.std.proofs.lemmas.Cmp.{nat_cmp_total, on_total}
use Rattle.std.proofs.lemmas.List.Sorted.{Contains-permutation, IsPermutation-sym}
use Rattle.list_lemmas.proofs.Rising.{rising_same}
use Rattle.list_lemmas.proofs.Members.{Contains_from_in, In, all_from_in, in_from_Contains}
use Rattle.mo_types.specs.declared.atom.Atom.{Atom}
use Rattle.mo_types.specs.declared.key.AtomKey.{AtomKey}
use Rattle.image_make.specs.Atoms.{AreRising, atom_of}
use Rattle.image_make.specs.Made.{ImageInputs, IsFirstInfo, IsInfo, IsLaid, kept_of, plan_for, plan_with, least_info, scene_of, sizes_of, with_info, with_least}
use Rattle.image_make.proofs.KeptListLemmas.{rising_atoms}
use Rattle.ref_meet.specs.Scene.{Scene}
use Rattle.sect_list.proofs.Once.{listed_once}
use Rattle.sect_list.specs.OutSections.{out_sections}
use Rattle.sect_place.proofs.Single.{layouts_same}
use Rattle.sect_place.specs.Layout.{IsLayoutOf, Plan, image_size}
use Rattle.sect_place.specs.declared.layout.Layout.{Layout}
use Rattle.tlv_plan.specs.Template.{keys_of}
use Rattle.unwind_link.proofs.SizeLemmas.{sizes}
use Rattle.unwind_link.proofs.UpLemmas.{plans_up}
use Rattle.unwind_link.specs.Rows.{AreRows, row_of}
use Rattle.unwind_link.specs.Twice.{AreOfText, ArePlacedTwice}
use Rattle.unwind_link.specs.declared.kept.KeptUnwind.{KeptUnwind}
use Rattle.unwind_out.specs.Held.{section_size}
use Rattle.unwind_out.specs.Table.{AreApart, BeginsAfter, end_of as rows_end, lsdas_of, personalities}
use Rattle.unwind_out.specs.declared.row.UnwindRow.{UnwindRow}
use Rattle.unwind_out.proofs.One.{section_one}
use Rattle.unwind_out.specs.Pages.{IsSection}
use Rattle.unwind_out.proofs.Sizes.{length-section}

-- ---- sizes

-- with more bytes no image is smaller
pub size_up : (m : ImageInputs) (few many : List ℕ) → 0 < length few → length few ≤ length many → image_size (plan_for (with_info m few)) ≤ image_size (plan_for (with_info m many))
unfolding plan_with
size_up m few many some up =
    plans_up (map atom_of (kept_of m)) (out_sections m.files (map atom_of (kept_of m))) m.slots m.islands m.command (sizes_of m.command m.libs 0).commands (length few) (length many) some up

-- ---- rows

less : (a b : ℕ) → a < b → nat_cmp a b ≡ Less
less a b low = grind arith

all_behind : (place : ℕ) (rows : List UnwindRow) → AreApart rows → BeginsAfter place rows → (row : UnwindRow) → In row rows → place ≤ row.function
all_behind place [] apart after row h = absurd h
all_behind place (first ∷ rows) apart after row (inl e) = subst (λ (r : UnwindRow). place ≤ r.function) e after
all_behind place (first ∷ rows) apart after row (inr h) =
    let own = apart.0 in
    let behind = all_behind first.end rows apart.2 apart.1 row h in
    omega (arith, after, own, behind)

rows_rise : (rows : List UnwindRow) → AreApart rows → IsStrictlySortedBy (on (λ (row : UnwindRow). row.function) nat_cmp) rows
unfolding IsStrictlySortedBy
rows_rise [] apart = tt
rows_rise (row ∷ rows) apart = (
  all_from_in (λ (other : UnwindRow). on (λ (r : UnwindRow). r.function) nat_cmp row other ≡ Less) rows (λ other there.
      let own = apart.0 in
      let behind = all_behind row.end rows apart.2 apart.1 other there in
      less row.function other.function (omega (arith, own, behind))),
  rows_rise rows apart.2,
)

rows_one : (s : Scene) (entries : List KeptUnwind) (rows others : List UnwindRow) → AreRows s entries rows → AreRows s entries others → AreApart rows → AreApart others → rows ≡ others
rows_one s entries rows others p q apart beside =
    let all = map (row_of s) entries in
    rising_same (on_total (λ (row : UnwindRow). row.function) nat_cmp_total) rows others (rows_rise rows apart) (rows_rise others beside)
    (λ t h. in_from_Contains others t (Contains-permutation all others t q.each (Contains-permutation rows all t (IsPermutation-sym all rows p.each) (Contains_from_in rows t h))))
    (λ t h. in_from_Contains rows t (Contains-permutation all rows t p.each (Contains-permutation others all t (IsPermutation-sym all others q.each) (Contains_from_in others t h))))

-- where everything stands the bytes of `__unwind_info` are told
pub holds_one : (s : Scene) (entries : List KeptUnwind) (a b : List ℕ) → IsInfo s entries a → IsInfo s entries b → a ≡ b
holds_one s [] a b p q = p ∙ sym q
holds_one s (entry ∷ more) a b p q =
    section_one p.rows a b p.section
    (subst (λ (rows : List UnwindRow). IsSection rows b) (rows_one s (entry ∷ more) q.rows p.rows q.are_rows p.are_rows q.apart p.apart) q.section)

-- ---- lengths

-- the functions of an image's unwind entries stand in `__TEXT`
abbrev pub IsOfText : ImageInputs → Type 0
IsOfText m = AreOfText (out_sections m.files (map atom_of (kept_of m))) m.unwinds

listed : (m : ImageInputs) → AreRising (kept_of m) → AllPairs (λ (a : AtomKey) (b : AtomKey). a ≢ b) (keys_of (out_sections m.files (map atom_of (kept_of m))))
listed m rising = listed_once m.files (map atom_of (kept_of m)) (rising_atoms (kept_of m) rising)

twice : (m : ImageInputs) (few many : List ℕ) (one other : Layout) → AreRising (kept_of m) → 0 < length few → 0 < length many
    → IsLayoutOf m.command (plan_for (with_info m few)) one → IsLayoutOf m.command (plan_for (with_info m many)) other
    → ArePlacedTwice (map atom_of (kept_of m)) (out_sections m.files (map atom_of (kept_of m))) m.islands m.command (sizes_of m.command m.libs 0).commands (length few) (length many) (scene_of m one) other
unfolding plan_with
twice m few many one other rising some more first second = record { some = some; more = more; once = listed m rising; base = refl; first = first; second = second }

lengths_by : (m : ImageInputs) (entries : List KeptUnwind) (few many : List ℕ) (one other : Layout) (a b : List ℕ) → m.unwinds ≡ entries → AreRising (kept_of m) → IsOfText m
    → (entries ≢ [] → 0 < length few) → (entries ≢ [] → 0 < length many) → IsLayoutOf m.command (plan_for (with_info m few)) one → IsLayoutOf m.command (plan_for (with_info m many)) other
    → IsInfo (scene_of m one) entries a → IsInfo (scene_of m other) entries b → length a ≡ length b
lengths_by m [] few many one other a b is rising text some more first second p q = ap length (p ∙ sym q)
lengths_by m (entry ∷ rest) few many one other a b is rising text some more first second p q =
    sizes (map atom_of (kept_of m)) (out_sections m.files (map atom_of (kept_of m))) m.islands m.command (sizes_of m.command m.libs 0).commands (length few) (length many) (scene_of m one) other (entry ∷ rest) p.rows q.rows a b
    (twice m few many one other rising (some (λ e. cc)) (more (λ e. cc)) first second)
    (subst (λ (es : List KeptUnwind). AreOfText (out_sections m.files (map atom_of (kept_of m))) es) is text)
    p.are_rows q.are_rows p.apart q.apart p.section q.section

-- however many bytes `__unwind_info` is placed with, as many are told of it
pub lengths_same : (m : ImageInputs) (few many : List ℕ) (one other : Layout) (a b : List ℕ) → AreRising (kept_of m) → IsOfText m
    → (m.unwinds ≢ [] → 0 < length few) → (m.unwinds ≢ [] → 0 < length many) → IsLayoutOf m.command (plan_for (with_info m few)) one → IsLayoutOf m.command (plan_for (with_info m many)) other
    → IsInfo (scene_of m one) m.unwinds a → IsInfo (scene_of m other) m.unwinds b → length a ≡ length b
lengths_same m few many one other a b rising text some more first second p q =
    lengths_by m m.unwinds few many one other a b refl rising text some more first second p q

-- a section of unwind entries has bytes
section_some : (rows : List UnwindRow) (info : List ℕ) → IsSection rows info → 0 < length info
section_some rows info is =
    let long : length info ≡ section_size (length (personalities rows)) (length (lsdas_of rows)) is.pages =
    ap length is.spelled ∙ length-section (personalities rows) (lsdas_of rows) (rows_end rows) is.pages in
    omega (arith, long)

info_some : (s : Scene) (entries : List KeptUnwind) (info : List ℕ) → IsInfo s entries info → entries ≢ [] → 0 < length info
info_some s [] info is some = absurd (some refl)
info_some s (entry ∷ more) info is some = section_some is.rows info is.section

pub plans_same : (m : ImageInputs) (a b : List ℕ) → length a ≡ length b → plan_for (with_info m a) ≡ plan_for (with_info m b)
plans_same m a b same = ap (plan_with m.command m.libs m.files (kept_of m) m.slots m.islands) same

layouts_one : (m : ImageInputs) (one other : Layout) → AreRising (kept_of m) → IsLayoutOf m.command (plan_for m) one → IsLayoutOf m.command (plan_for m) other → one ≡ other
unfolding plan_with
layouts_one m one other rising first second =
    layouts_same (map atom_of (kept_of m)) (out_sections m.files (map atom_of (kept_of m))) m.slots m.islands (sizes_of m.command m.libs (length m.info)) m.command one other (listed m rising) first second

-- an image has one `__unwind_info`
pub infos_same : (m : ImageInputs) (a b : List ℕ) (one other : Layout) → AreRising (kept_of m) → IsOfText m → IsLaid (with_info m a) one → IsLaid (with_info m b) other → a ≡ b
infos_same m a b one other rising text p q =
    let long = lengths_same m a b one other a b rising text (info_some (scene_of m one) m.unwinds a p.unwinds) (info_some (scene_of m other) m.unwinds b q.unwinds) p.layout_of q.layout_of p.unwinds q.unwinds in
    let second = subst (λ (plan : Plan). IsLayoutOf m.command plan other) (sym (plans_same m a b long)) q.layout_of in
    let layout = layouts_one (with_info m a) one other rising p.layout_of second in
    holds_one (scene_of m one) m.unwinds a b p.unwinds (subst (λ (l : Layout). IsInfo (scene_of m l) m.unwinds b) (sym layout) q.unwinds)

-- ---- with a byte of it

least_some : (entries : List KeptUnwind) → entries ≢ [] → 0 < length (least_info entries)
least_some [] some = absurd (some refl)
least_some (entry ∷ more) some = omega arith

-- it has as many bytes as where everything stands with a byte of it
pub first_long : (m : ImageInputs) (first info : List ℕ) (layout : Layout) → AreRising (kept_of m) → IsOfText m → IsFirstInfo m first → IsLaid (with_info m info) layout → length first ≡ length info
first_long m first info layout rising text is laid =
    lengths_same m (least_info m.unwinds) info is.layout layout first info rising text (least_some m.unwinds) (info_some (scene_of m layout) m.unwinds info laid.unwinds) is.layout_of laid.layout_of is.holds laid.unwinds

pub firsts_long : (m : ImageInputs) (a b : List ℕ) → AreRising (kept_of m) → IsOfText m → IsFirstInfo m a → IsFirstInfo m b → length a ≡ length b
firsts_long m a b rising text is also =
    lengths_same m (least_info m.unwinds) (least_info m.unwinds) is.layout also.layout a b rising text (least_some m.unwinds) (least_some m.unwinds) is.layout_of also.layout_of is.holds also.holds

-- where it is laid, it would be with a byte
pub least_small : (m : ImageInputs) (info : List ℕ) (layout : Layout) → IsLaid (with_info m info) layout → image_size (plan_for (with_least m)) < 2 ^ 32
least_small m info layout laid = by m.unwinds refl
  where
    by : (entries : List KeptUnwind) → m.unwinds ≡ entries → image_size (plan_for (with_info m (least_info m.unwinds))) < 2 ^ 32
    by [] is =
        let none : info ≡ [] = subst (λ (es : List KeptUnwind). IsInfo (scene_of m layout) es info) is laid.unwinds in
        subst (λ (n : ℕ). image_size (plan_with m.command m.libs m.files (kept_of m) m.slots m.islands n) < 2 ^ 32) (ap length none ∙ sym (ap (λ (es : List KeptUnwind). length (least_info es)) is)) laid.small
    by (entry ∷ more) is =
        let some = info_some (scene_of m layout) (entry ∷ more) info (subst (λ (es : List KeptUnwind). IsInfo (scene_of m layout) es info) is laid.unwinds) (λ e. cc) in
        let small = laid.small in
        let up = size_up m (0 ∷ []) info (omega arith) (omega (arith, some)) in
        subst (λ (es : List KeptUnwind). image_size (plan_for (with_info m (least_info es))) < 2 ^ 32) (sym is) (omega (arith, small, up))
