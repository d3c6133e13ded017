-- Sections with bytes stand one behind the other in the file, up to the end of the last segment.
use Rattle.std.proofs.Common.{◌≡◌, ◌≢◌, ℕ, ◌+◌, ◌-◌, ◌*◌, ◌≤◌, ◌^◌, ◌==◌, ◌&&◌, not, Bool, true, false, List, [], ◌∷◌, ◌++◌, inl, inr, refl, sym, ap, ◌∙◌, subst, arith, if◌then◌else◌}
use Rattle.std.specs.List.{AllByRecursion, filter}
use Rattle.std.proofs.lemmas.Bool.{cases_Bool, eqb-true, false≢true}
use Rattle.std.proofs.lemmas.Nat.{pow-add}
use Rattle.list_lemmas.proofs.Members.{In, in_right}
use Rattle.mo_types.specs.Whole.{is_zerofill}
use Rattle.mo_types.specs.declared.atom.Atom.{Atom}
use Rattle.mo_types.specs.declared.key.AtomKey.{AtomKey}
use Rattle.tlv_plan.specs.Template.{aligned}
use Rattle.tlv_plan.proofs.Walk.{after_end, aligned_least}
use Rattle.sect_place.specs.Places.{file_bytes, group_end, groups_file, groups_sections, is_filled, page_up, part_end, part_from, parts_filled, parts_sections, placed_section}
use Rattle.sect_place.specs.declared.layout.PlacedSection.{PlacedSection}
use Rattle.sect_place.specs.declared.part.Group.{Group}
use Rattle.sect_place.specs.declared.part.Part.{Part}
use Rattle.sect_place.proofs.Spread.{aligned_order, filled_bounds, part_bounds}
use Rattle.image_make.specs.Rows.{has_bytes}
use Rattle.image_make.proofs.RankLemmas.{FilesFirst, HaveFilePlaces}

-- from an offset of the file on, each behind the one before, up to an end
abbrev pub FileChain : ℕ → List PlacedSection → ℕ → Type 0
FileChain at [] end = at ≤ end
FileChain at (section ∷ sections) end = (at ≤ section.file_offset) × FileChain (section.file_offset + section.size) sections end

earlier : (a b end : ℕ) (ss : List PlacedSection) → a ≤ b → FileChain b ss end → FileChain a ss end
earlier a b end [] low chain = omega arith
earlier a b end (s ∷ ss) low chain = (omega (arith, low, chain.0), chain.1)

join : (at mid end : ℕ) (xs ys : List PlacedSection) → FileChain at xs mid → FileChain mid ys end → FileChain at (xs ++ ys) end
join at mid end [] ys first second = earlier at mid end ys first second
join at mid end (x ∷ xs) ys first second = (first.0, join (x.file_offset + x.size) mid end xs ys first.1 second)

pub filter_join : (t : PlacedSection → Bool) (xs ys : List PlacedSection) → filter t (xs ++ ys) ≡ filter t xs ++ filter t ys
filter_join t [] ys = refl
filter_join t (x ∷ xs) ys = by (filter_join t xs ys) (t x) refl
  where
    by : filter t (xs ++ ys) ≡ filter t xs ++ filter t ys → (b : Bool) → t x ≡ b → filter t ((x ∷ xs) ++ ys) ≡ filter t (x ∷ xs) ++ filter t ys
    by rest true e = rw e (ap (λ (zs : List PlacedSection). x ∷ zs) rest)
    by rest false e = rw e rest

-- ---- one segment

no_files : (atoms : List AtomKey → List Atom) (start file at : ℕ) (parts : List Part) → ((part : Part) → In part parts → is_zerofill part.section.kind ≡ true) → filter has_bytes (parts_sections atoms start file at parts) ≡ []
unfolding parts_sections placed_section
no_files atoms start file at [] each = refl
no_files atoms start file at (part ∷ parts) each =
    let here : not (is_zerofill part.section.kind) ≡ false = ap not (each part (inl refl)) in
    let rest = no_files atoms start file (part_end atoms at part) parts (λ p h. each p (inr h)) in
    rw here rest

-- a multiple of a page is one of each lesser power of two
aligned_page : (align at n : ℕ) → align ≤ 14 → at ≤ page_up n → aligned align at ≤ page_up n
aligned_page align at n low before =
    let page = aligned_least 14 n in
    let here = aligned_least align at in
    let parts : 14 - align + align ≡ 14 = omega arith in
    let power : 2 ^ 14 ≡ 2 ^ (14 - align) * 2 ^ align = ap (λ (k : ℕ). 2 ^ k) (sym parts) ∙ pow-add 2 (14 - align) align in
    let count : ℕ = page.whole.0 * 2 ^ (14 - align) in
    let whole : page_up n ≡ count * 2 ^ align = page.whole.1 ∙ ap (λ (k : ℕ). page.whole.0 * k) power ∙ assoc page.whole.0 (2 ^ (14 - align)) (2 ^ align) in
    let reach = here.least count (subst (λ (k : ℕ). at ≤ k) whole before) in
    omega (arith, reach, whole)
  where
    assoc : (a b c : ℕ) → a * (b * c) ≡ a * b * c
    assoc a b c = omega arith

bare_end : (atoms : List AtomKey → List Atom) (at : ℕ) (part : Part) → is_zerofill part.section.kind ≡ false → is_filled atoms at part ≡ false → part_end atoms at part ≡ part_from at part
unfolding is_filled
bare_end atoms at part solid bare = by (part_end atoms at part == part_from at part) refl (rw solid at bare)
  where
    by : (b : Bool) → (part_end atoms at part == part_from at part) ≡ b → (true && not b) ≡ false → part_end atoms at part ≡ part_from at part
    by true e f = eqb-true (part_end atoms at part) (part_from at part) e
    by false e f = absurd (false≢true (sym f))

parts_chain : (atoms : List AtomKey → List Atom) (start file at filled stop from : ℕ) (parts : List Part) → FilesFirst parts → ((part : Part) → In part parts → part.section.align ≤ 14) → start ≤ filled → filled ≤ at → at ≤ page_up filled → page_up (parts_filled atoms filled at parts) ≤ stop → from ≤ file + (at - start)
    → FileChain from (filter has_bytes (parts_sections atoms start file at parts)) (file + (stop - start))
unfolding parts_sections placed_section parts_filled
parts_chain atoms start file at filled stop from [] first low begins before within ends behind = omega arith
parts_chain atoms start file at filled stop from (part ∷ parts) first low begins before within ends behind =
    let bounds = part_bounds atoms at part in
    elim (cases_Bool (is_zerofill part.section.kind)) [
      | inl zeros ↦
          let none : filter has_bytes (parts_sections atoms start file at (part ∷ parts)) ≡ [] = no_files atoms start file at (part ∷ parts) (all_zeros zeros) in
          let most = filled_bounds atoms filled at (part ∷ parts) before in
          let pages = aligned_order 14 filled (parts_filled atoms filled at (part ∷ parts)) most.0 in
          rw none (omega (arith, within, ends, pages, behind))
      | inr solid ↦
          let there : not (is_zerofill part.section.kind) ≡ true = ap not solid in
          let begin = aligned_page part.section.align at filled (low part (inl refl)) within in
          elim (cases_Bool (is_filled atoms at part)) [
            | inl is ↦
                let ends_on : page_up (parts_filled atoms (part_end atoms at part) (part_end atoms at part) parts) ≤ stop = rw is at ends in
                let pages = (aligned_least 14 (part_end atoms at part)).enough in
                let rest = parts_chain atoms start file (part_end atoms at part) (part_end atoms at part) stop (file + (part_from at part - start) + (part_end atoms at part - part_from at part)) parts first.1 (λ p h. low p (inr h)) (omega (arith, begins, before, bounds.0, bounds.1)) (omega arith) pages ends_on (omega (arith, begins, before, bounds.0, bounds.1)) in
                rw (there, solid) (omega (arith, behind, bounds.0), rest)
            | inr bare ↦
                let ends_on : page_up (parts_filled atoms filled (part_end atoms at part) parts) ≤ stop = rw bare at ends in
                let same = bare_end atoms at part solid bare in
                let rest = parts_chain atoms start file (part_end atoms at part) filled stop (file + (part_from at part - start) + (part_end atoms at part - part_from at part)) parts first.1 (λ p h. low p (inr h)) begins (omega (arith, before, bounds.0, bounds.1)) (omega (arith, same, begin)) ends_on (omega (arith, begins, before, bounds.0, bounds.1)) in
                rw (there, solid) (omega (arith, behind, bounds.0), rest)
          ]
    ]
  where
    all_zeros : is_zerofill part.section.kind ≡ true → (p : Part) → In p (part ∷ parts) → is_zerofill p.section.kind ≡ true
    all_zeros zeros p (inl e) = subst (λ (q : Part). is_zerofill q.section.kind ≡ true) e zeros
    all_zeros zeros p (inr h) = first.0 p h zeros

-- one that has bytes of its own
last_filled : (atoms : List AtomKey → List Atom) (at : ℕ) (last : Part) → is_zerofill last.section.kind ≡ false → last.fixed ≢ 0 → is_filled atoms at last ≡ true
unfolding is_filled part_end
last_filled atoms at last solid full = by (part_end atoms at last == part_from at last) refl
  where
    by : (b : Bool) → (part_end atoms at last == part_from at last) ≡ b → (not (is_zerofill last.section.kind) && not b) ≡ true
    by true e =
        let same : part_end atoms at last ≡ part_from at last = eqb-true (part_end atoms at last) (part_from at last) e in
        let after = after_end (part_from at last) (atoms last.section.atoms) in
        absurd (full (omega (arith, same, after)))
    by false e = rw solid refl

-- where it is the last one, zeros before it are in the file too
full_chain : (atoms : List AtomKey → List Atom) (start file at filled stop from : ℕ) (before : List Part) (last : Part) → is_zerofill last.section.kind ≡ false → last.fixed ≢ 0 → start ≤ at → page_up (parts_filled atoms filled at (before ++ last ∷ [])) ≤ stop → from ≤ file + (at - start)
    → FileChain from (filter has_bytes (parts_sections atoms start file at (before ++ last ∷ []))) (file + (stop - start))
unfolding parts_sections placed_section parts_filled
full_chain atoms start file at filled stop from [] last solid full begins ends behind =
    let bounds = part_bounds atoms at last in
    let there : not (is_zerofill last.section.kind) ≡ true = ap not solid in
    let is = last_filled atoms at last solid full in
    let most : page_up (part_end atoms at last) ≤ stop = rw is at ends in
    let pages = (aligned_least 14 (part_end atoms at last)).enough in
    rw (there, solid) (omega (arith, behind, begins, bounds.0), omega (arith, begins, bounds.0, bounds.1, pages, most))
full_chain atoms start file at filled stop from (part ∷ before) last solid full begins ends behind =
    let bounds = part_bounds atoms at part in
    let next : ℕ = if is_filled atoms at part then part_end atoms at part else filled in
    elim (cases_Bool (is_zerofill part.section.kind)) [
      | inl zeros ↦
          let there : not (is_zerofill part.section.kind) ≡ false = ap not zeros in
          let rest = full_chain atoms start file (part_end atoms at part) next stop from before last solid full (omega (arith, begins, bounds.0, bounds.1)) ends (omega (arith, behind, begins, bounds.0, bounds.1)) in
          rw there rest
      | inr some ↦
          let there : not (is_zerofill part.section.kind) ≡ true = ap not some in
          let rest = full_chain atoms start file (part_end atoms at part) next stop (file + (part_from at part - start) + (part_end atoms at part - part_from at part)) before last solid full (omega (arith, begins, bounds.0, bounds.1)) ends (omega (arith, begins, bounds.0, bounds.1)) in
          rw (there, some) (omega (arith, behind, begins, bounds.0), rest)
    ]

segment_chain : (atoms : List AtomKey → List Atom) (start file at filled stop from : ℕ) (parts : List Part) → HaveFilePlaces parts → start ≤ filled → filled ≤ at → at ≤ page_up filled → page_up (parts_filled atoms filled at parts) ≤ stop → from ≤ file + (at - start)
    → FileChain from (filter has_bytes (parts_sections atoms start file at parts)) (file + (stop - start))
segment_chain atoms start file at filled stop from parts (inl stored) begins before within ends behind = parts_chain atoms start file at filled stop from parts stored.first stored.low begins before within ends behind
segment_chain atoms start file at filled stop from parts (inr full) begins before within ends behind =
    subst (λ (ps : List Part). FileChain from (filter has_bytes (parts_sections atoms start file at ps)) (file + (stop - start))) (sym full.joined)
    (full_chain atoms start file at filled stop from full.before full.last full.solid full.full (omega (arith, begins, before)) (subst (λ (ps : List Part). page_up (parts_filled atoms filled at ps) ≤ stop) full.joined ends) behind)

-- ---- all segments

pub groups_chain : (atoms : List AtomKey → List Atom) (at file lead : ℕ) (groups : List Group) → AllByRecursion (λ (group : Group). HaveFilePlaces group.parts) groups → FileChain file (filter has_bytes (groups_sections atoms at file lead groups)) (groups_file atoms at file lead groups)
unfolding groups_sections groups_file file_bytes
groups_chain atoms at file lead [] stored = omega arith
groups_chain atoms at file lead (group ∷ groups) stored =
    let next = page_up (group_end atoms at lead group) in
    let past = file + file_bytes atoms at lead group in
    let here = segment_chain atoms at file (at + lead) (at + lead) (page_up (parts_filled atoms (at + lead) (at + lead) group.parts)) file group.parts stored.0 (omega arith) (omega arith) (aligned_least 14 (at + lead)).enough (omega arith) (omega arith) in
    subst (λ (ss : List PlacedSection). FileChain file ss (groups_file atoms next past 0 groups)) (sym (filter_join has_bytes (parts_sections atoms at file (at + lead) group.parts) (groups_sections atoms next past 0 groups)))
    (join file past (groups_file atoms next past 0 groups) (filter has_bytes (parts_sections atoms at file (at + lead) group.parts)) (filter has_bytes (groups_sections atoms next past 0 groups)) here (groups_chain atoms next past 0 groups stored.1))

-- the first one has its lead before all sections
pub first_chain : (atoms : List AtomKey → List Atom) (at file lead : ℕ) (group : Group) (groups : List Group) → AllByRecursion (λ (g : Group). HaveFilePlaces g.parts) (group ∷ groups) → FileChain (file + lead) (filter has_bytes (groups_sections atoms at file lead (group ∷ groups))) (groups_file atoms at file lead (group ∷ groups))
unfolding groups_sections groups_file file_bytes
first_chain atoms at file lead group groups stored =
    let next = page_up (group_end atoms at lead group) in
    let past = file + file_bytes atoms at lead group in
    let here = segment_chain atoms at file (at + lead) (at + lead) (page_up (parts_filled atoms (at + lead) (at + lead) group.parts)) (file + lead) group.parts stored.0 (omega arith) (omega arith) (aligned_least 14 (at + lead)).enough (omega arith) (omega arith) in
    subst (λ (ss : List PlacedSection). FileChain (file + lead) ss (groups_file atoms next past 0 groups)) (sym (filter_join has_bytes (parts_sections atoms at file (at + lead) group.parts) (groups_sections atoms next past 0 groups)))
    (join (file + lead) past (groups_file atoms next past 0 groups) (filter has_bytes (parts_sections atoms at file (at + lead) group.parts)) (filter has_bytes (groups_sections atoms next past 0 groups)) here (groups_chain atoms next past 0 groups stored.1))

-- what is within such sections, and how two of them stand
abbrev pub StandsBefore : PlacedSection → PlacedSection → Type 0
StandsBefore p q = p.file_offset + p.size ≤ q.file_offset

pub chain_within : (at end : ℕ) (ss : List PlacedSection) (p : PlacedSection) → FileChain at ss end → In p ss → (at ≤ p.file_offset) × (p.file_offset + p.size ≤ end)
chain_within at end [] p chain h = absurd h
chain_within at end (s ∷ ss) p chain (inl e) = subst (λ (q : PlacedSection). (at ≤ q.file_offset) × (q.file_offset + q.size ≤ end)) e (chain.0, chain_low (s.file_offset + s.size) end ss chain.1)
  where
    chain_low : (from last : ℕ) (xs : List PlacedSection) → FileChain from xs last → from ≤ last
    chain_low from last [] low = low
    chain_low from last (x ∷ xs) low = let rest = chain_low (x.file_offset + x.size) last xs low.1 in omega (arith, rest, low.0)
chain_within at end (s ∷ ss) p chain (inr h) = let rest = chain_within (s.file_offset + s.size) end ss p chain.1 h in (omega (arith, rest.0, chain.0), rest.1)

pub chain_turn : (at end : ℕ) (xs ys : List PlacedSection) (p q : PlacedSection) → FileChain at (xs ++ ys) end → In p xs → In q ys → StandsBefore p q
chain_turn at end [] ys p q chain h k = absurd h
chain_turn at end (x ∷ xs) ys p q chain (inl e) k =
    let later = chain_within (x.file_offset + x.size) end (xs ++ ys) q chain.1 (in_right xs ys q k) in
    subst (λ (z : PlacedSection). StandsBefore z q) e later.0
chain_turn at end (x ∷ xs) ys p q chain (inr h) k = chain_turn (x.file_offset + x.size) end xs ys p q chain.1 h k
