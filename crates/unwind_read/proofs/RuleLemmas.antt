-- The least place at which a part of the rule fails in a section.
use Rattle.std.proofs.Common.{◌≡◌, ℕ, ◌*◌, ◌++◌, ◌∷◌, [], ◌||◌, List, Bool, true, false, not, eqb, Option, Some, None, refl, sym, ap, ◌∙◌}
use Rattle.std.specs.List.{cons_option, filter_map, flat_map, range_with_len}
use Rattle.mo_types.specs.declared.object.Object.{Object}
use Rattle.mo_types.specs.declared.object.Section.{Section}
use Rattle.mo_types.specs.RelocationRules.{least}
use Rattle.mo_types.specs.Rows.{when}
use Rattle.reloc_read.specs.Faults.{lesser}
use Rattle.unwind_read.specs.Found.{entry_fault}
use Rattle.unwind_read.specs.Rules.{EntryTest, entry_at, entry_count, entry_place, entry_relocs, entry_rule, faults_of, has_bad_function, has_bad_lsda, has_bad_personality, has_entries, has_no_function, not_whole, other_relocation, section_faults}
use Rattle.unwind_read.proofs.LeastLemmas.{least-append, none_passing, passing, two_tests}

abbrev tested : Object → Section → EntryTest → ℕ → Bool
tested object section test i = test object (entry_at section i) (entry_relocs section i)

-- four lists of tests of the same things, one behind the other
four_tests : (f g h k : ℕ → Bool) (place : ℕ → ℕ) (n : ℕ) → least (passing f place 0 n ++ (passing g place 0 n ++ (passing h place 0 n ++ (passing k place 0 n ++ [])))) ≡ least (passing (λ i. f i || (g i || (h i || (k i || false)))) place 0 n)
four_tests f g h k place n =
    let last : least (passing k place 0 n ++ []) ≡ least (passing (λ i. k i || false) place 0 n) =
    least-append (passing k place 0 n) []
    ∙ ap (λ xs. lesser (least (passing k place 0 n)) (least xs)) (sym (none_passing place 0 n))
    ∙ two_tests k (λ i. false) place 0 n in
    let third : least (passing h place 0 n ++ (passing k place 0 n ++ [])) ≡ least (passing (λ i. h i || (k i || false)) place 0 n) =
    least-append (passing h place 0 n) (passing k place 0 n ++ [])
    ∙ ap (lesser (least (passing h place 0 n))) last
    ∙ two_tests h (λ i. k i || false) place 0 n in
    let second : least (passing g place 0 n ++ (passing h place 0 n ++ (passing k place 0 n ++ []))) ≡ least (passing (λ i. g i || (h i || (k i || false))) place 0 n) =
    least-append (passing g place 0 n) (passing h place 0 n ++ (passing k place 0 n ++ []))
    ∙ ap (lesser (least (passing g place 0 n))) third
    ∙ two_tests g (λ i. h i || (k i || false)) place 0 n in
    least-append (passing f place 0 n) (passing g place 0 n ++ (passing h place 0 n ++ (passing k place 0 n ++ [])))
    ∙ ap (lesser (least (passing f place 0 n))) second
    ∙ two_tests f (λ i. g i || (h i || (k i || false))) place 0 n

cons_one : (o : Option ℕ) → least (cons_option o []) ≡ o
cons_one None = refl
cons_one (Some x) = refl

-- the place of the entry that isn't whole, that of a relocation, and that of an entry that fails a test
pub section_least : (object : Object) (section : Section) (whole other entry found : Option ℕ) → has_entries section ≡ true → whole ≡ when (not (eqb section.size (32 * entry_count section))) (entry_place section (entry_count section)) → other ≡ least (faults_of object section other_relocation) → entry ≡ least (filter_map (entry_fault object section) (range_with_len 0 (entry_count section))) → found ≡ lesser whole (lesser other entry) → found ≡ least (section_faults object section)
unfolding section_faults
section_least object section whole other entry found entries is_whole is_other is_entry e =
    let first : least (faults_of object section not_whole) ≡ whole =
    cons_one (when (not (eqb section.size (32 * entry_count section))) (entry_place section (entry_count section))) ∙ sym is_whole in
    let rest : List ℕ = flat_map (faults_of object section) (entry_rule has_no_function ∷ entry_rule has_bad_function ∷ entry_rule has_bad_lsda ∷ entry_rule has_bad_personality ∷ []) in
    let tests : least rest ≡ entry =
    four_tests (tested object section has_no_function) (tested object section has_bad_function) (tested object section has_bad_lsda) (tested object section has_bad_personality) (entry_place section) (entry_count section)
    ∙ sym is_entry in
    let all : least (faults_of object section not_whole ++ (faults_of object section other_relocation ++ rest)) ≡ lesser whole (lesser other entry) =
    least-append (faults_of object section not_whole) (faults_of object section other_relocation ++ rest)
    ∙ ap (λ o. lesser o (least (faults_of object section other_relocation ++ rest))) first
    ∙ ap (lesser whole) (least-append (faults_of object section other_relocation) rest ∙ ap (λ o. lesser o (least rest)) (sym is_other) ∙ ap (lesser other) tests) in
    e ∙ sym (rw entries all)

pub no_section_faults : (object : Object) (section : Section) → has_entries section ≡ false → None ≡ least (section_faults object section)
unfolding section_faults
no_section_faults object section none = rw none refl

pub ruleset sections = (no_section_faults, section_least)
