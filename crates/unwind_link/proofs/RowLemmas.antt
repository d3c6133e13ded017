-- The rows of entries, entry by entry.
use Rattle.std.proofs.Common.{◌≡◌, ℕ, ◌+◌, ◌<◌, ◌≤◌, ◌^◌, List, [], ◌∷◌, ◌++◌, length, take, map, get_or, Option, Some, None, All, refl, sym, ap, ◌∙◌, subst}
use Rattle.std.specs.Option.{option_map_or}
use Rattle.std.proofs.lemmas.List.{map-append, take_all, take_more}
use Rattle.mo_types.specs.declared.key.AtomKey.{AtomKey}
use Rattle.mo_types.specs.declared.reference.Target.{Target}
use Rattle.ref_meet.specs.Scene.{Scene}
use Rattle.unwind_link.specs.Rows.{lsda_place, personality_slot, place_offset, row_of, slot_offset}
use Rattle.unwind_link.specs.declared.kept.KeptUnwind.{KeptUnwind}
use Rattle.unwind_out.specs.Law.{AreFields}
use Rattle.unwind_out.specs.declared.row.UnwindRow.{UnwindRow}

-- ---- the slot of a personality

pub slot_low : (s : Scene) (kept : KeptUnwind) (target : Target) → AreFields (row_of s kept) → kept.unwind.personality ≡ Some target → slot_offset s kept.file target < 2 ^ 32
unfolding row_of
slot_low s kept target fields is = let e : personality_slot s kept ≡ slot_offset s kept.file target = ap (λ (o : Option Target). option_map_or (slot_offset s kept.file) o 0) is in subst (λ (n : ℕ). n < 2 ^ 32) e fields.personality

pub slot_some : (s : Scene) (kept : KeptUnwind) (target : Target) → kept.unwind.personality ≡ Some target → slot_offset s kept.file target ≡ personality_slot s kept
slot_some s kept target is = sym (ap (λ (o : Option Target). option_map_or (slot_offset s kept.file) o 0) is)

pub slot_none : (s : Scene) (kept : KeptUnwind) → kept.unwind.personality ≡ None → 0 ≡ personality_slot s kept
slot_none s kept is = sym (ap (λ (o : Option Target). option_map_or (slot_offset s kept.file) o 0) is)

pub ruleset slots = (slot_low, slot_some, slot_none)

-- ---- language-specific data

pub lsda_low : (s : Scene) (kept : KeptUnwind) (lsda : AtomKey × ℕ) → AreFields (row_of s kept) → kept.unwind.lsda ≡ Some lsda → place_offset s lsda.0 lsda.1 < 2 ^ 32
unfolding row_of
lsda_low s kept lsda fields is = let e : lsda_place s kept ≡ place_offset s lsda.0 lsda.1 = ap (λ (o : Option (AtomKey × ℕ)). option_map_or (λ (l : AtomKey × ℕ). place_offset s l.0 l.1) o 0) is in subst (λ (n : ℕ). n < 2 ^ 32) e fields.lsda

pub lsda_some : (s : Scene) (kept : KeptUnwind) (lsda : AtomKey × ℕ) → kept.unwind.lsda ≡ Some lsda → place_offset s lsda.0 lsda.1 ≡ lsda_place s kept
lsda_some s kept lsda is = sym (ap (λ (o : Option (AtomKey × ℕ)). option_map_or (λ (l : AtomKey × ℕ). place_offset s l.0 l.1) o 0) is)

pub lsda_none : (s : Scene) (kept : KeptUnwind) → kept.unwind.lsda ≡ None → 0 ≡ lsda_place s kept
lsda_none s kept is = sym (ap (λ (o : Option (AtomKey × ℕ)). option_map_or (λ (l : AtomKey × ℕ). place_offset s l.0 l.1) o 0) is)

pub ruleset lsdas = (lsda_low, lsda_some, lsda_none)

-- ---- a row

pub function_low : (s : Scene) (kept : KeptUnwind) → AreFields (row_of s kept) → place_offset s kept.unwind.atom kept.unwind.offset < 2 ^ 32
unfolding row_of
function_low s kept fields = fields.function

pub end_low : (s : Scene) (kept : KeptUnwind) → AreFields (row_of s kept) → place_offset s kept.unwind.atom kept.unwind.offset + kept.unwind.length < 2 ^ 32
unfolding row_of
end_low s kept fields = fields.end

pub row_is : (s : Scene) (kept : KeptUnwind) (function slot lsda : ℕ) → function ≡ place_offset s kept.unwind.atom kept.unwind.offset → slot ≡ personality_slot s kept → lsda ≡ lsda_place s kept
    → record { function = function; end = function + kept.unwind.length; encoding = kept.unwind.encoding; personality = slot; lsda = lsda } ≡ row_of s kept
unfolding row_of
row_is s kept function slot lsda f p l =
    let made : ℕ → ℕ → ℕ → UnwindRow = λ a b c. record { function = a; end = a + kept.unwind.length; encoding = kept.unwind.encoding; personality = b; lsda = c } in
    ap (λ (n : ℕ). made n slot lsda) f ∙ ap (λ (n : ℕ). made (place_offset s kept.unwind.atom kept.unwind.offset) n lsda) p ∙ ap (λ (n : ℕ). made (place_offset s kept.unwind.atom kept.unwind.offset) (personality_slot s kept) n) l

pub ruleset rows = (function_low, end_low, row_is)

-- ---- all rows

pub walk_starts : (s : Scene) (kept : List KeptUnwind) → [] ≡ map (row_of s) (take 0 kept)
walk_starts s kept = refl

pub walk_goes_on : (s : Scene) (kept : List KeptUnwind) (at : ℕ) (one d : KeptUnwind) (now next : List UnwindRow) → now ≡ map (row_of s) (take at kept) → at < length kept → one ≡ get_or kept at d → next ≡ now ++ row_of s one ∷ [] → next ≡ map (row_of s) (take (at + 1) kept)
walk_goes_on s kept at one d now next so low is more =
    more ∙ ap (λ (rs : List UnwindRow). rs ++ row_of s one ∷ []) so
    ∙ sym (map-append (row_of s) (take at kept) (one ∷ []))
    ∙ ap (map (row_of s)) (ap (λ (k : KeptUnwind). take at kept ++ k ∷ []) is ∙ sym (take_more kept at d low))

pub walk_ends : (s : Scene) (kept : List KeptUnwind) (at : ℕ) (now : List UnwindRow) → now ≡ map (row_of s) (take at kept) → length kept ≤ at → now ≡ map (row_of s) kept
walk_ends s kept at now so past = so ∙ ap (map (row_of s)) (take_all at kept past)

pub fields_at : (s : Scene) (kept : List KeptUnwind) (at : ℕ) (one : KeptUnwind) → All (λ (k : KeptUnwind). AreFields (row_of s k)) kept → at < length kept → one ≡ get_or kept at one → AreFields (row_of s one)
fields_at s kept at one all low is = subst (λ (k : KeptUnwind). AreFields (row_of s k)) (sym is) (all at one low)

pub ruleset walks = (walk_starts, walk_ends, fields_at)
