-- The words of slots.
use Rattle.std.proofs.Common.{◌≡◌, ℕ, ◌+◌, ◌*◌, ◌<◌, ◌≤◌, List, [], ◌++◌, length, get_or, refl, sym, ap, ◌∙◌, append_assoc, arith, ◌∷◌}
use Rattle.std.specs.Prelude.{unwrap_or}
use Rattle.std.specs.List.{enumerate_from, flat_map}
use Rattle.std.proofs.lemmas.List.FromFn.{get_or-enumerate_from, length-enumerate_from}
use Rattle.fixup_chain.specs.declared.chains.ChainWord.{ChainWord}
use Rattle.liveness.proofs.GrowLemmas.{IsGrowing, grow_end, grow_item, grow_start}
use Rattle.mo_bytes.specs.Number.{number_bytes}
use Rattle.mo_types.specs.declared.goal.Goal.{Goal}
use Rattle.mo_types.specs.declared.goal.Goal.TheVariants.{Nobody}
use Rattle.ref_meet.specs.Mets.{word_at}
use Rattle.fixup_chain.specs.declared.chains.Chains.{Chains}
use Rattle.image_join.specs.Joined.{LieApart, joined}
use Rattle.image_join.specs.declared.parts.Part.{Part}
use Rattle.sect_place.specs.declared.layout.Layout.{Layout}
use Rattle.slot_plan.specs.declared.list.Slots.{Slots}
use Rattle.slot_plan.specs.declared.need.Way.TheVariants.{Got, Stub, Tlv}
use Rattle.image_make.specs.Parts.{blank_of, image_parts, info_part, linkedit_offset, own_part, slot_word}

pub slots_start : (words : List ChainWord) (start : ℕ) (goals : List Goal) → IsGrowing (slot_word words start) [] [] (enumerate_from 0 goals) 0
slots_start words start goals = grow_start (slot_word words start) [] (enumerate_from 0 goals)

pub slot_more : (words : List ChainWord) (start : ℕ) (goals : List Goal) (now new : List ℕ) (n count : ℕ) → IsGrowing (slot_word words start) [] now (enumerate_from 0 goals) n → n < count → count ≡ length goals → new ≡ now ++ number_bytes 8 (unwrap_or (word_at words (start + 8 * n)) 0) → IsGrowing (slot_word words start) [] new (enumerate_from 0 goals) (n + 1)
slot_more words start goals now new n count grows low is more =
    let here : 0 + n ≡ n = omega arith in
    let x : ℕ × Goal = (n, get_or goals n Nobody) in
    grow_item (slot_word words start) [] now new (enumerate_from 0 goals) n x (0, Nobody) grows (omega (arith, low, is, length-enumerate_from 0 goals))
    (sym (get_or-enumerate_from 0 goals n (0, Nobody) (omega (arith, low, is)) ∙ ap (λ (k : ℕ). (k, get_or goals n Nobody)) here)) more

pub slots_end : (words : List ChainWord) (start : ℕ) (goals : List Goal) (now : List ℕ) (n count : ℕ) → IsGrowing (slot_word words start) [] now (enumerate_from 0 goals) n → count ≤ n → count ≡ length goals → now ≡ flat_map (slot_word words start) (enumerate_from 0 goals)
slots_end words start goals now n count grows past is = grow_end (slot_word words start) [] now (enumerate_from 0 goals) n grows (omega (arith, past, is, length-enumerate_from 0 goals))

pub ruleset slots = (slots_start)

-- ---- all parts, one behind the other

pub all_parts : (layout : Layout) (slots : Slots) (info : List ℕ) (chains : Chains) (front : List ℕ) (offset : ℕ) (none one two three four five six : List Part) → offset ≡ linkedit_offset layout.segments → none ≡ [] → one ≡ none ++ record { from = 0; bytes = front } ∷ [] → two ≡ one ++ own_part layout slots chains.words Stub → three ≡ two ++ info_part layout info → four ≡ three ++ own_part layout slots chains.words Got → five ≡ four ++ own_part layout slots chains.words Tlv → six ≡ five ++ record { from = offset; bytes = chains.blob } ∷ []
    → six ≡ image_parts layout slots info chains front
unfolding image_parts
all_parts layout slots info chains front offset none one two three four five six place empty a b c d e f =
    let first : List Part = record { from = 0; bytes = front } ∷ [] in
    let last : List Part = record { from = linkedit_offset layout.segments; bytes = chains.blob } ∷ [] in
    let stubs = own_part layout slots chains.words Stub in
    let unwound = info_part layout info in
    let got = own_part layout slots chains.words Got in
    let tlv = own_part layout slots chains.words Tlv in
    let start : one ≡ first = a ∙ ap (λ (ps : List Part). ps ++ first) empty in
    let ends : six ≡ five ++ last = f ∙ ap (λ (n : ℕ). five ++ record { from = n; bytes = chains.blob } ∷ []) place in
    let text : three ≡ (first ++ stubs) ++ unwound = c ∙ ap (λ (ps : List Part). ps ++ unwound) (b ∙ ap (λ (ps : List Part). ps ++ stubs) start) in
    ends ∙ ap (λ (ps : List Part). ps ++ last) (e ∙ ap (λ (ps : List Part). ps ++ tlv) (d ∙ ap (λ (ps : List Part). ps ++ got) text))
    ∙ append_assoc (((first ++ stubs) ++ unwound) ++ got) tlv last ∙ append_assoc ((first ++ stubs) ++ unwound) got (tlv ++ last)
    ∙ append_assoc (first ++ stubs) unwound (got ++ (tlv ++ last)) ∙ append_assoc first stubs (unwound ++ (got ++ (tlv ++ last)))

pub lie_apart : (layout : Layout) (slots : Slots) (info : List ℕ) (chains : Chains) (front : List ℕ) (size : ℕ) (parts : List Part) → size ≡ linkedit_offset layout.segments + length chains.blob → parts ≡ image_parts layout slots info chains front → LieApart (record { size = linkedit_offset layout.segments + length chains.blob; parts = image_parts layout slots info chains front }) → LieApart (record { size = size; parts = parts })
lie_apart layout slots info chains front size parts long are apart = rw (long, are) apart

pub blank_is : (layout : Layout) (slots : Slots) (info : List ℕ) (chains : Chains) (front : List ℕ) (size : ℕ) (parts : List Part) → size ≡ linkedit_offset layout.segments + length chains.blob → parts ≡ image_parts layout slots info chains front → joined (record { size = size; parts = parts }) ≡ blank_of layout slots info chains front
unfolding blank_of
blank_is layout slots info chains front size parts long are = rw (long, are) refl
