-- Which of an image's segments holds an address, and which is `__TEXT`.
use Rattle.std.proofs.Common.{◌≡◌, ℕ, ◌+◌, ◌<◌, ◌≤◌, inl, inr, nat_eq, Bool, true, false, codes, List, [], ◌∷◌, ◌++◌, refl, sym, ap, ◌∙◌, arith, subst, if◌then◌else◌}
use Rattle.std.specs.List.{starts_with}
use Rattle.std.proofs.lemmas.Bool.{le-leb, le-ltb, lt-ltb}
use Rattle.list_lemmas.proofs.Members.{In}
use Rattle.mo_format.specs.declared.segment.SegmentCommand.{SegmentCommand}
use Rattle.sect_place.specs.Layout.{pagezero}
use Rattle.sect_place.specs.declared.layout.Segment.{Segment}
use Rattle.load_cmds.specs.Names.{name_field}
use Rattle.image_read.specs.Mapped.{holds}
use Rattle.image_read.specs.Meaning.{SEG_TEXT}
use Rattle.image_laws.proofs.First.{IsFirst, own}
use Rattle.image_laws.proofs.Turned.{InTurn, not_before}

-- the last segment has no memory yet
abbrev pub EndsEmpty : List Segment → Type 0
EndsEmpty [] = Unit {0}
EndsEmpty (segment ∷ []) = segment.vmsize ≡ 0
EndsEmpty (segment ∷ next ∷ segments) = EndsEmpty (next ∷ segments)

pub ends_empty : (segments : List Segment) (last : Segment) → last.vmsize ≡ 0 → EndsEmpty (segments ++ last ∷ [])
ends_empty [] last none = none
ends_empty (segment ∷ []) last none = none
ends_empty (segment ∷ next ∷ segments) last none = ends_empty (next ∷ segments) last none

holds_it : (address : ℕ) (segment : Segment) → segment.address ≤ address → address < segment.address + segment.vmsize → holds address (own segment) ≡ true
holds_it address segment low high = rw (le-leb segment.address address low, lt-ltb address (segment.address + segment.vmsize) high) refl

past_it : (address : ℕ) (segment : Segment) → segment.address + segment.vmsize ≤ address → holds address (own segment) ≡ false
past_it address segment past = rw (le-leb segment.address address (omega arith), le-ltb address (segment.address + segment.vmsize) past) refl

pub first_holder : (at file address : ℕ) (segments : List Segment) (segment : Segment) → InTurn at file segments → EndsEmpty segments → In segment segments → segment.address ≤ address → address < segment.address + segment.vmsize → IsFirst (holds address) segments (own segment)
first_holder at file address [] segment turn empty h low high = absurd h
first_holder at file address (first ∷ []) segment turn empty (inl e) low high =
    let none : segment.vmsize ≡ 0 = subst (λ (s : Segment). s.vmsize ≡ 0) e empty in
    absurd (omega arith)
first_holder at file address (first ∷ []) segment turn empty (inr h) low high = absurd h
first_holder at file address (first ∷ next ∷ segments) segment turn empty (inl e) low high =
    inl (holds_it address first (subst (λ (s : Segment). s.address ≤ address) (sym e) low) (subst (λ (s : Segment). address < s.address + s.vmsize) (sym e) high), ap own e)
first_holder at file address (first ∷ next ∷ segments) segment turn empty (inr h) low high =
    let later = not_before (first.address + first.vmsize) (first.file_offset + first.file_size) (next ∷ segments) segment turn.3 h in
    inr (past_it address first (omega (arith, later.0)), first_holder (first.address + first.vmsize) (first.file_offset + first.file_size) address (next ∷ segments) segment turn.3 empty h low high)

-- ---- the one of the name `__TEXT`

abbrev pub is_text : SegmentCommand → Bool
is_text command = starts_with nat_eq command.segname SEG_TEXT

text_field : starts_with nat_eq (name_field (codes "__TEXT")) SEG_TEXT ≡ true
unfolding name_field
text_field = refl

zero_field : starts_with nat_eq (name_field (codes "__PAGEZERO")) SEG_TEXT ≡ false
unfolding name_field
zero_field = refl

text_is : (segment : Segment) → segment.name ≡ codes "__TEXT" → is_text (own segment) ≡ true
text_is segment named = ap (λ (name : List ℕ). starts_with nat_eq (name_field name) SEG_TEXT) named ∙ text_field

pub first_text : (dylib : Bool) (text next : Segment) (segments : List Segment) → text.name ≡ codes "__TEXT" → IsFirst is_text ((if dylib then [] else pagezero ∷ []) ++ text ∷ next ∷ segments) (own text)
first_text true text next segments named = inl (text_is text named, refl)
first_text false text next segments named = inr (zero_field, inl (text_is text named, refl))
