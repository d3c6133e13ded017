-- The addresses of goals modulo 2^64, which are those of near ones.
use Rattle.std.proofs.Common.{◌≡◌, ℕ, ◌+◌, ◌*◌, ◌==◌, ◌<◌, ◌≤◌, ◌^◌, ◌⊎◌, inl, inr, All, IfSome, List, [], ◌∷◌, ◌++◌, length, get_or, refl, sym, ap, ◌∙◌, subst, arith, length-append, mul-le-mul_left, Option, Some, None}
use Rattle.std.specs.Prelude.{slice_get, unwrap_or}
use Rattle.std.specs.Option.{option_and_then, option_map, option_map_or}
use Rattle.std.proofs.Math.Nat.{mod-eq_of_lt}
use Rattle.std.proofs.lemmas.Bool.{cases_Bool}
use Rattle.std.proofs.lemmas.Option.{get_or_from_slice_get, slice_get_within}
use Rattle.std.proofs.lemmas.List.Quantifiers.{position-Some}
use Rattle.std.specs.Ordering.{is_eq}
use Rattle.mo_types.specs.Goals.{compare_goals}
use Rattle.resolve.specs.Goals.{target_goal}
use Rattle.resolve.specs.Table.{goal_in}
use Rattle.resolve.proofs.PlaceLemmas.{goal_within}
use Rattle.mo_types.specs.declared.goal.Goal.{Goal}
use Rattle.mo_types.specs.declared.goal.Goal.TheVariants.{Def, WeakSelf, Header, Import, Flat, Nobody}
use Rattle.mo_types.specs.declared.key.AtomKey.{AtomKey}
use Rattle.mo_types.specs.declared.loaded.LoadedFile.{LoadedFile}
use Rattle.mo_types.specs.declared.reference.Ref.{Ref}
use Rattle.mo_types.specs.declared.reference.Target.{Target}
use Rattle.mo_types.specs.declared.reference.Target.TheVariants as target
use Rattle.literal_merge.specs.declared.representative.Representative.{Representative}
use Rattle.sect_place.specs.Addresses.{address_in}
use Rattle.sect_place.specs.declared.layout.Placed.{Placed}
use Rattle.slot_place.specs.Places.{HasRoom, HaveRoom, address_from, number_of, slot_address, starts_of, unit_at}
use Rattle.slot_place.specs.declared.places.SlotStarts.{SlotStarts}
use Rattle.slot_plan.specs.declared.need.Way.{Way}
use Rattle.slot_plan.specs.declared.need.Way.TheVariants.{Got, Stub, Tlv}
use Rattle.ref_meet.specs.Addresses.{AreLowPlaces, address_by, goal_address, place_address}
use Rattle.ref_meet.specs.Near.{HasNearEnds, HaveNearEnds, IsNear, IsNearTarget}
use Rattle.ref_meet.specs.Ready.{IsSound}
use Rattle.ref_meet.specs.Scene.{Scene, goal_of, goals_at}
use Rattle.ref_meet.proofs.OrderLemmas.{last_or}
use Rattle.ref_meet.specs.inner.Told.{ArePlaces, AreTold, known, place_by, told, told_by}
use Rattle.ref_meet.specs.declared.places.GoalPlaces.{GoalPlaces}

pub told_is : (n m : ℕ) → n < 2 ^ 64 → n ≡ m → Some n ≡ Some (told m)
told_is n m low is = ap Some (is ∙ sym (mod-eq_of_lt (subst (λ (k : ℕ). k < 2 ^ 64) is low)))

pub ruleset tells = (told_is)

-- ---- of a near one

exact_place : (placed : List Placed) (atom : AtomKey) (offset : ℕ) → AreLowPlaces placed → offset < 2 ^ 63 → option_map told (place_address placed atom offset) ≡ place_address placed atom offset
exact_place placed atom offset low near = by (address_in placed atom) refl
  where
    by : (o : Option ℕ) → address_in placed atom ≡ o → option_map told (option_map (λ at. at + offset) o) ≡ option_map (λ at. at + offset) o
    by None e = refl
    by (Some at) e = let stands = low atom at e in let few : at + offset < 2 ^ 64 = omega (arith, stands, near) in ap Some (mod-eq_of_lt few)

pub exact : (base : ℕ) (placed : List Placed) (goal : Goal) → base < 2 ^ 64 → AreLowPlaces placed → IsNear goal → option_map told (goal_address base placed goal) ≡ goal_address base placed goal
exact base placed (Def atom offset) small low near = exact_place placed atom offset low near
exact base placed (WeakSelf name atom offset) small low near = exact_place placed atom offset low near
exact base placed Header small low near = ap Some (mod-eq_of_lt small)
exact base placed (Import name ordinal by_weak optional) small low near = refl
exact base placed (Flat name) small low near = refl
exact base placed Nobody small low near = refl

-- ---- of a slot or stub

exact_from : (unit : ℕ) (start : Option ℕ) (goals : List Goal) (goal : Goal) → HasRoom unit start goals → option_map told (address_from unit start goals goal) ≡ address_from unit start goals goal
unfolding address_from
exact_from unit start goals goal room = by (number_of goals goal) refl start room
  where
    by : (n : Option ℕ) → number_of goals goal ≡ n → (s : Option ℕ) → HasRoom unit s goals → option_map told (option_and_then (λ number. option_map (λ at. unit_at unit at number) s) n) ≡ option_and_then (λ number. option_map (λ at. unit_at unit at number) s) n
    by None e s room = refl
    by (Some number) e None room = refl
    by (Some number) e (Some at) room =
        let within = (position-Some (λ (other : Goal). is_eq (compare_goals other goal)) goals number goal e).0 in
        let more : unit * number ≤ unit * length goals = mul-le-mul_left unit (omega (arith, within)) in
        let few : at + unit * number < 2 ^ 64 = omega (arith, room, more) in
        ap Some (mod-eq_of_lt few)

pub exact_slot : (scene : Scene) (way : Way) (goal : Goal) → HaveRoom (starts_of scene.layout.sections) scene.slots → option_map told (slot_address (starts_of scene.layout.sections) scene.slots way goal) ≡ slot_address (starts_of scene.layout.sections) scene.slots way goal
exact_slot scene Got goal room = exact_from 8 (starts_of scene.layout.sections).got scene.slots.got goal room.got
exact_slot scene Stub goal room = exact_from 12 (starts_of scene.layout.sections).stubs scene.slots.stubs goal room.stubs
exact_slot scene Tlv goal room = exact_from 8 (starts_of scene.layout.sections).tlv scene.slots.tlv goal room.tlv

-- a slot stands low
pub slot_low : (unit : ℕ) (start : Option ℕ) (goals : List Goal) (goal : Goal) (slot : ℕ) → HasRoom unit start goals → Some slot ≡ address_from unit start goals goal → slot < 2 ^ 63
unfolding address_from
slot_low unit start goals goal slot room is = by (number_of goals goal) refl start room is
  where
    by : (n : Option ℕ) → number_of goals goal ≡ n → (s : Option ℕ) → HasRoom unit s goals → Some slot ≡ option_and_then (λ number. option_map (λ at. unit_at unit at number) s) n → slot < 2 ^ 63
    by None e s room is = cc
    by (Some number) e None room is = cc
    by (Some number) e (Some at) room is =
        let within = (position-Some (λ (other : Goal). is_eq (compare_goals other goal)) goals number goal e).0 in
        let more : unit * number ≤ unit * length goals = mul-le-mul_left unit (omega (arith, within)) in
        let same : slot ≡ at + unit * number = cc in
        omega (arith, room, more, same)

-- ---- by all ways

pub exact_by : (scene : Scene) (way : Option Way) (goal : Goal) → scene.base < 2 ^ 64 → IsSound scene → IsNear goal → told_by scene way goal ≡ address_by scene way goal
unfolding told_by address_by
exact_by scene None goal small sound near = exact scene.base scene.layout.placed goal small sound.low near
exact_by scene (Some way) goal small sound near = exact_slot scene way goal sound.room

at_slice : {X : Type 0} (P : X → Type 0) (xs : List X) (k : ℕ) (x : X) → All P xs → slice_get xs k ≡ Some x → P x
at_slice P xs k x all is = subst P (get_or_from_slice_get xs k x x is) (all k x (slice_get_within xs k x is))

near_goal : (literals : List Representative) (goals : List Goal) (target : Target) → All IsNear goals → IsNearTarget target → IsNear (target_goal literals goals target)
near_goal literals goals (target.Name index) near there = by (slice_get goals index) refl
  where
    by : (o : Option Goal) → slice_get goals index ≡ o → IsNear (unwrap_or o Nobody)
    by None e = tt
    by (Some goal) e = at_slice IsNear goals index goal near e
near_goal literals goals (target.Local atom offset) near there = there

-- that of a target of a file
pub target_near : (scene : Scene) (file : ℕ) (some : List Goal) (target : Target) → some ≡ goals_at scene.goals file → All IsNear some → IsNearTarget target → IsNear (goal_of scene file target)
unfolding goal_of
target_near scene file some target is near there = near_goal scene.literals (goals_at scene.goals file) target (subst (λ (gs : List Goal). All IsNear gs) is near) there

-- ---- what is near of a file

pub file_near : (files : List LoadedFile) (at : ℕ) (file : LoadedFile) → HaveNearEnds files → slice_get files at ≡ Some file → All HasNearEnds file.refs
file_near files at file near is = at_slice (λ (f : LoadedFile). All HasNearEnds f.refs) files at file near is

pub ref_near : (refs : List Ref) (at : ℕ) (r : Ref) → All HasNearEnds refs → slice_get refs at ≡ Some r → HasNearEnds r
ref_near refs at r near is = at_slice HasNearEnds refs at r near is

pub goals_near : (goals : List (List Goal)) (at : ℕ) (some : List Goal) → All (All IsNear) goals → some ≡ goals_at goals at → All IsNear some
goals_near goals at some near is = subst (λ (gs : List Goal). All IsNear gs) (sym is) (by (slice_get goals at) refl)
  where
    by : (o : Option (List Goal)) → slice_get goals at ≡ o → All IsNear (option_map_or (λ some. some) o [])
    by None e = λ k d low. absurd (omega (arith, low))
    by (Some here) e = at_slice (All IsNear) goals at here near e

-- ---- what is known of a goal

if_known : (n : ℕ) (P : ℕ → Type 0) → P n → IfSome (known n) P
if_known n P so = elim (cases_Bool (n == 0)) [
  | inl none ↦ rw none tt
  | inr some ↦ rw some so
]

known_weaker : (n : ℕ) (P Q : ℕ → Type 0) → ((address : ℕ) → P address → Q address) → IfSome (known n) P → IfSome (known n) Q
known_weaker n P Q each = by (known n)
  where
    by : (o : Option ℕ) → IfSome o P → IfSome o Q
    by None so = tt
    by (Some address) so = each address so

-- the address of a goal's slot by its number
pub slot_known : (unit start number : ℕ) (goals : List Goal) (goal : Goal) → Some number ≡ number_of goals goal → IfSome (known (start + unit * number)) (λ address. address_from unit (Some start) goals goal ≡ Some address)
unfolding address_from
slot_known unit start number goals goal is =
    if_known (start + unit * number) (λ address. address_from unit (Some start) goals goal ≡ Some address)
    (ap (option_and_then (λ number. option_map (λ at. unit_at unit at number) (Some start))) (sym is))

-- none
pub none_known : (P : ℕ → Type 0) → IfSome (known 0) P
none_known P = tt

-- the goal's own
pub own_known : (scene : Scene) (goal : Goal) (found : Option ℕ) → found ≡ told_by scene None goal → IfSome (known (unwrap_or found 0)) (λ address. told_by scene None goal ≡ Some address)
own_known scene goal None is = tt
own_known scene goal (Some address) is = if_known address (λ address. told_by scene None goal ≡ Some address) (sym is)

slot_told : (scene : Scene) (way : Way) (goal : Goal) (n : ℕ) → IsSound scene → IfSome (known n) (λ address. slot_address (starts_of scene.layout.sections) scene.slots way goal ≡ Some address) → IfSome (known n) (λ address. told_by scene (Some way) goal ≡ Some address)
unfolding told_by address_by
slot_told scene way goal n sound = known_weaker n _ _ (λ address is. exact_slot scene way goal sound.room ∙ is)

pub places_so : (scene : Scene) (starts : SlotStarts) (goal : Goal) (places : GoalPlaces) → IsSound scene → starts ≡ starts_of scene.layout.sections
    → IfSome (known places.own) (λ address. told_by scene None goal ≡ Some address)
    → IfSome (known places.got) (λ address. address_from 8 starts.got scene.slots.got goal ≡ Some address)
    → IfSome (known places.stub) (λ address. address_from 12 starts.stubs scene.slots.stubs goal ≡ Some address)
    → IfSome (known places.tlv) (λ address. address_from 8 starts.tlv scene.slots.tlv goal ≡ Some address)
    → ArePlaces scene goal places
places_so scene starts goal places sound at own got stub tlv = record { by = by }
  where
    by : (way : Option Way) → IfSome (known (place_by places way)) (λ address. told_by scene way goal ≡ Some address)
    by None = own
    by (Some Got) = slot_told scene Got goal places.got sound (subst (λ (s : SlotStarts). IfSome (known places.got) (λ address. slot_address s scene.slots Got goal ≡ Some address)) at got)
    by (Some Stub) = slot_told scene Stub goal places.stub sound (subst (λ (s : SlotStarts). IfSome (known places.stub) (λ address. slot_address s scene.slots Stub goal ≡ Some address)) at stub)
    by (Some Tlv) = slot_told scene Tlv goal places.tlv sound (subst (λ (s : SlotStarts). IfSome (known places.tlv) (λ address. slot_address s scene.slots Tlv goal ≡ Some address)) at tlv)

pub ruleset known_so = (slot_known, none_known, own_known, places_so)

-- ---- of all goals

pub record AreToldTo (scene : Scene) (goals : List Goal) (at : ℕ) (places : List GoalPlaces) : Type 0 where
  pub count : length places ≡ at
  pub told : AreTold scene goals places

pub told_start : (scene : Scene) (goals : List Goal) (places : List GoalPlaces) → places ≡ [] → AreToldTo scene goals 0 places
told_start scene goals places none = record {
  count = ap length none;
  told = record { each = λ at here is. absurd (let no : slice_get [] at ≡ Some here = subst (λ (ps : List GoalPlaces). slice_get ps at ≡ Some here) none is in cc) };
}

pub told_more : (scene : Scene) (goals : List Goal) (at : ℕ) (places new : List GoalPlaces) (goal : Goal) (place : GoalPlaces) → AreToldTo scene goals at places → at < length goals → goal ≡ get_or goals at goal → ArePlaces scene goal place → new ≡ places ++ place ∷ [] → AreToldTo scene goals (at + 1) new
told_more scene goals at places new goal place are low is one grown = record {
  count = ap length grown ∙ one_more;
  told = record { each = λ k here there. by k here (last_or places place here k (subst (λ (ps : List GoalPlaces). slice_get ps k ≡ Some here) grown there)) };
}
  where
    one_more : length (places ++ place ∷ []) ≡ at + 1
    one_more = length-append places (place ∷ []) ∙ ap (λ (n : ℕ). n + 1) are.count

    goal_at : goal_in goals at ≡ goal
    goal_at = goal_within goals at goal low ∙ sym is

    by : (k : ℕ) (here : GoalPlaces) → ((k ≡ length places) × (here ≡ place)) ⊎ (slice_get places k ≡ Some here) → ArePlaces scene (goal_in goals k) here
    by k here (inr there) = are.told.each k here there
    by k here (inl last) =
        subst (λ (p : GoalPlaces). ArePlaces scene (goal_in goals k) p) (sym last.1)
        (subst (λ (g : Goal). ArePlaces scene g place) (sym (ap (goal_in goals) (last.0 ∙ are.count) ∙ goal_at)) one)

pub told_end : (scene : Scene) (goals : List Goal) (at : ℕ) (places : List GoalPlaces) → AreToldTo scene goals at places → AreTold scene goals places
told_end scene goals at places are = are.told

pub ruleset told_all = (told_start, told_more, told_end)

-- ---- of a symbol

pub known_there : (scene : Scene) (way : Option Way) (pool : List Goal) (at : ℕ) (places : List GoalPlaces) (here : GoalPlaces) → AreTold scene pool places → slice_get places at ≡ Some here → IfSome (known (place_by here way)) (λ address. told_by scene way (goal_in pool at) ≡ Some address)
known_there scene way pool at places here told there = (told.each at here there).by way
