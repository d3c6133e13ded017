-- What holds of the segments and sections of a plan.
use Rattle.std.proofs.Common.{◌≡◌, ℕ, ◌+◌, ◌*◌, ◌<◌, ◌≤◌, ◌^◌, Bool, true, false, codes, List, [], ◌∷◌, ◌++◌, length, refl, sym, ap, ◌∙◌, arith, subst, if◌then◌else◌, append_assoc}
use Rattle.std.specs.List.{AllByRecursion}
use Rattle.std.specs.Str.{bytes_eq}
use Rattle.command_line.specs.declared.command.Command.{Command}
use Rattle.mo_types.specs.declared.atom.Atom.{Atom}
use Rattle.mo_types.specs.declared.key.AtomKey.{AtomKey}
use Rattle.sect_place.specs.Arrangement.{parts_count}
use Rattle.sect_place.specs.Layout.{Plan, base_of, end_of_image, first_segments, image_sections, image_segments, image_size, linkedit, others_of, pagezero}
use Rattle.sect_place.specs.Places.{file_bytes, group_end, groups_end, groups_file, groups_sections, groups_segments, page_up, segment_of}
use Rattle.sect_place.specs.declared.layout.PlacedSection.{PlacedSection}
use Rattle.sect_place.specs.declared.layout.Segment.{Segment}
use Rattle.sect_place.specs.declared.part.Group.{Group}
use Rattle.sect_place.proofs.Spread.{group_bounds, groups_after}
use Rattle.image_make.proofs.RoomLemmas.{base_small, first_end}
use Rattle.image_laws.proofs.First.{IsFirst, IsFitSegment, own}
use Rattle.image_laws.proofs.Seek.{EndsEmpty, ends_empty, first_text, is_text}
use Rattle.image_laws.proofs.Turned.{InTurn, IsHeldBy, IsNamed, appended, earlier, held_by_more, sections_held, turned}

-- A plan of an image of a command: where its memory begins, its segments with sections, of which `__TEXT` is the first, and
-- fewer than 2^32 bytes.
pub record IsPlan (command : Command) (plan : Plan) : Type 0 where
  pub first : Group
  pub later : List Group
  pub groups : plan.groups ≡ first ∷ later
  pub named : first.name ≡ codes "__TEXT"
  pub segments : AllByRecursion IsNamed plan.groups
  pub base : plan.base ≡ base_of command
  pub small : image_size plan < 2 ^ 32
  pub room : 32 + 72 * (length plan.groups + others_of command) + 80 * parts_count plan.groups ≤ plan.lead

-- the segments with sections, and the last one
abbrev pub behind : Plan → List Segment
behind plan =
    groups_segments plan.atoms plan.base 0 plan.lead plan.groups
    ++ linkedit (end_of_image plan) (groups_file plan.atoms plan.base 0 plan.lead plan.groups) ∷ []

pub segments_split : (command : Command) (plan : Plan) → image_segments command plan ≡ first_segments command ++ behind plan
unfolding image_segments
segments_split command plan =
    append_assoc (first_segments command) (groups_segments plan.atoms plan.base 0 plan.lead plan.groups) (linkedit (end_of_image plan) (groups_file plan.atoms plan.base 0 plan.lead plan.groups) ∷ [])

-- ---- in turn

turn_by : (dylib : Bool) (base : ℕ) (segments : List Segment) → base ≡ (if dylib then 0 else 2 ^ 32) → InTurn base 0 segments → InTurn 0 0 ((if dylib then [] else pagezero ∷ []) ++ segments)
turn_by true base segments is turn = earlier base 0 0 0 segments (omega arith) (omega arith) turn
turn_by false base segments is turn = (omega arith, omega arith, omega arith, earlier base (0 + 0x100000000) 0 (0 + 0) segments (omega (arith, is)) (omega arith) turn)

pub in_turn : (command : Command) (plan : Plan) → IsPlan command plan → InTurn 0 0 (image_segments command plan)
in_turn command plan is =
    subst (λ (ss : List Segment). InTurn 0 0 ss) (sym (segments_split command plan))
    (turn_by command.dylib plan.base (behind plan) is.base
    (turned plan.atoms plan.base 0 plan.lead plan.groups (linkedit (end_of_image plan) (groups_file plan.atoms plan.base 0 plan.lead plan.groups)) refl refl (omega arith)))

pub last_empty : (command : Command) (plan : Plan) → EndsEmpty (image_segments command plan)
unfolding image_segments
last_empty command plan =
    ends_empty (first_segments command ++ groups_segments plan.atoms plan.base 0 plan.lead plan.groups) (linkedit (end_of_image plan) (groups_file plan.atoms plan.base 0 plan.lead plan.groups)) refl

-- ---- sections

held_by : (dylib : Bool) (segments : List Segment) (from begin : ℕ) (sections : List PlacedSection) → AllByRecursion (IsHeldBy segments from begin) sections → AllByRecursion (IsHeldBy ((if dylib then [] else pagezero ∷ []) ++ segments) from begin) sections
held_by true segments from begin sections all = all
held_by false segments from begin sections all = held_by_more pagezero segments from begin sections all

pub all_held : (command : Command) (plan : Plan) → AllByRecursion IsNamed plan.groups → AllByRecursion (IsHeldBy (image_segments command plan) (plan.base + plan.lead) plan.lead) (image_sections plan)
unfolding image_sections
all_held command plan named =
    let sections = groups_sections plan.atoms plan.base 0 plan.lead plan.groups in
    subst (λ (ss : List Segment). AllByRecursion (IsHeldBy ss (plan.base + plan.lead) plan.lead) sections) (sym (segments_split command plan))
    (held_by command.dylib (behind plan) (plan.base + plan.lead) plan.lead sections
    (sections_held plan.atoms plan.base 0 plan.lead (plan.base + plan.lead) plan.lead plan.groups (linkedit (end_of_image plan) (groups_file plan.atoms plan.base 0 plan.lead plan.groups)) named (omega arith) (omega arith)))

-- ---- numbers that fit

choice_small : (b : Bool) (m n : ℕ) → m < 2 ^ 32 → n < 2 ^ 32 → (if b then m else n) < 2 ^ 32
choice_small true m n p q = p
choice_small false m n p q = q

groups_fit : (atoms : List AtomKey → List Atom) (at file lead : ℕ) (groups : List Group) → file ≤ at → groups_end atoms at lead groups < 2 ^ 63 → 72 + 80 * parts_count groups < 2 ^ 32 → AllByRecursion IsFitSegment (groups_segments atoms at file lead groups)
unfolding groups_end groups_segments segment_of file_bytes parts_count
groups_fit atoms at file lead [] before low few = tt
groups_fit atoms at file lead (group ∷ groups) before low few =
    let bounds = group_bounds atoms at lead group.parts in
    let next = page_up (group_end atoms at lead group) in
    let after = groups_after atoms next 0 groups in (
      record {
        address = omega (arith, bounds.0, bounds.3);
        memory = omega (arith, bounds.0, bounds.3);
        place = omega (arith, bounds.0, bounds.3);
        bytes = omega (arith, bounds.0, bounds.3, bounds.5);
        protection = choice_small (bytes_eq group.name (codes "__TEXT")) 5 3 (omega arith) (omega arith);
        flags = choice_small (bytes_eq group.name (codes "__DATA_CONST")) 0x10 0 (omega arith) (omega arith);
        few = omega arith;
      },
      groups_fit atoms next (file + file_bytes atoms at lead group) 0 groups (omega (arith, bounds.0, bounds.1, bounds.3, bounds.5)) low (omega arith),
    )

file_before : (atoms : List AtomKey → List Atom) (at file lead : ℕ) (groups : List Group) → file ≤ at → groups_file atoms at file lead groups ≤ groups_end atoms at lead groups
unfolding groups_end groups_file file_bytes
file_before atoms at file lead [] before = before
file_before atoms at file lead (group ∷ groups) before =
    let bounds = group_bounds atoms at lead group.parts in
    file_before atoms (page_up (group_end atoms at lead group)) (file + file_bytes atoms at lead group) 0 groups (omega (arith, bounds.0, bounds.1, bounds.3, bounds.5))

fit_by : (dylib : Bool) (segments : List Segment) → AllByRecursion IsFitSegment segments → AllByRecursion IsFitSegment ((if dylib then [] else pagezero ∷ []) ++ segments)
fit_by true segments all = all
fit_by false segments all =
    (record { address = omega arith; memory = omega arith; place = omega arith; bytes = omega arith; protection = omega arith; flags = omega arith; few = omega arith }, all)

pub lead_room : (command : Command) (plan : Plan) → IsPlan command plan → (plan.base + plan.lead ≤ end_of_image plan) × (plan.lead ≤ groups_file plan.atoms plan.base 0 plan.lead plan.groups)
lead_room command plan is =
    let ends = first_end plan.atoms plan.base 0 plan.lead is.first is.later in
    subst (λ (gs : List Group). (plan.base + plan.lead ≤ groups_end plan.atoms plan.base plan.lead gs) × (plan.lead ≤ groups_file plan.atoms plan.base 0 plan.lead gs)) (sym is.groups) (ends.0, omega (arith, ends.1))

pub all_fit : (command : Command) (plan : Plan) → IsPlan command plan → AllByRecursion IsFitSegment (image_segments command plan)
all_fit command plan is =
    let low : plan.base ≤ 2 ^ 32 = subst (λ (n : ℕ). n ≤ 2 ^ 32) (sym is.base) (base_small command.dylib) in
    let rooms = lead_room command plan is in
    let room = is.room in
    let small = is.small in
    let some : 1 ≤ length plan.groups = subst (λ (gs : List Group). 1 ≤ length gs) (sym is.groups) (omega arith) in
    let file : groups_file plan.atoms plan.base 0 plan.lead plan.groups ≤ groups_end plan.atoms plan.base plan.lead plan.groups = file_before plan.atoms plan.base 0 plan.lead plan.groups (omega arith) in
    let last : IsFitSegment (linkedit (end_of_image plan) (groups_file plan.atoms plan.base 0 plan.lead plan.groups)) =
    record { address = omega (arith, rooms.0); memory = omega arith; place = omega (arith, rooms.0); bytes = omega arith; protection = omega arith; flags = omega arith; few = omega arith } in
    subst (λ (ss : List Segment). AllByRecursion IsFitSegment ss) (sym (segments_split command plan))
    (fit_by command.dylib (behind plan)
    (appended IsFitSegment (groups_segments plan.atoms plan.base 0 plan.lead plan.groups) (linkedit (end_of_image plan) (groups_file plan.atoms plan.base 0 plan.lead plan.groups) ∷ [])
    (groups_fit plan.atoms plan.base 0 plan.lead plan.groups (omega arith) (omega (arith, rooms.0)) (omega (arith, rooms.0)))
    (last, tt)))

-- ---- `__TEXT`

text_behind : (atoms : List AtomKey → List Atom) (at file lead : ℕ) (first : Group) (later : List Group) (last : Segment) → (next : Segment) × (segments : List Segment) × (groups_segments atoms at file lead (first ∷ later) ++ last ∷ [] ≡ segment_of atoms at file lead first ∷ next ∷ segments)
unfolding groups_segments
text_behind atoms at file lead first [] last = (last, [], refl)
text_behind atoms at file lead first (group ∷ groups) last =
    let next = page_up (group_end atoms at lead first) in
    let past = file + file_bytes atoms at lead first in
    (segment_of atoms next past 0 group, groups_segments atoms (page_up (group_end atoms next 0 group)) (past + file_bytes atoms next 0 group) 0 groups ++ last ∷ [], refl)

segment_named : (atoms : List AtomKey → List Atom) (at file lead : ℕ) (group : Group) → ((segment_of atoms at file lead group).name ≡ group.name) × ((segment_of atoms at file lead group).address ≡ at)
unfolding segment_of
segment_named atoms at file lead group = (refl, refl)

-- behind `__PAGEZERO`, if that is there, stands `__TEXT`
pub record IsLed (command : Command) (plan : Plan) : Type 0 where
  pub text : Segment
  pub next : Segment
  pub segments : List Segment
  pub whole : image_segments command plan ≡ first_segments command ++ text ∷ next ∷ segments
  pub named : text.name ≡ codes "__TEXT"
  pub begins : text.address ≡ plan.base

pub led_by_text : (command : Command) (plan : Plan) → IsPlan command plan → IsLed command plan
led_by_text command plan is =
    let last = linkedit (end_of_image plan) (groups_file plan.atoms plan.base 0 plan.lead plan.groups) in
    let named = segment_named plan.atoms plan.base 0 plan.lead is.first in
    let split = text_behind plan.atoms plan.base 0 plan.lead is.first is.later last in
    record {
      text = segment_of plan.atoms plan.base 0 plan.lead is.first;
      next = split.0;
      segments = split.1;
      whole =
          segments_split command plan
          ∙ ap (λ (ss : List Segment). first_segments command ++ ss) (ap (λ (gs : List Group). groups_segments plan.atoms plan.base 0 plan.lead gs ++ last ∷ []) is.groups ∙ split.2);
      named = named.0 ∙ is.named;
      begins = named.1;
    }

-- the first segment of that name begins where the image does
pub record HasText (segments : List Segment) (base : ℕ) : Type 0 where
  pub text : Segment
  pub first : IsFirst is_text segments (own text)
  pub begins : text.address ≡ base

pub has_text : (command : Command) (plan : Plan) → IsPlan command plan → HasText (image_segments command plan) plan.base
has_text command plan is =
    let led = led_by_text command plan is in
    record {
      text = led.text;
      first = subst (λ (ss : List Segment). IsFirst is_text ss (own led.text)) (sym led.whole) (first_text command.dylib led.text led.next led.segments led.named);
      begins = led.begins;
    }
