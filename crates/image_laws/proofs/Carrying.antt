-- An image carries the chains of its pointers, which the loader fills in.
use Rattle.std.proofs.Common.{◌≡◌, ◌≢◌, ℕ, ◌+◌, inl, inr, Bool, true, false, codes, List, [], ◌∷◌, ◌++◌, Option, Some, None, Contains, refl, sym, ap, ◌∙◌, arith, if◌then◌else◌}
use Rattle.std.specs.Prelude.{All, IsSome}
use Rattle.std.specs.List.{find}
use Rattle.std.specs.Option.{option_map, option_map_or}
use Rattle.std.specs.Str.{bytes_eq}
use Rattle.mo_types.specs.Loaded.{IsWholeFile}
use Rattle.mo_types.specs.declared.goal.Goal.{Goal}
use Rattle.mo_types.specs.declared.goal.Goal.TheVariants.{Def, WeakSelf, Header, Import, Flat, Nobody}
use Rattle.chain_laws.specs.Carried.{ArePointers, IsCarried}
use Rattle.chain_laws.proofs.FoundLemmas.{each_pointer, no_others}
use Rattle.field_laws.specs.Pointers.{IsSomewhere, addresses_of}
use Rattle.field_laws.proofs.Found.{found_held}
use Rattle.fixup_chain.specs.Faults as offsets
use Rattle.fixup_chain.specs.declared.chains.Fixup.{Fixup}
use Rattle.sect_place.specs.Addresses.{address_in}
use Rattle.sect_place.specs.Layout.{base_of, pagezero}
use Rattle.sect_place.specs.declared.layout.Layout.{Layout}
use Rattle.sect_place.specs.declared.layout.Segment.{Segment}
use Rattle.image_make.specs.Made.{IsLaid, ImageInputs, plan_for, scene_of}
use Rattle.image_make.specs.Parts.{linkedit_offset}
use Rattle.image_make.proofs.RoomLemmas.{front_room, whole_layout}
use Rattle.image_read.specs.Fixups.{fixup_at, long_at}
use Rattle.image_read.specs.Held.{Held}
use Rattle.image_read.specs.Meaning as loaded
use Rattle.image_read.specs.declared.fixups.FixupRead.TheVariants.{Plain}
use Rattle.ref_meet.specs.Addresses.{address_by}
use Rattle.ref_meet.specs.Scene.{Scene}
use Rattle.image_laws.specs.Means.{AreRising, Imaged}
use Rattle.image_laws.specs.References.{AreFillable, IsHoldable}
use Rattle.image_laws.proofs.Begun.{commands_list, image_long, is_fronted}
use Rattle.image_laws.proofs.ChainWords.{IsWordOf, word_behind}
use Rattle.image_laws.proofs.Commanding.{chains_named, segments_there}
use Rattle.image_laws.proofs.Fronted.{are_there}
use Rattle.image_laws.proofs.Goals.{base_is}
use Rattle.image_laws.proofs.Layouts.{is_plan}
use Rattle.image_laws.proofs.OwnBytes.{chains_there}
use Rattle.image_laws.proofs.Planned.{led_by_text}
use Rattle.image_laws.proofs.Pointing.{pointers_there}

pub carried : (m : ImageInputs) (image : List ℕ) (of : Imaged m image) → All IsWholeFile m.files → AreRising m → IsCarried image of.layout of.chains
carried m image of whole rising =
    let long = image_long m image of in
    let room = front_room m of.layout of.is_image.laid in
    let beside = room.beside in
    let few = of.is_image.few in
    let base = (is_plan m of.layout of.is_image.laid).base in
    let named = chains_named m image of rising in
    record {
      small = omega arith;
      fitting = are_there image (commands_list of) (is_fronted m image of rising);
      segments = segments_there m image of rising;
      command = named.command;
      named = named.named;
      at = linkedit_offset of.layout.segments;
      place = named.place;
      blob = chains_there m image of rising;
      words = λ w h.
          let one : IsWordOf of.chains of.fixups w = word_behind of.layout of.fixups of.chains w of.is_image.chained.chains_are of.is_image.chained.pointers.apart h in
          ap (long_at image) (sym one.at) ∙ (pointers_there m image of one.fixup whole rising one.among).holds w.word one.found one.small;
    }

pub are_pointers : (m : ImageInputs) (image : List ℕ) (of : Imaged m image) → All IsWholeFile m.files → AreRising m → AreFillable (scene_of m of.layout) of.fixups → ArePointers of.layout of.fixups
are_pointers m image of whole rising fillable = record {
  apart = of.is_image.chained.pointers.apart;
  inside = λ fixup h. let there = pointers_there m image of fixup whole rising h in (there.segment, there.among, there.inside);
  names = λ fixup h. (fillable fixup h).name;
  ordinals = λ fixup h. (fillable fixup h).ordinal;
  addends = λ fixup h. (fillable fixup h).addend;
}

-- ---- where offsets count from

named_text : (segment : Segment) → segment.name ≡ codes "__TEXT" → offsets.is_text segment ≡ true
named_text segment named = ap (λ (name : List ℕ). bytes_eq name (codes "__TEXT")) named

first_address : (dylib : Bool) (text : Segment) (segments : List Segment) → text.name ≡ codes "__TEXT" → option_map_or (λ (s : Segment). s.address) (find offsets.is_text ((if dylib then [] else pagezero ∷ []) ++ text ∷ segments)) 0 ≡ text.address
first_address true text segments named = rw (named_text text named) refl
first_address false text segments named = rw (named_text text named) refl

counted_from : (m : ImageInputs) (layout : Layout) → IsLaid m layout → offsets.base_of layout.segments ≡ base_of m.command
unfolding offsets.base_of
counted_from m layout laid =
    let plan = is_plan m layout laid in
    let led = led_by_text m.command (plan_for m) plan in
    ap (λ (ss : List Segment). option_map_or (λ (s : Segment). s.address) (find offsets.is_text ss) 0) (laid.layout_of.segments ∙ led.whole)
    ∙ first_address m.command.dylib led.text (led.next ∷ led.segments) led.named
    ∙ led.begins ∙ plan.base

pub text_begins : (m : ImageInputs) (image : List ℕ) (of : Imaged m image) → AreRising m → loaded.base_of image ≡ Some (offsets.base_of of.layout.segments)
text_begins m image of rising = base_is m image of rising ∙ ap (λ (n : ℕ). Some n) (sym (counted_from m of.layout of.is_image.laid))

-- ---- what pointers lead to

placed_some : (found : Option ℕ) (offset : ℕ) → IsSome (option_map (λ (at : ℕ). at + offset) found) → IsSome found
placed_some None offset some = some
placed_some (Some n) offset some = refl

somewhere : (scene : Scene) (goal : Goal) → IsHoldable scene goal → IsSomewhere scene.layout.placed goal
unfolding address_by
somewhere scene (Def key offset) (inl bound) = absurd cc
somewhere scene (Def key offset) (inr has) = placed_some (address_in scene.layout.placed key) offset has
somewhere scene (WeakSelf name key offset) holdable = tt
somewhere scene Header holdable = tt
somewhere scene (Import name ordinal by_weak optional) holdable = tt
somewhere scene (Flat name) holdable = tt
somewhere scene Nobody (inl bound) = absurd cc
somewhere scene Nobody (inr has) = absurd cc

pub pointers_held : (m : ImageInputs) (image : List ℕ) (of : Imaged m image) (fixup : Fixup) → All IsWholeFile m.files → AreRising m → AreFillable (scene_of m of.layout) of.fixups → Contains of.fixups fixup → Held image (addresses_of of.layout.placed) (fixup_at image fixup.address) fixup.goal fixup.addend
pointers_held m image of fixup whole rising fillable there =
    found_held image of.layout fixup (text_begins m image of rising) (somewhere (scene_of m of.layout) fixup.goal (fillable fixup there).goal)
    (each_pointer image of.layout of.fixups of.chains fixup (whole_layout m of.layout of.is_image.laid) (are_pointers m image of whole rising fillable) of.is_image.chained.chains_are (carried m image of whole rising) there)

pub others_plain : (m : ImageInputs) (image : List ℕ) (of : Imaged m image) (address : ℕ) → All IsWholeFile m.files → AreRising m → AreFillable (scene_of m of.layout) of.fixups → ((fixup : Fixup) → Contains of.fixups fixup → fixup.address ≢ address) → fixup_at image address ≡ Plain
others_plain m image of address whole rising fillable none =
    no_others image of.layout of.fixups of.chains address (whole_layout m of.layout of.is_image.laid) (are_pointers m image of whole rising fillable) of.is_image.chained.chains_are (carried m image of whole rising) none
