-- What stands in an image beside its atoms: the header with the load commands, stubs, `__unwind_info`, slots, and the chains
-- of pointers (`loader.h`, `compact_unwind_encoding.h`, `fixup-chains.h`).
use Rattle.std.specs.Prelude.{ℕ, ◌≡◌, ◌≢◌, ◌+◌, ◌-◌, true, false, List, [], ◌∷◌, ◌++◌, length, slice_get, unwrap_or, MatchOption, Option}
use Rattle.std.specs.List.{enumerate_from, find, flat_map}
use Rattle.std.specs.Option.{option_map_or}
use Rattle.fixup_chain.specs.declared.chains.ChainWord.{ChainWord}
use Rattle.fixup_chain.specs.declared.chains.Chains.{Chains}
use Rattle.image_join.specs.Joined.{joined}
use Rattle.image_join.specs.declared.parts.Part.{Part}
use Rattle.load_cmds.specs.declared.parts.PartKinds.{PartKinds}
use Rattle.load_cmds.specs.declared.parts.PartPlace.{PartPlace}
use Rattle.load_cmds.specs.declared.parts.PartSizes.{PartSizes}
use Rattle.mo_bytes.specs.Number.{number_bytes}
use Rattle.mo_types.specs.declared.goal.Goal.{Goal}
use Rattle.ref_meet.specs.Mets.{word_at}
use Rattle.sect_place.specs.Arrangement.{section_of}
use Rattle.sect_place.specs.declared.layout.Layout.{Layout}
use Rattle.sect_place.specs.declared.layout.PlacedSection.{PlacedSection}
use Rattle.sect_place.specs.declared.layout.Segment.{Segment}
use Rattle.sect_place.specs.declared.part.Made.TheVariants.{UnwindInfo}
use Rattle.slot_place.specs.Places.{goals_for, is_made_as, own_section, start_in, starts_of, unit_at}
use Rattle.slot_place.specs.Stubs.{stubs_bytes}
use Rattle.slot_plan.specs.declared.list.Slots.{Slots}
use Rattle.slot_plan.specs.declared.need.Way.{Way}
use Rattle.slot_plan.specs.declared.need.Way.TheVariants.{Got, Stub, Tlv}

-- of the parts of `__LINKEDIT` the chains are there; exports, symbols, the UUID and the signature come with a later version
abbrev pub parts_there : PartKinds
parts_there = record { fixups = true; trie = false; symbols = false; uuid = false; signature = false }

-- ---- the end of the image

-- where the last segment begins in the file, which is `__LINKEDIT`
unfoldable pub linkedit_offset : List Segment → ℕ
linkedit_offset segments = option_map_or (λ segment. segment.file_offset) (slice_get segments (length segments - 1)) 0

-- where it begins in memory
unfoldable pub linkedit_address : List Segment → ℕ
linkedit_address segments = option_map_or (λ segment. segment.address) (slice_get segments (length segments - 1)) 0

-- the bytes of an image that begins at `base`, up to the end of its chains, which are the last there is
abbrev pub whole_size : ℕ → Layout → Chains → ℕ
whole_size base layout chains = linkedit_address layout.segments - base + length chains.blob

-- ---- what load commands tell

abbrev pub no_place : PartPlace
no_place = record { offset = 0; size = 0 }

-- The chains' place, the flags and the entry's offset. A library has no load command for the offset; a program whose image
-- hasn't its entry would tell 0.
abbrev pub parts_of : ℕ → Option ℕ → Layout → Chains → PartSizes
parts_of flags entryoff layout chains = record {
  there = parts_there;
  fixups = record { offset = linkedit_offset layout.segments; size = length chains.blob };
  trie = no_place;
  symbols = no_place;
  indirect = no_place;
  strings = no_place;
  signature = no_place;
  locals = 0;
  exported = 0;
  undefined = 0;
  entryoff = unwrap_or entryoff 0;
  flags = flags;
}

-- ---- bytes

-- the word of a slot, where slots begin at an address
abbrev pub slot_word : List ChainWord → ℕ → ℕ × Goal → List ℕ
slot_word words start p = number_bytes 8 (unwrap_or (word_at words (unit_at 8 start p.0)) 0)

-- those of a section of slots, if the image has it
unfoldable pub slot_words : List ChainWord → Option ℕ → List Goal → List ℕ
slot_words words start goals = option_map_or (λ at. flat_map (slot_word words at) (enumerate_from 0 goals)) start []

-- what the linker's own section for a way holds
abbrev pub own_bytes : Layout → Slots → List ChainWord → Way → List ℕ
own_bytes layout slots words Got = slot_words words (start_in layout.sections Got) (goals_for slots Got)
own_bytes layout slots words Stub = stubs_bytes (starts_of layout.sections) slots
own_bytes layout slots words Tlv = slot_words words (start_in layout.sections Tlv) (goals_for slots Tlv)

-- that section as a part of the image, if the image has it
unfoldable pub own_part : Layout → Slots → List ChainWord → Way → List Part
own_part layout slots words way =
    option_map_or (λ (placed : PlacedSection). record { from = placed.file_offset; bytes = own_bytes layout slots words way } ∷ [])
    (own_section layout.sections way) []

-- `__unwind_info`, where the image has it
unfoldable pub info_section : List PlacedSection → Option PlacedSection
info_section sections = find (λ (placed : PlacedSection). is_made_as (section_of UnwindInfo) placed.section) sections

-- The image has that section where there are bytes for it, with as many, and else has none.
abbrev pub HasInfoSection : List PlacedSection → List ℕ → Type 0
HasInfoSection sections info = MatchOption (info_section sections) (info ≡ []) (λ placed. (info ≢ []) × (placed.size ≡ length info))

-- that section as a part of the image, with its bytes
unfoldable pub info_part : Layout → List ℕ → List Part
info_part layout info =
    option_map_or (λ (placed : PlacedSection). record { from = placed.file_offset; bytes = info } ∷ []) (info_section layout.sections) []

-- all parts, in the order of the image
unfoldable pub image_parts : Layout → Slots → List ℕ → Chains → List ℕ → List Part
image_parts layout slots info chains front =
    record { from = 0; bytes = front }
    ∷ (own_part layout slots chains.words Stub ++ (info_part layout info ++ (own_part layout slots chains.words Got
    ++ (own_part layout slots chains.words Tlv ++ record { from = linkedit_offset layout.segments; bytes = chains.blob } ∷ []))))

-- the image before its atoms are written: these parts, and zeros
unfoldable pub blank_of : Layout → Slots → List ℕ → Chains → List ℕ → List ℕ
blank_of layout slots info chains front =
    joined (record { size = linkedit_offset layout.segments + length chains.blob; parts = image_parts layout slots info chains front })
