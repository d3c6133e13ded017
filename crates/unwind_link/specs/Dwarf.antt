-- Entries that leave unwinding to `__eh_frame` (`mach-o/compact_unwind_encoding.h`: UNWIND_ARM64_MODE_DWARF).
use Rattle.std.specs.Prelude.{◌≡◌, ◌≢◌, ◌==◌, Bool, bit_and, List, [], Option, MatchOption, Contains}
use Rattle.std.specs.List.{filter}
use Rattle.std.specs.Ordering.{nat_cmp, on, then_cmp}
use Rattle.std.specs.declared.cmp.Ordering.{Ordering}
use Rattle.std.specs.declared.cmp.Ordering.TheVariants.{Greater}
use Rattle.image_format.specs.declared.compact_unwind.TheConstants.{UNWIND_ARM64_MODE_DWARF, UNWIND_ARM64_MODE_MASK}
use Rattle.mo_types.specs.Keys.{compare_keys}
use Rattle.unwind_link.specs.declared.kept.KeptUnwind.{KeptUnwind}

-- an entry's encoding names a description in `__eh_frame`
abbrev pub is_dwarf : KeptUnwind → Bool
is_dwarf kept = bit_and kept.unwind.encoding UNWIND_ARM64_MODE_MASK == UNWIND_ARM64_MODE_DWARF

-- those among some
abbrev pub dwarfs : List KeptUnwind → List KeptUnwind
dwarfs kept = filter is_dwarf kept

-- by atom, and then by the place in the atom
unfoldable pub compare_kept : KeptUnwind → KeptUnwind → Ordering
compare_kept = then_cmp (on (λ (kept : KeptUnwind). kept.unwind.atom) compare_keys) (on (λ (kept : KeptUnwind). kept.unwind.offset) nat_cmp)

-- There is none, or this is one, and none is before it.
abbrev pub IsFirst : List KeptUnwind → Option KeptUnwind → Type 0
IsFirst all found =
    MatchOption found (all ≡ []) (λ first. Contains all first × ((other : KeptUnwind) → Contains all other → compare_kept first other ≢ Greater))
