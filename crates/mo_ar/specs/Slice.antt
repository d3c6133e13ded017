-- The slice for arm64 in a universal file (`mach-o/fat.h`: fat_header, fat_arch; `mach/machine.h`).
use Rattle.std.specs.Prelude.{ℕ, zero, suc, ◌+◌, ◌*◌, ◌≡◌, ◌≤◌, ◌<◌, ◌==◌, ◌&&◌, ◌/◌, ◌-◌, Bool, true, false, nat_lt, List, length, drop, Option, Some, None, Result, Ok, Err, if◌then◌else◌}
use Rattle.byteorder.specs.Endian.{big_number}
use Rattle.mo_format.specs.declared.loader.TheConstants.{CPU_SUBTYPE_ARM64_ALL, CPU_TYPE_ARM64}
use Rattle.mo_types.specs.declared.cause.Rule.TheVariants.{Slice, NoSlice}
use Rattle.mo_ar.specs.declared.slice.SliceFault.{SliceFault}
use Rattle.mo_ar.specs.declared.slice.SliceFault.TheVariants.{Malformed}

-- the 32-bit number at a place, its highest byte first
unfoldable pub big : List ℕ → ℕ → ℕ
big bytes at = big_number 4 (drop at bytes)

-- nfat_arch, the number of entries
abbrev pub count : List ℕ → ℕ
count bytes = big bytes 4

-- the place of an entry, by its index: each has 20 bytes, and the first stands after the 8 of the header
abbrev pub entry : ℕ → ℕ
entry i = 8 + 20 * i

-- an entry whose cputype and cpusubtype are those of arm64
abbrev pub is_arm64 : List ℕ → ℕ → Bool
is_arm64 bytes at = big bytes at == CPU_TYPE_ARM64 && big bytes (at + 4) == CPU_SUBTYPE_ARM64_ALL

-- an entry's offset and size, where the slice stands in the file
abbrev pub offset : List ℕ → ℕ → ℕ
offset bytes at = big bytes (at + 8)

abbrev pub size : List ℕ → ℕ → ℕ
size bytes at = big bytes (at + 12)

-- the first entry for arm64 of n entries, the first of which stands at a place
abbrev pub first_arm64 : List ℕ → ℕ → ℕ → Option ℕ
first_arm64 bytes at zero = None
first_arm64 bytes at (suc n) = if is_arm64 bytes at then Some at else first_arm64 bytes (at + 20) n

abbrev pub slice_at : List ℕ → Option ℕ → Result (ℕ × ℕ) SliceFault
slice_at bytes None = Err (Malformed 0 NoSlice)
slice_at bytes (Some at) =
    if nat_lt (length bytes) (offset bytes at + size bytes at) then Err (Malformed at Slice)
    else Ok (offset bytes at, size bytes at)

-- Where the slice begins and its size, or the first of these that stands: the file ends in its header, it
-- ends in an entry, no entry is for arm64, the slice isn't within the file.
unfoldable pub slice_of : List ℕ → Result (ℕ × ℕ) SliceFault
slice_of bytes =
    if nat_lt (length bytes) 8 then Err (Malformed 0 Slice)
    else if nat_lt (length bytes) (entry (count bytes)) then Err (Malformed (entry ((length bytes - 8) / 20)) Slice)
    else slice_at bytes (first_arm64 bytes (entry 0) (count bytes))

-- the first entry for arm64 is the one of this index
pub record IsFirstArm64 (bytes : List ℕ) (i : ℕ) : Type 0 where
  pub among : i < count bytes
  pub is : is_arm64 bytes (entry i) ≡ true
  pub first : (k : ℕ) → k < i → is_arm64 bytes (entry k) ≡ false

-- The slice that the entry of this index tells stands within the file, as all entries do.
pub record IsSliceOf (bytes : List ℕ) (i from size_of : ℕ) : Type 0 where
  pub entries : entry (count bytes) ≤ length bytes
  pub arm64 : IsFirstArm64 bytes i
  pub begins : from ≡ offset bytes (entry i)
  pub sized : size_of ≡ size bytes (entry i)
  pub within : from + size_of ≤ length bytes

-- the slice for arm64 is these bytes of the file
abbrev pub IsSlice : List ℕ → ℕ → ℕ → Type 0
IsSlice bytes from size_of = (i : ℕ) × IsSliceOf bytes i from size_of
