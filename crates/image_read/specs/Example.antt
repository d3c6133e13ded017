-- A small image, written out by hand in words of 4 bytes, for the laws that show what each kind of field tells.
use Rattle.std.specs.Prelude.{ℕ, false, List, [], ◌∷◌, ◌++◌, codes}
use Rattle.mo_bytes.specs.Number.{number_bytes}
use Rattle.mo_types.specs.declared.goal.Goal.{Goal}
use Rattle.mo_types.specs.declared.goal.Goal.TheVariants.{Import}

-- the bytes of words of 32 bits
abbrev pub bytes_of_words : List ℕ → List ℕ
bytes_of_words [] = []
bytes_of_words (word ∷ words) = number_bytes 4 word ++ bytes_of_words words

abbrev pub example_words : List ℕ
example_words =
    -- mach_header_64: 2 commands of 88 bytes
    0xfeedfacf ∷ 0x100000c ∷ 0 ∷ 2 ∷ 2 ∷ 0x58 ∷ 0 ∷ 0
    -- LC_SEGMENT_64, __TEXT: 0x4000 bytes at 0x4000, of which the file has all of its own
    ∷ 0x19 ∷ 0x48 ∷ 0x45545f5f ∷ 0x5458 ∷ 0 ∷ 0
    ∷ 0x4000 ∷ 0 ∷ 0x4000 ∷ 0 ∷ 0 ∷ 0 ∷ 0x144 ∷ 0 ∷ 5 ∷ 5 ∷ 0 ∷ 0
    -- LC_DYLD_CHAINED_FIXUPS: what begins at 0xf0
    ∷ 0x80000034 ∷ 0x10 ∷ 0xf0 ∷ 0x54
    -- 0x4078: bl 0x4084
    ∷ 0x94000003
    -- 0x407c: bl 0x40a0, a stub
    ∷ 0x94000009
    -- 0x4080: bl 0x4094, an island
    ∷ 0x94000005
    -- 0x4084: adrp x0, 0x4000; add x0, x0, 0xb8
    ∷ 0x90000000 ∷ 0x9102e000
    -- 0x408c: adrp x8, 0x4000; ldr x8, [x8, 0xb0]
    ∷ 0x90000008 ∷ 0xf9405908
    -- 0x4094: adrp x16, 0x4000; add x16, x16, 0x84; br x16
    ∷ 0x90000010 ∷ 0x91021210 ∷ 0xd61f0200
    -- 0x40a0: adrp x16, 0x4000; ldr x16, [x16, 0xb0]; br x16
    ∷ 0x90000010 ∷ 0xf9405a10 ∷ 0xd61f0200
    -- 0x40ac: 0x4080 - 0x4084, of 32 bits
    ∷ 0xfffffffc
    -- 0x40b0: a bind of import 0
    ∷ 0 ∷ 0x80100000
    -- 0x40b8: a rebase to 0x4084
    ∷ 0x84 ∷ 0x100000
    -- 0x40c0: a rebase to 0x40b0
    ∷ 0xb0 ∷ 0x100000
    -- 0x40c8: a bind of import 1, plus 5
    ∷ 0x5000001 ∷ 0x80100000
    -- 0x40d0: a bind of import 2
    ∷ 2 ∷ 0x80000000
    -- 0x40d8: 0x4084 - 0x40b8, of 64 bits
    ∷ 0xffffffcc ∷ 0xffffffff
    -- 0x40e0: an offset in the template
    ∷ 0x18 ∷ 0
    -- 0x40e8: 0x40b0 - 0x40e8, and 4 bytes of no use
    ∷ 0xffffffc8 ∷ 0
    -- dyld_chained_fixups_header at 0xf0: starts at 28, imports at 60, names at 72, 3 imports of format 1
    ∷ 0 ∷ 0x1c ∷ 0x3c ∷ 0x48 ∷ 3 ∷ 1 ∷ 0
    -- dyld_chained_starts_in_image: 1 segment, whose starts are at 8
    ∷ 1 ∷ 8
    -- dyld_chained_starts_in_segment: 24 bytes, pages of 0x4000 bytes, pointers of format 6, 1 page, whose chain begins at 0xb0
    ∷ 0x18 ∷ 0x64000 ∷ 0 ∷ 0 ∷ 0 ∷ 0xb00001
    -- imports: ordinals 1, -2 and -3, names at 1, 4 and 7
    ∷ 0x201 ∷ 0x8fe ∷ 0xefd
    -- the names: none, `_f`, `_g` and `_h`
    ∷ 0x665f00 ∷ 0x5f00675f ∷ 0x68
    ∷ []

unfoldable pub example : List ℕ
example = bytes_of_words example_words

-- the goal of the slot at 0x40b0
abbrev pub imported : Goal
imported = Import (codes "_f") 1 false false
