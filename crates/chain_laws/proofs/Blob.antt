-- The parts of the chains' part stand where its header says.
use Rattle.std.proofs.Common.{◌≡◌, ℕ, ◌+◌, ◌%◌, ◌^◌, ◌<◌, ◌≤◌, ◌==◌, ◌||◌, Bool, true, false, List, [], ◌∷◌, ◌++◌, length, nat_le, Some, None, Ok, if◌then◌else◌, refl, ap, ◌∙◌, arith, lit<, length-append}
use Rattle.std.specs.Option.{option_and_then}
use Rattle.std.proofs.lemmas.Bool.{le-leb}
use Rattle.mo_bytes.specs.Number.{number, number_at}
use Rattle.mo_bytes.proofs.Numbers.{length-number_bytes}
use Rattle.image_format.specs.ChainedFixups.{chained_fixups_header_fields}
use Rattle.image_format.specs.declared.fixup_chains.TheConstants.{DYLD_CHAINED_IMPORT, DYLD_CHAINED_IMPORT_ADDEND64}
use Rattle.mo_format.specs.Fields.{spelled}
use Rattle.fixup_chain.specs.Encoded.{format_of, header_bytes, joined, padded, unit_of}
use Rattle.fixup_chain.specs.Starts.{zeros_to}
use Rattle.image_read.specs.Commands.{fits}
use Rattle.image_read.specs.Fixups.{header_read}
use Rattle.image_read.specs.Imports.{fixups_command, header_at, header_by, header_of, whole_header_at}
use Rattle.image_read.specs.declared.imports.FixupsHeader.{FixupsHeader}
use Rattle.chain_laws.proofs.Standing.{EachStands, Stands, fields_stand, stands_at, stands_left, stands_right, stands_within}

-- the bytes between the starts and the imports
abbrev pub gap : Bool → ℕ → ℕ
gap wide starts = length (zeros_to (unit_of wide) starts)

-- where the parts stand behind the header, in an image whose header stands at a place
pub record PartsStand (image : List ℕ) (at : ℕ) (wide : Bool) (count : ℕ) (a b c : List ℕ) : Type 0 where
  pub header : Stands image at (header_bytes wide (length a) (length b) count)
  pub starts : Stands image (at + 32) a
  pub rows : Stands image (at + (32 + (length a + gap wide (length a)))) b
  pub pool : Stands image (at + (32 + (length a + gap wide (length a)) + length b)) c

header_length : (wide : Bool) (starts rows count : ℕ) → length (header_bytes wide starts rows count) ≡ 28
unfolding header_bytes
header_length wide starts rows count = simp (length-append, length-number_bytes)

pub parts_stand : (image : List ℕ) (at : ℕ) (wide : Bool) (count : ℕ) (starts rows pool : List ℕ) → Stands image at (padded (joined wide count starts rows pool)) → PartsStand image at wide count starts rows pool
unfolding padded joined
parts_stand image at wide count starts rows pool s =
    let header = header_bytes wide (length starts) (length rows) count in
    let four : List ℕ = 0 ∷ 0 ∷ 0 ∷ 0 ∷ [] in
    let between = zeros_to (unit_of wide) (length starts) in
    let size : length header ≡ 28 = header_length wide (length starts) (length rows) count in
    let whole : Stands image at (header ++ (four ++ (starts ++ (between ++ (rows ++ pool))))) =
    stands_left image at (header ++ (four ++ (starts ++ (between ++ (rows ++ pool))))) (zeros_to 8 (length (header ++ (four ++ (starts ++ (between ++ (rows ++ pool))))))) s in
    let after_header : Stands image (at + 28) (four ++ (starts ++ (between ++ (rows ++ pool)))) = stands_right image at (at + 28) header (four ++ (starts ++ (between ++ (rows ++ pool)))) (omega (arith, size)) whole in
    let after_four : Stands image (at + 32) (starts ++ (between ++ (rows ++ pool))) = stands_right image (at + 28) (at + 32) four (starts ++ (between ++ (rows ++ pool))) (omega arith) after_header in
    let after_starts : Stands image (at + (32 + length starts)) (between ++ (rows ++ pool)) = stands_right image (at + 32) (at + (32 + length starts)) starts (between ++ (rows ++ pool)) (omega arith) after_four in
    let after_gap : Stands image (at + (32 + (length starts + length between))) (rows ++ pool) = stands_right image (at + (32 + length starts)) (at + (32 + (length starts + length between))) between (rows ++ pool) (omega arith) after_starts in
    record {
      header = stands_left image at header (four ++ (starts ++ (between ++ (rows ++ pool)))) whole;
      starts = stands_left image (at + 32) starts (between ++ (rows ++ pool)) after_four;
      rows = stands_left image (at + (32 + (length starts + length between))) rows pool after_gap;
      pool = stands_right image (at + (32 + (length starts + length between))) (at + (32 + (length starts + length between) + length rows)) rows pool (omega arith) after_gap;
    }

-- ---- the header that the loader reads

-- the header of parts of some sizes, which is at a place
abbrev pub header_told : ℕ → Bool → ℕ → ℕ → ℕ → FixupsHeader
header_told at wide starts rows count = record {
  at = at;
  starts_offset = 32;
  imports_offset = 32 + (starts + gap wide starts);
  symbols_offset = 32 + (starts + gap wide starts) + rows;
  imports_count = count;
  imports_format = format_of wide;
}

some_same : {X : Type 0} (x y : X) → Some x ≡ Some y → x ≡ y
some_same x y e = cc

-- a number that is known is the number there
value_at : (image : List ℕ) (w at n : ℕ) → number_at w image at ≡ Some n → number w image at ≡ n
value_at image w at n e = by (nat_le (at + w) (length image)) e
  where
    by : (b : Bool) → (if b then Some (number w image at) else None) ≡ Some n → number w image at ≡ n
    by true f = some_same (number w image at) n f
    by false f = absurd (let g : ⊥ = cc in g)

format_fits : (wide : Bool) → format_of wide < 256 ^ 4
format_fits true = lit< tt
format_fits false = lit< tt

header_fields : (image : List ℕ) (at : ℕ) (wide : Bool) (starts rows count : ℕ) → 32 + (starts + gap wide starts) + rows < 2 ^ 32 → count < 2 ^ 32 → Stands image at (header_bytes wide starts rows count) → header_at image at ≡ header_told at wide starts rows count
unfolding header_bytes
header_fields image at wide starts rows count low few s =
    let imports = (32 + (starts + gap wide starts)) % 2 ^ 32 in
    let symbols = (32 + (starts + gap wide starts) + rows) % 2 ^ 32 in
    let imports_is : imports ≡ 32 + (starts + gap wide starts) = omega (arith, low) in
    let symbols_is : symbols ≡ 32 + (starts + gap wide starts) + rows = omega (arith, low) in
    let fields = chained_fixups_header_fields (record { fixups_version = 0; starts_offset = 32; imports_offset = imports; symbols_offset = symbols; imports_count = count; imports_format = format_of wide; symbols_format = 0 }) in
    let imports_fit : imports < 256 ^ 4 = omega arith in
    let symbols_fit : symbols < 256 ^ 4 = omega arith in
    let count_fits : count < 256 ^ 4 = omega (arith, few) in
    let same : at ≡ at + 0 = omega arith in
    let stand : EachStands image at 0 fields = fields_stand image at 0 fields (lit< tt, lit< tt, (lit< tt, lit< tt, (lit< tt, imports_fit, (lit< tt, symbols_fit, (lit< tt, count_fits, (lit< tt, format_fits wide, (lit< tt, lit< tt, tt))))))) (stands_at image at (at + 0) (spelled fields) same s) in
    let starts_told : number 4 image (at + 4) ≡ 32 = value_at image 4 (at + 4) 32 stand.1.0 in
    let imports_told : number 4 image (at + 8) ≡ 32 + (starts + gap wide starts) = value_at image 4 (at + 8) imports stand.1.1.0 ∙ imports_is in
    let symbols_told : number 4 image (at + 12) ≡ 32 + (starts + gap wide starts) + rows = value_at image 4 (at + 12) symbols stand.1.1.1.0 ∙ symbols_is in
    let count_told : number 4 image (at + 16) ≡ count = value_at image 4 (at + 16) count stand.1.1.1.1.0 in
    let format_told : number 4 image (at + 20) ≡ format_of wide = value_at image 4 (at + 20) (format_of wide) stand.1.1.1.1.1.0 in
    rw (starts_told, imports_told, symbols_told, count_told, format_told) refl

pub header_whole : (image : List ℕ) (at : ℕ) (wide : Bool) (starts rows count : ℕ) → 32 + (starts + gap wide starts) + rows < 2 ^ 32 → count < 2 ^ 32 → Stands image at (header_bytes wide starts rows count) → whole_header_at image at ≡ Some (header_told at wide starts rows count)
header_whole image at wide starts rows count low few s =
    let size : length (header_bytes wide starts rows count) ≡ 28 = header_length wide starts rows count in
    let within : at + length (header_bytes wide starts rows count) ≤ length image = stands_within image at (header_bytes wide starts rows count) s (omega (arith, size)) in
    let room : at + 28 ≤ length image = omega (arith, within, size) in
    rw (le-leb (at + 28) (length image) room) (ap (λ (h : FixupsHeader). Some h) (header_fields image at wide starts rows count low few s))

pub header_told_by : (image : List ℕ) (command at : ℕ) (header : FixupsHeader) → number_at 4 image (command + 8) ≡ Some at → whole_header_at image at ≡ Some header → header_by image command ≡ Some header
header_told_by image command at header place whole = ap (option_and_then (whole_header_at image)) place ∙ whole

known_format : (wide : Bool) → (format_of wide == DYLD_CHAINED_IMPORT || format_of wide == DYLD_CHAINED_IMPORT_ADDEND64) ≡ true
known_format true = refl
known_format false = refl

pub header_is_read : (image : List ℕ) (command at : ℕ) (wide : Bool) (starts rows count : ℕ) → fits image ≡ true → fixups_command image ≡ Some command → header_by image command ≡ Some (header_told at wide starts rows count) → header_read image ≡ Ok (header_told at wide starts rows count)
unfolding header_read
header_is_read image command at wide starts rows count fitting named by = rw (fitting, named, by, known_format wide) refl

pub header_is_of : (image : List ℕ) (command : ℕ) (header : FixupsHeader) → fits image ≡ true → fixups_command image ≡ Some command → header_by image command ≡ Some header → header_of image ≡ Some header
unfolding header_of
header_is_of image command header fitting named by = rw (fitting, named) by
