-- The bit fields of a relocation are read from the number that holds them.
use Rattle.std.proofs.Common.{◌≡◌, ℕ, ◌+◌, ◌*◌, ◌/◌, ◌%◌, ◌^◌, ◌<◌, nat_eq, List, [], ◌++◌, Bool, true, false, length, refl, ◌∙◌, arith, append_assoc, add-zero}
use Rattle.mo_bytes.specs.Number.{number}
use Rattle.mo_format.specs.Relocation.{IsPackable, bit, packed, unpacked, relocation_info_at, relocation_info_fields, relocation_info_bytes}
use Rattle.mo_format.specs.declared.relocation.RelocationInfo.{RelocationInfo}
use Rattle.mo_format.proofs.FieldLemmas.{AllRead, all_read}

word_of : ℕ → Bool → ℕ → Bool → ℕ → ℕ
word_of number pcrel length external kind = number + 0x1000000 * bit pcrel + 0x2000000 * length + 0x8000000 * bit external + 0x10000000 * kind

pcrel_of : (number : ℕ) (pcrel : Bool) (length : ℕ) (external : Bool) (kind : ℕ) → number < 2 ^ 24 → length < 4 → kind < 16 → word_of number pcrel length external kind / 0x1000000 % 2 ≡ bit pcrel
unfolding word_of
pcrel_of number true length true kind a b c = omega arith
pcrel_of number true length false kind a b c = omega arith
pcrel_of number false length true kind a b c = omega arith
pcrel_of number false length false kind a b c = omega arith

external_of : (number : ℕ) (pcrel : Bool) (length : ℕ) (external : Bool) (kind : ℕ) → number < 2 ^ 24 → length < 4 → kind < 16 → word_of number pcrel length external kind / 0x8000000 % 2 ≡ bit external
unfolding word_of
external_of number true length true kind a b c = omega arith
external_of number true length false kind a b c = omega arith
external_of number false length true kind a b c = omega arith
external_of number false length false kind a b c = omega arith

number_of : (number : ℕ) (pcrel : Bool) (length : ℕ) (external : Bool) (kind : ℕ) → number < 2 ^ 24 → length < 4 → kind < 16 → word_of number pcrel length external kind % 0x1000000 ≡ number
unfolding word_of
number_of number pcrel length external kind a b c = omega arith

length_of : (number : ℕ) (pcrel : Bool) (length : ℕ) (external : Bool) (kind : ℕ) → number < 2 ^ 24 → length < 4 → kind < 16 → word_of number pcrel length external kind / 0x2000000 % 4 ≡ length
unfolding word_of
length_of number true length true kind a b c = omega arith
length_of number true length false kind a b c = omega arith
length_of number false length true kind a b c = omega arith
length_of number false length false kind a b c = omega arith

kind_of : (number : ℕ) (pcrel : Bool) (length : ℕ) (external : Bool) (kind : ℕ) → number < 2 ^ 24 → length < 4 → kind < 16 → word_of number pcrel length external kind / 0x10000000 ≡ kind
unfolding word_of
kind_of number true length true kind a b c = omega arith
kind_of number true length false kind a b c = omega arith
kind_of number false length true kind a b c = omega arith
kind_of number false length false kind a b c = omega arith

pub bit_test : (b : Bool) → nat_eq (bit b) 1 ≡ b
bit_test true = refl
bit_test false = refl

pub unpacked-packed : (info : RelocationInfo) → IsPackable info → unpacked info.r_address (packed info) ≡ info
unfolding unpacked word_of
unpacked-packed info fit =
    let pcrel = pcrel_of info.r_symbolnum info.r_pcrel info.r_length info.r_extern info.r_type fit.number fit.length fit.kind in
    let external = external_of info.r_symbolnum info.r_pcrel info.r_length info.r_extern info.r_type fit.number fit.length fit.kind in
    let number = number_of info.r_symbolnum info.r_pcrel info.r_length info.r_extern info.r_type fit.number fit.length fit.kind in
    let size = length_of info.r_symbolnum info.r_pcrel info.r_length info.r_extern info.r_type fit.number fit.length fit.kind in
    let kind = kind_of info.r_symbolnum info.r_pcrel info.r_length info.r_extern info.r_type fit.number fit.length fit.kind in
    let pcrel_test = bit_test info.r_pcrel in
    let external_test = bit_test info.r_extern in
    let same : unpacked info.r_address (packed info) ≡ record { r_address = info.r_address; r_symbolnum = info.r_symbolnum; r_pcrel = info.r_pcrel; r_length = info.r_length; r_extern = info.r_extern; r_type = info.r_type } = cc in
    same

packed_lt : (number : ℕ) (pcrel : Bool) (length : ℕ) (external : Bool) (kind : ℕ) → number < 2 ^ 24 → length < 4 → kind < 16 → word_of number pcrel length external kind < 256 ^ 4
unfolding word_of
packed_lt number true length true kind a b c = omega arith
packed_lt number true length false kind a b c = omega arith
packed_lt number false length true kind a b c = omega arith
packed_lt number false length false kind a b c = omega arith

pub relocation_info_read : (s : RelocationInfo) (front rest : List ℕ) → IsPackable s → relocation_info_at ((front ++ relocation_info_bytes s) ++ rest) (length front) ≡ s
unfolding word_of
relocation_info_read s front rest fit =
    let small = packed_lt s.r_symbolnum s.r_pcrel s.r_length s.r_extern s.r_type fit.number fit.length fit.kind in
    let read : AllRead (front ++ (relocation_info_bytes s ++ rest)) (length front) 0 (relocation_info_fields s) = all_read (relocation_info_fields s) 0 front [] rest (fit.address, (small, tt)) refl in
    let first : number 4 (front ++ (relocation_info_bytes s ++ rest)) (length front) ≡ s.r_address = rw add-zero at read.0 in
    let both : relocation_info_at (front ++ (relocation_info_bytes s ++ rest)) (length front) ≡ unpacked s.r_address (packed s) = cc in
    rw append_assoc (both ∙ unpacked-packed s fit)
