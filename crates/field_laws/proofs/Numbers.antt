-- Numbers of bytes that stand in memory.
use Rattle.std.proofs.Common.{◌≡◌, ℕ, ◌+◌, ◌*◌, ◌<◌, ◌≤◌, ◌^◌, List, length, get_or, drop, Some, sym, refl, ap, ◌∙◌, arith}
use Rattle.std.proofs.lemmas.Bool.{le-leb}
use Rattle.std.proofs.lemmas.List.{get_or-drop}
use Rattle.std.proofs.lemmas.Option.{slice_get-get_or}
use Rattle.mo_bytes.specs.Number.{number}
use Rattle.image_read.specs.Fixups.{long_at, short_at, word_at}
use Rattle.image_read.specs.Mapped.{mapped}
use Rattle.image_read.specs.Meaning.{long_in, word_in}
use Rattle.field_laws.specs.Memory.{AreInMemory}

byte_there : (image bytes : List ℕ) (address place k v : ℕ) → AreInMemory image address bytes → place + k < length bytes → v ≡ address + place + k → mapped image v ≡ Some (get_or (drop place bytes) k 0)
byte_there image bytes address place k v there low is =
    let e : v ≡ address + (place + k) = omega arith in
    ap (mapped image) e ∙ there (place + k) low ∙ slice_get-get_or bytes (place + k) 0 low ∙ ap Some (sym (get_or-drop place bytes k 0))

four : (b0 b1 b2 b3 : ℕ) → (b0 + 0x100 * b1) + 0x10000 * (b2 + 0x100 * b3) ≡ b0 + 256 * (b1 + 256 * (b2 + 256 * (b3 + 256 * 0)))
four b0 b1 b2 b3 = omega arith

eight : (b0 b1 b2 b3 b4 b5 b6 b7 : ℕ) → ((b0 + 0x100 * b1) + 0x10000 * (b2 + 0x100 * b3)) + 0x100000000 * ((b4 + 0x100 * b5) + 0x10000 * (b6 + 0x100 * b7)) ≡ b0 + 256 * (b1 + 256 * (b2 + 256 * (b3 + 256 * (b4 + 256 * (b5 + 256 * (b6 + 256 * (b7 + 256 * 0)))))))
eight b0 b1 b2 b3 b4 b5 b6 b7 = omega arith

-- the word of four bytes from the k-th one behind a place on
word_of : (image bytes : List ℕ) (address place k v : ℕ) → AreInMemory image address bytes → place + k + 4 ≤ length bytes → v ≡ address + place + k → word_at image v ≡ Some ((get_or (drop place bytes) k 0 + 0x100 * get_or (drop place bytes) (k + 1) 0) + 0x10000 * (get_or (drop place bytes) (k + 2) 0 + 0x100 * get_or (drop place bytes) (k + 3) 0))
unfolding word_at short_at
word_of image bytes address place k v there room is =
    let b0 = byte_there image bytes address place k v there (omega arith) is in
    let b1 = byte_there image bytes address place (k + 1) (v + 1) there (omega arith) (omega arith) in
    let b2 = byte_there image bytes address place (k + 2) (v + 2) there (omega arith) (omega arith) in
    let b3 = byte_there image bytes address place (k + 3) (v + 2 + 1) there (omega arith) (omega arith) in
    rw (b0, b1, b2, b3) refl

word_number : (image bytes : List ℕ) (address place : ℕ) → AreInMemory image address bytes → place + 4 ≤ length bytes → word_at image (address + place) ≡ Some (number 4 bytes place)
unfolding number
word_number image bytes address place there room = word_of image bytes address place 0 (address + place) there (omega arith) (omega arith) ∙ ap Some (four _ _ _ _)

long_number : (image bytes : List ℕ) (address place : ℕ) → AreInMemory image address bytes → place + 8 ≤ length bytes → long_at image (address + place) ≡ Some (number 8 bytes place)
unfolding number long_at
long_number image bytes address place there room =
    let low = word_of image bytes address place 0 (address + place) there (omega arith) (omega arith) in
    let high = word_of image bytes address place 4 (address + place + 4) there (omega arith) refl in
    rw (low, high) (ap Some (eight _ _ _ _ _ _ _ _))

pub word_there : (image bytes : List ℕ) (address place : ℕ) → AreInMemory image address bytes → place + 4 ≤ length bytes → address + place + 4 ≤ 2 ^ 64 → word_in image (address + place) ≡ Some (number 4 bytes place)
word_there image bytes address place there room low = rw (le-leb (address + place + 4) (2 ^ 64) low) (word_number image bytes address place there room)

pub long_there : (image bytes : List ℕ) (address place : ℕ) → AreInMemory image address bytes → place + 8 ≤ length bytes → address + place + 8 ≤ 2 ^ 64 → long_in image (address + place) ≡ Some (number 8 bytes place)
long_there image bytes address place there room low = rw (le-leb (address + place + 8) (2 ^ 64) low) (long_number image bytes address place there room)
