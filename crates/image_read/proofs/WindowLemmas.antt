-- Windows on memory: of the first segment that has any of some addresses, and what numbers in them are.
use Rattle.std.proofs.Common.{tests, ◌≡◌, ℕ, ◌+◌, ◌-◌, ◌*◌, ◌<◌, ◌≤◌, true, nat_le, List, length, drop, get_or, get_or-drop, Option, Some, None, IfSome, refl, sym, ap, ◌∙◌, arith}
use Rattle.mo_bytes.specs.Number.{number}
use Rattle.mo_types.specs.Scan.{first_some}
use Rattle.mo_format.specs.Segment.{segment_command_at}
use Rattle.mo_format.specs.declared.segment.SegmentCommand.{SegmentCommand}
use Rattle.image_read.specs.Commands.{IsFitting, commands_of, fits, ncmds}
use Rattle.image_read.specs.Fixups.{long_at, short_at, word_at}
use Rattle.image_read.specs.Mapped.{holder, holder_at, holds, mapped}
use Rattle.image_read.specs.declared.window.Window.{Window}
use Rattle.image_read.specs.inner.Window.{IsPart, IsSegmentAt, IsWindow, byte_for}
use Rattle.image_read.proofs.CommandLemmas.{IsSearching, search_starts, search_goes_on, search_finds}

short_is : (image : List ℕ) (window : Window) (v : ℕ) → IsWindow image window → window.from ≤ v → v + 2 ≤ window.from + window.size → short_at image v ≡ Some (byte_for image window v + 0x100 * byte_for image window (v + 1))
unfolding short_at
short_is image window v is from to = rw (is.same v from (omega arith), is.same (v + 1) (omega arith) (omega arith)) refl

word_is : (image : List ℕ) (window : Window) (v : ℕ) → IsWindow image window → window.from ≤ v → v + 4 ≤ window.from + window.size → word_at image v ≡ Some ((byte_for image window v + 0x100 * byte_for image window (v + 1)) + 0x10000 * (byte_for image window (v + 2) + 0x100 * byte_for image window (v + 2 + 1)))
unfolding word_at
word_is image window v is from to = rw (short_is image window v is from (omega arith), short_is image window (v + 2) is (omega arith) (omega arith)) refl

-- the byte of a number's place
byte_is : (image : List ℕ) (window : Window) (v k w at : ℕ) → window.from ≤ v → at ≡ window.place + (v - window.from) → w ≡ v + k → get_or (drop at image) k 0 ≡ byte_for image window w
byte_is image window v k w at from place further =
    let e : at + k ≡ window.place + (w - window.from) = omega arith in
    get_or-drop at image k 0 ∙ ap (λ p. get_or image p 0) e

four : (b0 b1 b2 b3 c0 c1 c2 c3 : ℕ) → b0 ≡ c0 → b1 ≡ c1 → b2 ≡ c2 → b3 ≡ c3 → b0 + 256 * (b1 + 256 * (b2 + 256 * (b3 + 256 * 0))) ≡ (c0 + 0x100 * c1) + 0x10000 * (c2 + 0x100 * c3)
four b0 b1 b2 b3 c0 c1 c2 c3 e0 e1 e2 e3 = omega arith

eight : (b0 b1 b2 b3 b4 b5 b6 b7 c0 c1 c2 c3 c4 c5 c6 c7 : ℕ) → b0 ≡ c0 → b1 ≡ c1 → b2 ≡ c2 → b3 ≡ c3 → b4 ≡ c4 → b5 ≡ c5 → b6 ≡ c6 → b7 ≡ c7 → b0 + 256 * (b1 + 256 * (b2 + 256 * (b3 + 256 * (b4 + 256 * (b5 + 256 * (b6 + 256 * (b7 + 256 * 0))))))) ≡ ((c0 + 0x100 * c1) + 0x10000 * (c2 + 0x100 * c3)) + 0x100000000 * ((c4 + 0x100 * c5) + 0x10000 * (c6 + 0x100 * c7))
eight b0 b1 b2 b3 b4 b5 b6 b7 c0 c1 c2 c3 c4 c5 c6 c7 e0 e1 e2 e3 e4 e5 e6 e7 = omega arith

pub word_found : (image : List ℕ) (window : Window) (v at n : ℕ) → IsWindow image window → window.from ≤ v → v + 4 ≤ window.from + window.size → at ≡ window.place + (v - window.from) → n ≡ number 4 image at → Some n ≡ word_at image v
unfolding number
word_found image window v at n is from to place read =
    let e0 : get_or (drop at image) 0 0 ≡ byte_for image window v = byte_is image window v 0 v at from place (omega arith) in
    let e1 : get_or (drop at image) 1 0 ≡ byte_for image window (v + 1) = byte_is image window v 1 (v + 1) at from place (omega arith) in
    let e2 : get_or (drop at image) 2 0 ≡ byte_for image window (v + 2) = byte_is image window v 2 (v + 2) at from place (omega arith) in
    let e3 : get_or (drop at image) 3 0 ≡ byte_for image window (v + 2 + 1) = byte_is image window v 3 (v + 2 + 1) at from place (omega arith) in
    ap Some (read ∙ four (get_or (drop at image) 0 0) (get_or (drop at image) 1 0) (get_or (drop at image) 2 0) (get_or (drop at image) 3 0) _ _ _ _ e0 e1 e2 e3)
    ∙ sym (word_is image window v is from to)

pub long_found : (image : List ℕ) (window : Window) (v at n : ℕ) → IsWindow image window → window.from ≤ v → v + 8 ≤ window.from + window.size → at ≡ window.place + (v - window.from) → n ≡ number 8 image at → Some n ≡ long_at image v
unfolding number long_at
long_found image window v at n is from to place read =
    let e0 : get_or (drop at image) 0 0 ≡ byte_for image window v = byte_is image window v 0 v at from place (omega arith) in
    let e1 : get_or (drop at image) 1 0 ≡ byte_for image window (v + 1) = byte_is image window v 1 (v + 1) at from place (omega arith) in
    let e2 : get_or (drop at image) 2 0 ≡ byte_for image window (v + 2) = byte_is image window v 2 (v + 2) at from place (omega arith) in
    let e3 : get_or (drop at image) 3 0 ≡ byte_for image window (v + 2 + 1) = byte_is image window v 3 (v + 2 + 1) at from place (omega arith) in
    let e4 : get_or (drop at image) 4 0 ≡ byte_for image window (v + 4) = byte_is image window v 4 (v + 4) at from place (omega arith) in
    let e5 : get_or (drop at image) 5 0 ≡ byte_for image window (v + 4 + 1) = byte_is image window v 5 (v + 4 + 1) at from place (omega arith) in
    let e6 : get_or (drop at image) 6 0 ≡ byte_for image window (v + 4 + 2) = byte_is image window v 6 (v + 4 + 2) at from place (omega arith) in
    let e7 : get_or (drop at image) 7 0 ≡ byte_for image window (v + 4 + 2 + 1) = byte_is image window v 7 (v + 4 + 2 + 1) at from place (omega arith) in
    ap Some (read ∙ eight (get_or (drop at image) 0 0) (get_or (drop at image) 1 0) (get_or (drop at image) 2 0) (get_or (drop at image) 3 0) (get_or (drop at image) 4 0) (get_or (drop at image) 5 0) (get_or (drop at image) 6 0) (get_or (drop at image) 7 0) _ _ _ _ _ _ _ _ e0 e1 e2 e3 e4 e5 e6 e7)
    ∙ sym (rw (word_is image window v is from (omega arith), word_is image window (v + 4) is (omega arith) (omega arith)) refl)

pub ruleset numbers = (word_found, long_found)

-- commands that fit the file, as the test of them
fitting_is : (image : List ℕ) → IsFitting image → fits image ≡ true
unfolding fits
fitting_is image fitting =
    let header : nat_le 32 (length image) ≡ true = let h : 32 ≤ length image = fitting.header in grind (arith, tests) in
    rw (header, fitting.commands) refl

pub window_found : (image : List ℕ) (first count i at : ℕ) (segment : SegmentCommand) (window : Window) → IsFitting image → ((v : ℕ) → first ≤ v → v < first + count → IsSearching (holder_at image v) image (ncmds image) i at) → i < ncmds image → IsSegmentAt image at segment → IsPart image segment first count window → IsWindow image window
unfolding mapped holder holder_at
window_found image first count i at segment window fitting searching more stands part = record {
  within = part.within;
  same = λ v from to.
      let low : first ≤ v = let f : first ≤ window.from = part.from in omega arith in
      let high : v < first + count = let t : window.from + window.size ≤ first + count = part.to in omega arith in
      let holding : holds v (segment_command_at image at) ≡ true = ap (holds v) (sym stands.same) ∙ part.holding v from to in
      let here : holder_at image v at ≡ Some segment = rw (stands.is, holding) (ap Some (sym stands.same)) in
      let found : first_some (holder_at image v) (commands_of image) ≡ Some segment = sym (search_finds (holder_at image v) image i at segment (searching v low high) more here) in
      rw (fitting_is image fitting, found) (part.same v from to);
}

pub window_some : (image : List ℕ) (first count i at : ℕ) (segment : SegmentCommand) (found : Option Window) → IsFitting image → ((v : ℕ) → first ≤ v → v < first + count → IsSearching (holder_at image v) image (ncmds image) i at) → i < ncmds image → IsSegmentAt image at segment → IfSome found (IsPart image segment first count) → IfSome found (IsWindow image)
window_some image first count i at segment None fitting searching more stands part = part
window_some image first count i at segment (Some window) fitting searching more stands part = window_found image first count i at segment window fitting searching more stands part

pub ruleset windows = (window_some, search_starts, search_goes_on)
