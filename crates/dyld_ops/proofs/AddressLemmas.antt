-- The walk that gathers the segments' addresses.
use Rattle.std.proofs.Common.{◌≡◌, ℕ, suc, ◌+◌, ◌-◌, ◌<◌, ◌≤◌, Bool, true, false, List, [], ◌∷◌, ◌++◌, length, refl, sym, ap, ◌∙◌, append_assoc, append-nil, arith}
use Rattle.std.proofs.lemmas.Bool.{le-leb}
use Rattle.mo_format.specs.Segment.{segment_command_at}
use Rattle.image_read.specs.Commands.{IsFitting, cmdsize, commands_from, commands_of, fits, ncmds}
use Rattle.image_read.specs.Mapped.{is_segment}
use Rattle.dyld_ops.specs.Image.{addresses_at, addresses_of}

-- the addresses so far, of i of n commands
pub record IsGathering (image : List ℕ) (n i at : ℕ) (addresses : List ℕ) : Type 0 where
  pub whole : addresses ++ addresses_at image (commands_from image (n - i) at) ≡ addresses_at image (commands_from image n 32)

pub gather_starts : (image : List ℕ) (n : ℕ) → IsGathering image n 0 32 []
gather_starts image n = record { whole = let e : n - 0 ≡ n = omega arith in rw e refl }

pub gather_segment : (image : List ℕ) (n i at : ℕ) (addresses : List ℕ) → IsGathering image n i at addresses → i < n → is_segment image at ≡ true → IsGathering image n (i + 1) (at + cmdsize image at) (addresses ++ (segment_command_at image at).vmaddr ∷ [])
gather_segment image n i at addresses gathering more is = record {
  whole =
      let e : n - i ≡ suc (n - (i + 1)) = omega arith in
      let here : addresses_at image (commands_from image (n - i) at) ≡ (segment_command_at image at).vmaddr ∷ addresses_at image (commands_from image (n - (i + 1)) (at + cmdsize image at)) = rw (e, is) refl in
      append_assoc addresses ((segment_command_at image at).vmaddr ∷ []) _ ∙ ap (λ (rest : List ℕ). addresses ++ rest) (sym here) ∙ gathering.whole;
}

pub gather_other : (image : List ℕ) (n i at : ℕ) (addresses : List ℕ) → IsGathering image n i at addresses → i < n → is_segment image at ≡ false → IsGathering image n (i + 1) (at + cmdsize image at) addresses
gather_other image n i at addresses gathering more other = record {
  whole =
      let e : n - i ≡ suc (n - (i + 1)) = omega arith in
      let here : addresses_at image (commands_from image (n - i) at) ≡ addresses_at image (commands_from image (n - (i + 1)) (at + cmdsize image at)) = rw (e, other) refl in
      ap (λ (rest : List ℕ). addresses ++ rest) (sym here) ∙ gathering.whole;
}

pub gather_ends : (image : List ℕ) (i at : ℕ) (addresses : List ℕ) → IsGathering image (ncmds image) i at addresses → ncmds image ≤ i → addresses ≡ addresses_of image
unfolding addresses_of commands_of
gather_ends image i at addresses gathering past =
    let e : ncmds image - i ≡ 0 = omega arith in
    let none : addresses_at image (commands_from image (ncmds image - i) at) ≡ [] = rw e refl in
    sym (append-nil addresses) ∙ ap (λ (rest : List ℕ). addresses ++ rest) (sym none) ∙ gathering.whole

-- commands that fit, by the test
pub fits_so : (image : List ℕ) → IsFitting image → fits image ≡ true
unfolding fits
fits_so image fitting = rw (le-leb 32 (length image) fitting.header) fitting.commands

pub ruleset gathers = (gather_starts, gather_segment, gather_other, gather_ends)
