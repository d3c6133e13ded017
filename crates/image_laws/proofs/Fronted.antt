-- An image that begins with a header and its load commands, as the loader goes through them.
use Rattle.std.proofs.Common.{◌≡◌, ℕ, ◌+◌, ◌≤◌, nat_le, true, List, ◌++◌, length, ap, ◌∙◌, arith, length-append, subst}
use Rattle.std.specs.List.{AllByRecursion}
use Rattle.std.proofs.lemmas.Bool.{le-leb}
use Rattle.image_read.specs.Commands.{are_commands, commands_from, commands_of, end_of, fits, ncmds, sizeofcmds}
use Rattle.image_laws.proofs.Walk.{IsCommand, Walks, all_bytes, both, places_from, walks}

-- the header, the commands one behind the other, and the rest, with the numbers that the header tells
pub record IsFronted (image : List ℕ) (commands : List (List ℕ)) : Type 0 where
  pub header : List ℕ
  pub rest : List ℕ
  pub is : image ≡ header ++ (all_bytes commands ++ rest)
  pub long : length header ≡ 32
  pub each : AllByRecursion IsCommand commands
  pub many : ncmds image ≡ length commands
  pub size : sizeofcmds image ≡ length (all_bytes commands)

walked : (image : List ℕ) (commands : List (List ℕ)) → IsFronted image commands → Walks image 32 commands
walked image commands front =
    let one : length image ≡ length front.header + length (all_bytes commands ++ front.rest) = ap length front.is ∙ length-append front.header (all_bytes commands ++ front.rest) in
    let two : length (all_bytes commands ++ front.rest) ≡ length (all_bytes commands) + length front.rest = length-append (all_bytes commands) front.rest in
    let size = front.size in
    let long = front.long in
    let room : length front.header + length (all_bytes commands) ≤ end_of image = omega arith in
    subst (λ (n : ℕ). Walks image n commands) long (walks image front.header front.rest commands front.is front.each room)

pub are_there : (image : List ℕ) (commands : List (List ℕ)) → IsFronted image commands → fits image ≡ true
unfolding fits
are_there image commands front =
    let one : length image ≡ length front.header + length (all_bytes commands ++ front.rest) = ap length front.is ∙ length-append front.header (all_bytes commands ++ front.rest) in
    let long = front.long in
    both (nat_le 32 (length image)) (are_commands image (ncmds image) 32) (le-leb 32 (length image) (omega arith))
    (ap (λ (n : ℕ). are_commands image n 32) front.many ∙ (walked image commands front).are)

pub places_there : (image : List ℕ) (commands : List (List ℕ)) → IsFronted image commands → commands_of image ≡ places_from 32 commands
unfolding commands_of
places_there image commands front = ap (λ (n : ℕ). commands_from image n 32) front.many ∙ (walked image commands front).places
