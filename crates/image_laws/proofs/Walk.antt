-- The walk over load commands that stand one behind the other.
use Rattle.std.proofs.Common.{◌≡◌, ℕ, ◌+◌, ◌<◌, ◌≤◌, ◌&&◌, ◌^◌, nat_le, Bool, true, List, [], ◌∷◌, ◌++◌, length, refl, sym, ap, ◌∙◌, arith, append_assoc, length-append}
use Rattle.std.specs.List.{AllByRecursion}
use Rattle.std.proofs.Math.Seq.{drop-append-add}
use Rattle.std.proofs.lemmas.Bool.{le-leb}
use Rattle.mo_bytes.specs.Number.{number, number_bytes}
use Rattle.mo_bytes.proofs.Numbers.{length-number_bytes, number-number_bytes}
use Rattle.image_read.specs.Commands.{are_commands, cmdsize, commands_from, end_of, is_command}

-- the bytes of one load command: its kind in the first 4 bytes, and how many bytes it has in the next 4
pub record IsCommand (bytes : List ℕ) : Type 0 where
  pub enough : 8 ≤ length bytes
  pub sized : (rest : List ℕ) → number 4 (bytes ++ rest) 4 ≡ length bytes

-- commands, one behind the other
abbrev pub all_bytes : List (List ℕ) → List ℕ
all_bytes [] = []
all_bytes (bytes ∷ commands) = bytes ++ all_bytes commands

-- where they stand, the first one at a place
abbrev pub places_from : ℕ → List (List ℕ) → List ℕ
places_from at [] = []
places_from at (bytes ∷ commands) = at ∷ places_from (at + length bytes) commands

pub number_behind : (width : ℕ) (front bytes : List ℕ) (k : ℕ) → number width (front ++ bytes) (length front + k) ≡ number width bytes k
unfolding number
number_behind width front bytes k = rw drop-append-add refl

pub number_there : (width : ℕ) (image front bytes : List ℕ) (k at : ℕ) → image ≡ front ++ bytes → at ≡ length front + k → number width image at ≡ number width bytes k
number_there width image front bytes k at is there = rw (is, there) (number_behind width front bytes k)

pub size_there : (image front bytes rest : List ℕ) → IsCommand bytes → image ≡ front ++ (bytes ++ rest) → cmdsize image (length front) ≡ length bytes
unfolding cmdsize
size_there image front bytes rest one is = number_there 4 image front (bytes ++ rest) 4 (length front + 4) is refl ∙ one.sized rest

fits_so : (end at size : ℕ) → at + 8 ≤ end → 8 ≤ size → at + size ≤ end → (nat_le (at + 8) end && nat_le 8 size && nat_le (at + size) end) ≡ true
fits_so end at size a b c = rw (le-leb (at + 8) end a, le-leb 8 size b, le-leb (at + size) end c) refl

pub both : (a b : Bool) → a ≡ true → b ≡ true → (a && b) ≡ true
both a b p q = rw (p, q) refl

-- the walk goes from one to the next
pub record Walks (image : List ℕ) (at : ℕ) (commands : List (List ℕ)) : Type 0 where
  pub are : are_commands image (length commands) at ≡ true
  pub places : commands_from image (length commands) at ≡ places_from at commands

pub walks : (image front rest : List ℕ) (commands : List (List ℕ)) → image ≡ front ++ (all_bytes commands ++ rest) → AllByRecursion IsCommand commands → length front + length (all_bytes commands) ≤ end_of image → Walks image (length front) commands
walks image front rest [] is each room = record { are = refl; places = refl }
walks image front rest (bytes ∷ commands) is each room =
    let moved : image ≡ (front ++ bytes) ++ (all_bytes commands ++ rest) = is ∙ ap (λ (z : List ℕ). front ++ z) (append_assoc bytes (all_bytes commands) rest) ∙ sym (append_assoc front bytes (all_bytes commands ++ rest)) in
    let here : image ≡ front ++ (bytes ++ (all_bytes commands ++ rest)) = is ∙ ap (λ (z : List ℕ). front ++ z) (append_assoc bytes (all_bytes commands) rest) in
    let long : length (bytes ++ all_bytes commands) ≡ length bytes + length (all_bytes commands) = length-append bytes (all_bytes commands) in
    let size : cmdsize image (length front) ≡ length bytes = size_there image front bytes (all_bytes commands ++ rest) each.0 here in
    let next : length (front ++ bytes) ≡ length front + length bytes = length-append front bytes in
    let later : Walks image (length (front ++ bytes)) commands = walks image (front ++ bytes) rest commands moved each.1 (omega arith) in
    let enough = each.0.enough in
    let first : is_command image (length front) ≡ true =
    rw size (fits_so (end_of image) (length front) (length bytes) (omega arith) enough (omega arith)) in
    let at : length front + cmdsize image (length front) ≡ length (front ++ bytes) = omega arith in
    record {
      are = both _ _ first (ap (λ (n : ℕ). are_commands image (length commands) n) at ∙ later.are);
      places = ap (λ (xs : List ℕ). length front ∷ xs) (ap (λ (n : ℕ). commands_from image (length commands) n) at ∙ later.places ∙ ap (λ (n : ℕ). places_from n commands) next);
    }

-- a structure whose first two numbers are a command's kind and size
pub command_by : (kind size : ℕ) (bytes more : List ℕ) → bytes ≡ number_bytes 4 kind ++ (number_bytes 4 size ++ more) → size < 2 ^ 32 → length bytes ≡ size → 8 ≤ size → IsCommand bytes
command_by kind size bytes more is low long enough = record {
  enough = omega arith;
  sized = λ rest.
      let whole : bytes ++ rest ≡ number_bytes 4 kind ++ (number_bytes 4 size ++ (more ++ rest)) =
      ap (λ (z : List ℕ). z ++ rest) is ∙ append_assoc (number_bytes 4 kind) (number_bytes 4 size ++ more) rest ∙ ap (λ (z : List ℕ). number_bytes 4 kind ++ z) (append_assoc (number_bytes 4 size) more rest) in
      let four : length (number_bytes 4 kind) ≡ 4 = length-number_bytes 4 kind in
      number_there 4 (bytes ++ rest) (number_bytes 4 kind) (number_bytes 4 size ++ (more ++ rest)) 0 4 whole (omega arith)
      ∙ number-number_bytes 4 size (more ++ rest) low ∙ sym long;
}
