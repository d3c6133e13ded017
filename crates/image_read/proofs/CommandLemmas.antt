-- The walk from one load command to the next.
use Rattle.std.proofs.Common.{tests, ◌≡◌, ℕ, suc, ◌+◌, ◌-◌, ◌<◌, ◌≤◌, ◌&&◌, Bool, true, false, List, length, Option, Some, None, refl, sym, ap, ◌∙◌, arith}
use Rattle.mo_types.specs.Scan.{first_some, option_or_else}
use Rattle.image_read.specs.Commands.{IsFitting, are_commands, cmdsize, commands_from, commands_of, end_of, is_command, ncmds}

-- the first i of n commands fit the file
pub record IsFittingSo (image : List ℕ) (n i at : ℕ) : Type 0 where
  pub same : are_commands image (n - i) at ≡ are_commands image n 32
  pub within : at ≤ end_of image

pub fit_starts : (image : List ℕ) (n : ℕ) → 32 ≤ length image → IsFittingSo image n 0 32
fit_starts image n header = record { same = let e : n - 0 ≡ n = omega arith in rw e refl; within = omega arith }

pub fit_goes_on : (image : List ℕ) (n i at : ℕ) → IsFittingSo image n i at → i < n → is_command image at ≡ true → at + cmdsize image at ≤ end_of image → IsFittingSo image n (i + 1) (at + cmdsize image at)
fit_goes_on image n i at fitting more is inside = record {
  same =
      let e : n - i ≡ suc (n - (i + 1)) = omega arith in
      let here : are_commands image (n - i) at ≡ are_commands image (n - (i + 1)) (at + cmdsize image at) = rw (e, is) refl in
      sym here ∙ fitting.same;
  within = inside;
}

pub fit_stops : (image : List ℕ) (n i at : ℕ) → IsFittingSo image n i at → i < n → is_command image at ≡ false → are_commands image n 32 ≡ false
fit_stops image n i at fitting more not =
    let e : n - i ≡ suc (n - (i + 1)) = omega arith in
    let here : are_commands image (n - i) at ≡ false = rw (e, not) refl in
    sym fitting.same ∙ here

pub fit_ends : (image : List ℕ) (n i at : ℕ) → IsFittingSo image n i at → n ≤ i → are_commands image n 32 ≡ true
fit_ends image n i at fitting past =
    let e : n - i ≡ 0 = omega arith in
    let here : are_commands image (n - i) at ≡ true = rw e refl in
    sym fitting.same ∙ here

pub ruleset fitting = (fit_starts, fit_goes_on, fit_stops, fit_ends)

-- a walk has come to a place, past i of n commands
pub record IsWalked (image : List ℕ) (n i at : ℕ) : Type 0 where
  pub rest : are_commands image (n - i) at ≡ true

pub walk_starts : (image : List ℕ) → IsFitting image → IsWalked image (ncmds image) 0 32
walk_starts image fitting = record { rest = let e : ncmds image - 0 ≡ ncmds image = omega arith in rw e fitting.commands }

both : (a b : Bool) → (a && b) ≡ true → (a ≡ true) × (b ≡ true)
both true b is = (refl, is)
both false b is = cc

pub command_here : (image : List ℕ) (n i at : ℕ) → IsWalked image n i at → i < n → is_command image at ≡ true
command_here image n i at walked more =
    let e : n - i ≡ suc (n - (i + 1)) = omega arith in
    let here : are_commands image (suc (n - (i + 1))) at ≡ true = rw e at walked.rest in
    (both (is_command image at) (are_commands image (n - (i + 1)) (at + cmdsize image at)) here).0

pub header_here : (image : List ℕ) (n i at : ℕ) → IsWalked image n i at → i < n → at + 8 ≤ length image
header_here image n i at walked more =
    let is : is_command image at ≡ true = command_here image n i at walked more in
    grind (arith, tests)

pub whole_here : (image : List ℕ) (n i at : ℕ) → IsWalked image n i at → i < n → at + cmdsize image at ≤ length image
whole_here image n i at walked more =
    let is : is_command image at ≡ true = command_here image n i at walked more in
    grind (arith, tests)

pub walk_goes_on : (image : List ℕ) (n i at : ℕ) → IsWalked image n i at → i < n → IsWalked image n (i + 1) (at + cmdsize image at)
walk_goes_on image n i at walked more =
    let e : n - i ≡ suc (n - (i + 1)) = omega arith in
    let here : are_commands image (suc (n - (i + 1))) at ≡ true = rw e at walked.rest in
    record { rest = (both (is_command image at) (are_commands image (n - (i + 1)) (at + cmdsize image at)) here).1 }

pub ruleset walks = (walk_starts, header_here, whole_here, walk_goes_on)

-- nothing was found at the commands before a place
pub record IsSearching {B : Type 0} (f : ℕ → Option B) (image : List ℕ) (n i at : ℕ) : Type 0 where
  pub same : first_some f (commands_from image (n - i) at) ≡ first_some f (commands_from image n 32)

pub search_starts : {B : Type 0} (f : ℕ → Option B) (image : List ℕ) (n : ℕ) → IsSearching f image n 0 32
search_starts f image n = record { same = let e : n - 0 ≡ n = omega arith in rw e refl }

from_here : {B : Type 0} (f : ℕ → Option B) (image : List ℕ) (n i at : ℕ) → i < n → first_some f (commands_from image (n - i) at) ≡ option_or_else (f at) (first_some f (commands_from image (n - (i + 1)) (at + cmdsize image at)))
from_here f image n i at more =
    let e : n - i ≡ suc (n - (i + 1)) = omega arith in
    rw e refl

pub search_goes_on : {B : Type 0} (f : ℕ → Option B) (image : List ℕ) (n i at : ℕ) → IsSearching f image n i at → i < n → f at ≡ None → IsSearching f image n (i + 1) (at + cmdsize image at)
search_goes_on f image n i at searching more none =
    record { same = sym (from_here f image n i at more ∙ ap (λ x. option_or_else x (first_some f (commands_from image (n - (i + 1)) (at + cmdsize image at)))) none) ∙ searching.same }

pub search_finds : {B : Type 0} (f : ℕ → Option B) (image : List ℕ) (i at : ℕ) (x : B) → IsSearching f image (ncmds image) i at → i < ncmds image → f at ≡ Some x → Some x ≡ first_some f (commands_of image)
unfolding commands_of
search_finds f image i at x searching more found =
    sym (from_here f image (ncmds image) i at more ∙ ap (λ y. option_or_else y (first_some f (commands_from image (ncmds image - (i + 1)) (at + cmdsize image at)))) found) ∙ searching.same

pub search_ends : {B : Type 0} (f : ℕ → Option B) (image : List ℕ) (i at : ℕ) → IsSearching f image (ncmds image) i at → ncmds image ≤ i → None ≡ first_some f (commands_of image)
unfolding commands_of
search_ends f image i at searching past =
    let e : ncmds image - i ≡ 0 = omega arith in
    let none : first_some f (commands_from image (ncmds image - i) at) ≡ None = rw e refl in
    sym none ∙ searching.same

pub ruleset searches = (search_starts, search_goes_on, search_finds, search_ends)
