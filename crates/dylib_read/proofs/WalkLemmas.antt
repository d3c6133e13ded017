-- The walk from one load command to the next.
use Rattle.std.proofs.Common.{◌≡◌, ℕ, zero, suc, ◌+◌, ◌-◌, ◌<◌, ◌≤◌, List, [], ◌∷◌, ◌++◌, Result, Ok, Err, true, false, refl, sym, ap, ◌∙◌, arith, append_assoc, append-nil, min, length, take, drop}
use Rattle.std.proofs.Math.Nat.{sub-zero}
use Rattle.std.proofs.lemmas.List.{take_min, take_rest, drop_all, length-take, length-drop}
use Rattle.mo_types.specs.Gives.{◌>>=◌}
use Rattle.mo_types.proofs.Each.{with_front}
use Rattle.dylib_read.specs.declared.fault.DylibRule.TheVariants.{Commands}
use Rattle.dylib_read.specs.declared.fault.DylibFault.{DylibFault}
use Rattle.dylib_read.specs.declared.fault.DylibFault.TheVariants.{Malformed}
use Rattle.dylib_read.specs.Commands.{command_at, commands_from, is_broken, size_at}

-- `front` has the places of the commands before the one at `at`, of n commands
pub record IsWalking (bytes : List ℕ) (end n i at : ℕ) (front : List ℕ) : Type 0 where
  pub same : with_front front (commands_from bytes end (n - i) at) ≡ commands_from bytes end n 32
  pub within : at ≤ end

with_nothing : (read : Result (List ℕ) DylibFault) → with_front [] read ≡ read
with_nothing (Ok xs) = refl
with_nothing (Err e) = refl

with_more : (front : List ℕ) (x : ℕ) (read : Result (List ℕ) DylibFault) → with_front front (read >>= λ xs. Ok (x ∷ xs)) ≡ with_front (front ++ x ∷ []) read
with_more front x (Ok xs) = ap Ok (sym (append_assoc front (x ∷ []) xs))
with_more front x (Err e) = refl

pub walk_starts : (bytes : List ℕ) (end n : ℕ) → 32 ≤ end → IsWalking bytes end n 0 32 []
walk_starts bytes end n within = record { same = rw sub-zero (with_nothing (commands_from bytes end n 32)); within = within }

whole_here : (bytes : List ℕ) (end n i at : ℕ) → i < n → is_broken bytes end at ≡ false → commands_from bytes end (n - i) at ≡ (commands_from bytes end (n - (i + 1)) (at + size_at bytes at) >>= λ xs. Ok (at ∷ xs))
whole_here bytes end n i at more whole =
    let e : n - i ≡ suc (n - (i + 1)) = omega arith in
    rw e (rw whole refl)

broken_here : (bytes : List ℕ) (end n i at : ℕ) → i < n → is_broken bytes end at ≡ true → commands_from bytes end (n - i) at ≡ Err (Malformed at Commands)
broken_here bytes end n i at more broken =
    let e : n - i ≡ suc (n - (i + 1)) = omega arith in
    rw e (rw broken refl)

pub walk_goes_on : (bytes : List ℕ) (end n i at : ℕ) (front : List ℕ) → IsWalking bytes end n i at front → i < n → is_broken bytes end at ≡ false → at + size_at bytes at ≤ end → IsWalking bytes end n (i + 1) (at + size_at bytes at) (front ++ at ∷ [])
walk_goes_on bytes end n i at front walking more whole within = record {
  same =
      sym (with_more front at (commands_from bytes end (n - (i + 1)) (at + size_at bytes at)))
      ∙ ap (with_front front) (sym (whole_here bytes end n i at more whole)) ∙ walking.same;
  within = within;
}

pub walk_stops : (bytes : List ℕ) (end n i at : ℕ) (front : List ℕ) → IsWalking bytes end n i at front → i < n → is_broken bytes end at ≡ true → commands_from bytes end n 32 ≡ Err (Malformed at Commands)
walk_stops bytes end n i at front walking more broken =
    sym walking.same ∙ ap (with_front front) (broken_here bytes end n i at more broken)

pub walk_ends : (bytes : List ℕ) (end n i at : ℕ) (front : List ℕ) → IsWalking bytes end n i at front → n ≤ i → commands_from bytes end n 32 ≡ Ok front
walk_ends bytes end n i at front walking past =
    let e : n - i ≡ 0 = omega arith in
    sym walking.same ∙ (rw e (ap Ok (append-nil front)))

pub ruleset walks = (walk_starts, walk_goes_on, walk_stops, walk_ends)

-- the bytes of a command, as far as there are any
pub cut_there : (bytes : List ℕ) (at size count : ℕ) → size ≡ size_at bytes at → count ≡ min size (length (take (length bytes - at) (drop at bytes))) → take count (take (length bytes - at) (drop at bytes)) ≡ command_at bytes at
unfolding command_at
cut_there bytes at size count is few =
    let rest : take (length bytes - at) (drop at bytes) ≡ drop at bytes = take_rest bytes at in
    ap (λ n. take n (take (length bytes - at) (drop at bytes))) few
    ∙ (take_min size (take (length bytes - at) (drop at bytes)) ∙ (ap (take size) rest ∙ ap (λ n. take n (drop at bytes)) is))

pub take_nothing : (n : ℕ) → ◌≡◌ {A = List ℕ} [] (take n [])
take_nothing zero = refl
take_nothing (suc n) = refl

pub cut_past : (bytes : List ℕ) (at : ℕ) → length bytes < at → [] ≡ command_at bytes at
unfolding command_at
cut_past bytes at past =
    let e : drop at bytes ≡ [] = drop_all at bytes (omega arith) in
    rw e (take_nothing (size_at bytes at))

-- the part of a file that is a command
pub part_fits : (bytes command : List ℕ) (at : ℕ) → command ≡ command_at bytes at → at ≤ length bytes → at + length command ≤ length bytes
unfolding command_at
part_fits bytes command at is within =
    let long : length command ≡ min (size_at bytes at) (length (drop at bytes)) = ap length is ∙ length-take (size_at bytes at) (drop at bytes) in
    let rest : length (drop at bytes) ≡ length bytes - at = length-drop at bytes in
    omega arith

pub part_same : (bytes command : List ℕ) (at : ℕ) → command ≡ command_at bytes at → take (length command) (drop at bytes) ≡ command_at bytes at
unfolding command_at
part_same bytes command at is =
    let long : length command ≡ min (size_at bytes at) (length (drop at bytes)) = ap length is ∙ length-take (size_at bytes at) (drop at bytes) in
    ap (λ n. take n (drop at bytes)) long ∙ take_min (size_at bytes at) (drop at bytes)

pub ruleset parts = (part_fits, part_same, cut_past)

pub ruleset cuts = (cut_there, cut_past)
