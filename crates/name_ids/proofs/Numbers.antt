-- What the number of an external symbol's name says of the names.
use Rattle.std.proofs.Common.{◌≡◌, ℕ, ◌<◌, ◌≤◌, ◌^◌, [], true, List, length, Some, None, position, refl, ap, arith}
use Rattle.std.specs.Prelude.{Option, unwrap_or}
use Rattle.std.specs.Str.{bytes_eq}
use Rattle.std.proofs.lemmas.List.Quantifiers.{position-Some}
use Rattle.mo_types.specs.declared.object.Symbol.{Symbol}
use Rattle.name_ids.specs.Names.{IsNumbering, number_of}

number_is : (names : List (List ℕ)) (symbol : Symbol) (number : ℕ) → symbol.external ≡ true → number ≡ number_of names symbol → number ≡ unwrap_or (position (bytes_eq symbol.name) names) 4294967295
unfolding number_of
number_is names symbol number external is = rw external at is

found_by : (names : List (List ℕ)) (number : ℕ) (at : Option ℕ) → number ≡ unwrap_or at 4294967295 → length names < 2 ^ 24 → number < length names → Some number ≡ at
found_by names number None is few low = absurd (omega (arith, is, few, low))
found_by names number (Some id) is few low = ap Some is

missing_by : (names : List (List ℕ)) (name : List ℕ) (number : ℕ) (at : Option ℕ) → position (bytes_eq name) names ≡ at → number ≡ unwrap_or at 4294967295 → length names ≤ number → None ≡ at
missing_by names name number None there is past = refl
missing_by names name number (Some id) there is past = let low : id < length names = (position-Some (bytes_eq name) names id [] there).0 in absurd (omega (arith, is, low, past))

pub found : (names : List (List ℕ)) (symbol : Symbol) (number : ℕ) → IsNumbering names → number < length names → symbol.external ≡ true → number ≡ number_of names symbol → Some number ≡ position (bytes_eq symbol.name) names
found names symbol number numbering low external is = found_by names number (position (bytes_eq symbol.name) names) (number_is names symbol number external is) numbering.few low

pub missing : (names : List (List ℕ)) (symbol : Symbol) (number : ℕ) → length names ≤ number → symbol.external ≡ true → number ≡ number_of names symbol → None ≡ position (bytes_eq symbol.name) names
missing names symbol number past external is = missing_by names symbol.name number (position (bytes_eq symbol.name) names) refl (number_is names symbol number external is) past

pub ruleset numbers = (found, missing)
