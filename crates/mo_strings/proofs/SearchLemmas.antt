-- The first NUL, as the search for it answers, and strings that begin past the end.
use Rattle.std.proofs.Common.{◌≡◌, ℕ, ◌<◌, List, [], length, drop, Option, None, refl, sym, ap, ◌∙◌, arith}
use Rattle.std.proofs.lemmas.List.{drop_all}
use Rattle.memchr.specs.Find.{IsFirstByte, is_byte, places, first_of}
use Rattle.memchr.proofs.lemmas.ValueLemmas.{IsFirstByte-value}
use Rattle.mo_strings.specs.Strings.{first_nul, string_at}

pub first_nul_found : (bytes : List ℕ) (answer : Option ℕ) → IsFirstByte (is_byte 0) bytes answer → answer ≡ first_of (places (is_byte 0) bytes)
first_nul_found bytes answer found = IsFirstByte-value (is_byte 0) bytes answer found

pub ruleset nuls = (first_nul_found)

no_nul_in_nothing : first_nul [] ≡ None
unfolding first_nul
no_nul_in_nothing = sym (first_nul_found [] None (λ k low high. absurd (omega arith)))

pub string_past : (strings : List ℕ) (at : ℕ) → length strings < at → None ≡ string_at strings at
unfolding string_at
string_past strings at past =
    let none : first_nul (drop at strings) ≡ None = ap first_nul (drop_all at strings (omega arith)) ∙ no_nul_in_nothing in
    rw none refl

pub ruleset past = (string_past)
