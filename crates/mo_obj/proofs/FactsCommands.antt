-- What the header and the commands tell.
use Rattle.std.proofs.Common.{◌≡◌, ◌⊎◌, ℕ, zero, suc, ◌+◌, ◌<◌, ◌≤◌, Bool, true, false, cond, not, nat_lt, List, [], ◌∷◌, length, find, slice_get, Option, Some, None, Ok, Err, if◌then◌else◌, inl, inr, ⊎_elim, refl, sym, ap, subst, ◌∙◌, arith, tests}
use Rattle.mo_types.specs.Gives.{◌>>=◌}
use Rattle.mo_types.specs.declared.cause.Feature.TheVariants.{FileType, Machine}
use Rattle.mo_types.specs.declared.cause.Rule.TheVariants as rule
use Rattle.mo_types.specs.declared.object_fault.ObjFault.TheVariants.{Malformed, Unsupported}
use Rattle.mo_obj.specs.Commands.{bad_segment, commands_end, commands_from, commands_of, commands_of_kind, frame_of, is_broken, is_command, is_whole_segment, segment_fault, size_at}
use Rattle.mo_obj.specs.Faults.{keeps}
use Rattle.mo_obj.specs.Header.{header_of, is_arm64, is_relocatable}
use Rattle.mo_obj.specs.Parts.{commands_in, frame_in, header_in, places_from, segments_in, symtabs_in}
use Rattle.mo_obj.specs.Rules.{IsBadSegment, IsBrokenCommand, IsBrokenSegment, IsIn, IsLaterIn}
use Rattle.mo_obj.proofs.FactsLeast.{Climbs, IsLeast, IsPassing, both_ways, filter_climbs, later_least, least_alike, least_of_two, not_below, passing_least}
use Rattle.mo_obj.proofs.FactsRules.{Holds, IsReadBelow, Tells, kept, one_more}
use Rattle.mo_format.specs.declared.loader.TheConstants.{LC_SEGMENT_64, LC_SYMTAB}

pub below : (n m : ℕ) → true ≡ nat_lt n m → n < m
below n m is = search tests

pub not_under : (n m : ℕ) → false ≡ nat_lt n m → m ≤ n
not_under n m is = search tests

is_short : (n : ℕ) → nat_lt n 32 ≡ true → n < 32
is_short n is = below n 32 (sym is)

is_long : (n : ℕ) → nat_lt n 32 ≡ false → 32 ≤ n
is_long n is = not_under n 32 (sym is)

header_by : (bytes : List ℕ) (short arm relocatable : Bool) → nat_lt (length bytes) 32 ≡ short → is_arm64 (header_in bytes) ≡ arm → is_relocatable (header_in bytes) ≡ relocatable → Tells bytes (IsReadBelow bytes 1 (header_in bytes)) (if short then Err (Malformed 0 rule.Header) else if not arm then Err (Unsupported Machine) else if not relocatable then Err (Unsupported FileType) else Ok (header_in bytes))
unfolding Tells
header_by bytes true arm relocatable short is also = record {
  target = λ behind. absurd (omega arith);
  earlier = λ other less at fails. absurd (omega arith);
  fails = record { short = is_short (length bytes) short; start = refl };
  least = λ at less fails. absurd (omega arith);
}
header_by bytes false false relocatable long is also = inl (record { header = is_long (length bytes) long; is = inl (is, refl) })
header_by bytes false true false long is also = inl (record { header = is_long (length bytes) long; is = inr (is, also, refl) })
header_by bytes false true true long is also = record {
  same = refl;
  holds = one_more bytes rule.Header refl (record { machine = is; filetype = also })
      (λ other less at fails. absurd (omega arith))
      (λ at fails. (let short : length bytes < 32 = fails.short in let enough : 32 ≤ length bytes = is_long (length bytes) long in absurd (omega arith)));
}

pub header_told : (bytes : List ℕ) → Tells bytes (IsReadBelow bytes 1 (header_in bytes)) (header_of bytes)
unfolding header_of header_in
header_told bytes = header_by bytes (nat_lt (length bytes) 32) (is_arm64 (header_in bytes)) (is_relocatable (header_in bytes)) refl refl refl

places_climb : (bytes : List ℕ) (n at low : ℕ) → low ≤ at → Climbs low (places_from bytes n at)
places_climb bytes zero at low above = tt
places_climb bytes (suc n) at low above = (above, places_climb bytes n (at + size_at bytes at) at (omega arith))

with_first : (at : ℕ) (places : List ℕ) (found : Option ℕ) → (keeps rule.Commands found places >>= λ others. Ok (at ∷ others)) ≡ keeps rule.Commands found (at ∷ places)
with_first at places None = refl
with_first at places (Some place) = refl

walked_by : (bytes : List ℕ) (end n at : ℕ) (broken : Bool) (next : ℕ) → commands_from bytes end n next ≡ keeps rule.Commands (find (is_broken bytes end) (places_from bytes n next)) (places_from bytes n next) → (if broken then Err (Malformed at rule.Commands) else commands_from bytes end n next >>= λ others. Ok (at ∷ others)) ≡ keeps rule.Commands (cond broken (Some at) (find (is_broken bytes end) (places_from bytes n next))) (at ∷ places_from bytes n next)
walked_by bytes end n at true next rest = refl
walked_by bytes end n at false next rest =
    ap (λ read. read >>= λ others. Ok (at ∷ others)) rest
    ∙ with_first at (places_from bytes n next) (find (is_broken bytes end) (places_from bytes n next))

walked : (bytes : List ℕ) (end n at : ℕ) → commands_from bytes end n at ≡ keeps rule.Commands (find (is_broken bytes end) (places_from bytes n at)) (places_from bytes n at)
walked bytes end zero at = refl
walked bytes end (suc n) at = walked_by bytes end n at (is_broken bytes end at) (at + size_at bytes at) (walked bytes end n (at + size_at bytes at))

command_least : (bytes : List ℕ) → IsLeast (IsBrokenCommand bytes) (find (is_broken bytes (commands_end bytes (header_in bytes))) (commands_in bytes))
unfolding commands_in
command_least bytes = least_alike
    (IsPassing (is_broken bytes (commands_end bytes (header_in bytes))) (places_from bytes (header_in bytes).ncmds 32)) (IsBrokenCommand bytes)
    (find (is_broken bytes (commands_end bytes (header_in bytes))) (places_from bytes (header_in bytes).ncmds 32))
    (λ place has. record { command = has.is; broken = has.passes })
    (λ place has. record { is = has.command; passes = has.broken })
    (passing_least (is_broken bytes (commands_end bytes (header_in bytes))) 32 (places_from bytes (header_in bytes).ncmds 32) (places_climb bytes (header_in bytes).ncmds 32 32 (omega arith)))

commands_kept : (bytes : List ℕ) → commands_of bytes (header_in bytes) ≡ keeps rule.Commands (find (is_broken bytes (commands_end bytes (header_in bytes))) (commands_in bytes)) (commands_in bytes)
unfolding commands_of commands_in
commands_kept bytes = walked bytes (commands_end bytes (header_in bytes)) (header_in bytes).ncmds 32

pub commands_told : (bytes : List ℕ) → Holds bytes 1 → Tells bytes (IsReadBelow bytes 2 (commands_in bytes)) (commands_of bytes (header_in bytes))
commands_told bytes holds = subst (Tells bytes (IsReadBelow bytes 2 (commands_in bytes))) (sym (commands_kept bytes))
    (kept bytes rule.Commands (commands_in bytes) (find (is_broken bytes (commands_end bytes (header_in bytes))) (commands_in bytes)) refl holds (command_least bytes))

-- a segment that isn't whole, or one behind the first
abbrev IsBadOf : List ℕ → List ℕ → ℕ → Type 0
IsBadOf bytes places place = ((IsIn places place × (is_whole_segment bytes place ≡ false)) ⊎ IsLaterIn places place)

whole_at : (bytes : List ℕ) (at place : ℕ) (others : List ℕ) → is_whole_segment bytes at ≡ true → IsBadOf bytes (at ∷ others) place → IsIn others place
whole_at bytes at place others whole (inl ((zero, has), broken)) = let same : at ≡ place = cc in absurd (both_ways (is_whole_segment bytes place) (ap (is_whole_segment bytes) (sym same) ∙ whole) broken)
whole_at bytes at place others whole (inl ((suc i, has), broken)) = (i, has)
whole_at bytes at place others whole (inr (i, has)) = (i, has)

not_before : (low : ℕ) (places : List ℕ) (place : ℕ) → Climbs low places → IsIn places place → low ≤ place
not_before low places place climbs has = not_below low places has.0 place climbs has.1

bad_first : (bytes : List ℕ) (at : ℕ) (others : List ℕ) (whole : Bool) → is_whole_segment bytes at ≡ whole → Climbs at others → IsLeast (IsBadOf bytes (at ∷ others)) (if whole then slice_get others 0 else Some at)
bad_first bytes at [] true whole climbs = λ place bad. (let has : IsIn [] place = whole_at bytes at place [] whole bad in let none : None ≡ Some place = has.1 in absurd (cc))
bad_first bytes at (second ∷ others) true whole climbs = (
  inr (zero, refl),
  λ place less bad.
      let above : second ≤ place = not_before second (second ∷ others) place (omega arith, climbs.1) (whole_at bytes at place (second ∷ others) whole bad) in
      absurd (omega arith),
)
bad_first bytes at others false broken climbs = (
  inl ((zero, refl), broken),
  λ place less bad. (let above : at ≤ place = not_before at (at ∷ others) place (omega arith, climbs) (anywhere bad) in absurd (omega arith)),
)
  where
    anywhere : {place : ℕ} → IsBadOf bytes (at ∷ others) place → IsIn (at ∷ others) place
    anywhere (inl (has, bad)) = has
    anywhere (inr (i, has)) = (suc i, has)

bad_segment_least : (bytes : List ℕ) (low : ℕ) (places : List ℕ) → Climbs low places → IsLeast (IsBadOf bytes places) (bad_segment bytes places)
bad_segment_least bytes low [] climbs = λ place bad. ⊎_elim (λ has. (let none : None ≡ Some place = has.0.1 in absurd (cc))) (λ has. (let none : None ≡ Some place = has.1 in absurd (cc))) bad
bad_segment_least bytes low (at ∷ others) climbs = bad_first bytes at others (is_whole_segment bytes at) refl climbs.1

commands_climb : (bytes : List ℕ) → Climbs 32 (commands_in bytes)
unfolding commands_in
commands_climb bytes = places_climb bytes (header_in bytes).ncmds 32 32 (omega arith)

kind_climbs : (bytes : List ℕ) (kind : ℕ) → Climbs 32 (commands_of_kind bytes kind (commands_in bytes))
unfolding commands_of_kind
kind_climbs bytes kind = filter_climbs (is_command bytes kind) 32 (commands_in bytes) (commands_climb bytes)

segment_least : (bytes : List ℕ) → IsLeast (IsBadSegment bytes) (segment_fault bytes (commands_in bytes))
segment_least bytes = least_of_two
    (λ p. IsBrokenSegment bytes p ⊎ IsLaterIn (segments_in bytes) p) (IsLaterIn (symtabs_in bytes))
    (bad_segment bytes (segments_in bytes)) (slice_get (symtabs_in bytes) 1)
    (least_alike (IsBadOf bytes (segments_in bytes)) (λ p. IsBrokenSegment bytes p ⊎ IsLaterIn (segments_in bytes) p) (bad_segment bytes (segments_in bytes))
    (λ p bad. ⊎_elim (λ has. inl (record { segment = has.0; broken = has.1 })) (λ later. inr later) bad)
    (λ p bad. ⊎_elim (λ has. inl (has.segment, has.broken)) (λ later. inr later) bad)
    (bad_segment_least bytes 32 (segments_in bytes) (kind_climbs bytes LC_SEGMENT_64)))
    (later_least 32 (symtabs_in bytes) (kind_climbs bytes LC_SYMTAB))

pub frame_told : (bytes : List ℕ) → Holds bytes 2 → Tells bytes (IsReadBelow bytes 3 (frame_in bytes)) (frame_of bytes (commands_in bytes))
unfolding frame_of frame_in
frame_told bytes holds = kept bytes rule.Segment (frame_in bytes) (segment_fault bytes (commands_in bytes)) refl holds (segment_least bytes)
