-- What an entry says, from what its fields say.
use Rattle.std.proofs.Common.{◌≡◌, ℕ, zero, suc, ◌<◌, ◌||◌, Bool, true, false, ltb, Option, Some, None, refl, sym, ◌∙◌, arith}
use Rattle.std.specs.Option.{option_map}
use Rattle.std.proofs.lemmas.Bool.{lt-ltb, le-ltb}
use Rattle.mo_types.specs.declared.key.AtomKey.{AtomKey}
use Rattle.mo_types.specs.declared.key.FileId.{FileId}
use Rattle.mo_types.specs.declared.object.Object.{Object}
use Rattle.mo_types.specs.declared.reference.Target.{Target}
use Rattle.unwind_read.specs.declared.entry.CompactUnwindEntry.{CompactUnwindEntry}
use Rattle.unwind_read.specs.declared.pointers.EntryRelocs.{EntryRelocs}
use Rattle.unwind_read.specs.declared.spans.Span.{Span}
use Rattle.unwind_read.specs.declared.spots.Spot.{Spot}
use Rattle.unwind_read.specs.Found.{found_with}
use Rattle.unwind_read.specs.Rules.{fails_test, has_bad_function, has_bad_lsda, has_bad_personality, has_no_function}
use Rattle.unwind_read.specs.Unwinds.{atom_of, function_of, kept_function, length_of, lsda_of, offset_of, personality_of, span_with}

-- an entry that fails a test says nothing

pub function_fails : (object : Object) (entry : CompactUnwindEntry) (relocs : EntryRelocs) → true ≡ (has_no_function object entry relocs || has_bad_function object entry relocs) → true ≡ fails_test object entry relocs
function_fails object entry relocs e = first (has_no_function object entry relocs) (has_bad_function object entry relocs) _ e
  where
    first : (a b c : Bool) → true ≡ (a || b) → true ≡ (a || (b || c))
    first true b c e = refl
    first false true c e = refl
    first false false c e = e ∙ sym (never e)
      where
        never : true ≡ false → c ≡ false
        never e = cc

pub lsda_fails : (object : Object) (entry : CompactUnwindEntry) (relocs : EntryRelocs) → true ≡ has_bad_lsda object entry relocs → true ≡ fails_test object entry relocs
lsda_fails object entry relocs e = third (has_no_function object entry relocs) (has_bad_function object entry relocs) (has_bad_lsda object entry relocs) _ e
  where
    third : (a b c d : Bool) → true ≡ c → true ≡ (a || (b || (c || d)))
    third true b c d e = refl
    third false true c d e = refl
    third false false c d e = rw (← e) refl

pub personality_fails : (object : Object) (entry : CompactUnwindEntry) (relocs : EntryRelocs) → true ≡ has_bad_personality object entry relocs → true ≡ fails_test object entry relocs
personality_fails object entry relocs e = fourth (has_no_function object entry relocs) (has_bad_function object entry relocs) (has_bad_lsda object entry relocs) (has_bad_personality object entry relocs) _ e
  where
    fourth : (a b c d f : Bool) → true ≡ d → true ≡ (a || (b || (c || (d || f))))
    fourth true b c d f e = refl
    fourth false true c d f e = refl
    fourth false false true d f e = refl
    fourth false false false d f e = rw (← e) refl

pub passes : (object : Object) (entry : CompactUnwindEntry) (relocs : EntryRelocs) → false ≡ (has_no_function object entry relocs || has_bad_function object entry relocs) → false ≡ has_bad_lsda object entry relocs → false ≡ has_bad_personality object entry relocs → false ≡ fails_test object entry relocs
passes object entry relocs function lsda personality = all (has_no_function object entry relocs) (has_bad_function object entry relocs) (has_bad_lsda object entry relocs) (has_bad_personality object entry relocs) function lsda personality
  where
    all : (a b c d : Bool) → false ≡ (a || b) → false ≡ c → false ≡ d → false ≡ (a || (b || (c || (d || false))))
    all true b c d e f g = e
    all false b c d e f g = rw (← e, ← f, ← g) refl

pub failed_says_none : (object : Object) (file : FileId) (place : ℕ) (entry : CompactUnwindEntry) (relocs : EntryRelocs) → true ≡ fails_test object entry relocs → None ≡ option_map (found_with object file place entry relocs) (kept_function object entry relocs)
unfolding kept_function
failed_says_none object file place entry relocs e = rw (← e) refl

pub empty_says_none : (object : Object) (file : FileId) (place : ℕ) (entry : CompactUnwindEntry) (relocs : EntryRelocs) (function : Spot) → false ≡ fails_test object entry relocs → function_of object entry relocs ≡ Some function → length_of entry function ≡ 0 → None ≡ option_map (found_with object file place entry relocs) (kept_function object entry relocs)
unfolding kept_function
empty_says_none object file place entry relocs function e is empty =
    let none : ltb 0 (length_of entry function) ≡ false = le-ltb 0 (length_of entry function) (omega arith) in
    rw (← e, is, none) refl

pub kept_says : (object : Object) (file : FileId) (place : ℕ) (entry : CompactUnwindEntry) (relocs : EntryRelocs) (function : Spot) (atom : AtomKey) (offset length encoding : ℕ) (personality : Option Target) (lsda : Option (AtomKey × ℕ)) (span : Span) → false ≡ fails_test object entry relocs → function_of object entry relocs ≡ Some function → 0 < length_of entry function → atom ≡ atom_of file function → offset ≡ offset_of function → length ≡ length_of entry function → encoding ≡ entry.encoding → personality ≡ personality_of object file entry relocs → lsda ≡ lsda_of object file entry relocs → span ≡ span_with place entry function → Some (record { unwind = record { atom = atom; offset = offset; length = length; encoding = encoding; personality = personality; lsda = lsda }; span = span }) ≡ option_map (found_with object file place entry relocs) (kept_function object entry relocs)
unfolding kept_function
kept_says object file place entry relocs function atom offset length encoding personality lsda span e is some is_atom is_offset is_length is_encoding is_personality is_lsda is_span =
    let more : ltb 0 (length_of entry function) ≡ true = lt-ltb 0 (length_of entry function) some in
    rw (← e, is, more) (rw (is_atom, is_offset, is_length, is_encoding, is_personality, is_lsda, is_span) refl)

pub positive : (n : ℕ) → (n ≡ 0 → ⊥) → 0 < n
positive zero other = absurd (other refl)
positive (suc n) other = omega arith

pub ruleset entries = (function_fails, lsda_fails, personality_fails, passes, failed_says_none, empty_says_none, kept_says)
