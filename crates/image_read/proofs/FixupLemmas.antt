-- The search for a segment by its index, and the walk along a chain.
use Rattle.std.proofs.Common.{◌≡◌, ℕ, suc, ◌+◌, ◌-◌, ◌*◌, ◌%◌, ◌<◌, ◌≤◌, ◌==◌, Bool, true, false, List, [], ◌∷◌, Option, Some, None, Result, Ok, Err, if◌then◌else◌, refl, sym, ap, ◌∙◌, arith}
use Rattle.mo_types.specs.Gives.{◌>>=◌}
use Rattle.mo_format.specs.Segment.{segment_command_at}
use Rattle.image_read.specs.Commands.{cmdsize}
use Rattle.image_read.specs.Fixups.{chain_from, held_at, held_on, holding_from, next_of, pointer_at, taken}
use Rattle.image_read.specs.Mapped.{holds, is_segment}
use Rattle.image_read.specs.declared.fixups.FixupRead.{FixupRead}
use Rattle.image_read.specs.declared.fixups.FixupRead.TheVariants.{Broken}

-- no segment before a place holds an address, of i commands with this number of segments
pub record IsCounting (image : List ℕ) (address n i at index : ℕ) : Type 0 where
  pub same : holding_from image address index (n - i) at ≡ holding_from image address 0 n 32
  pub few : index ≤ i

pub count_starts : (image : List ℕ) (address n : ℕ) → IsCounting image address n 0 32 0
count_starts image address n = record { same = let e : n - 0 ≡ n = omega arith in rw e refl; few = omega arith }

pub count_other : (image : List ℕ) (address n i at index : ℕ) → IsCounting image address n i at index → i < n → is_segment image at ≡ false → IsCounting image address n (i + 1) (at + cmdsize image at) index
unfolding holding_from
count_other image address n i at index counting more other = record {
  same =
      let e : n - i ≡ suc (n - (i + 1)) = omega arith in
      let here : holding_from image address index (n - i) at ≡ holding_from image address index (n - (i + 1)) (at + cmdsize image at) = rw (e, other) refl in
      sym here ∙ counting.same;
  few = let f : index ≤ i = counting.few in omega arith;
}

pub count_segment : (image : List ℕ) (address n i at index : ℕ) → IsCounting image address n i at index → i < n → is_segment image at ≡ true → holds address (segment_command_at image at) ≡ false → IsCounting image address n (i + 1) (at + cmdsize image at) (index + 1)
unfolding holding_from
count_segment image address n i at index counting more is other = record {
  same =
      let e : n - i ≡ suc (n - (i + 1)) = omega arith in
      let here : holding_from image address index (n - i) at ≡ holding_from image address (index + 1) (n - (i + 1)) (at + cmdsize image at) = rw (e, is, other) refl in
      sym here ∙ counting.same;
  few = let f : index ≤ i = counting.few in omega arith;
}

pub count_finds : (image : List ℕ) (address n i at index : ℕ) → IsCounting image address n i at index → i < n → is_segment image at ≡ true → holds address (segment_command_at image at) ≡ true → Some (record { index = index; vmaddr = (segment_command_at image at).vmaddr }) ≡ holding_from image address 0 n 32
unfolding holding_from
count_finds image address n i at index counting more is found =
    let e : n - i ≡ suc (n - (i + 1)) = omega arith in
    let here : holding_from image address index (n - i) at ≡ Some (record { index = index; vmaddr = (segment_command_at image at).vmaddr }) = rw (e, is, found) refl in
    sym here ∙ counting.same

pub count_ends : (image : List ℕ) (address n i at index : ℕ) → IsCounting image address n i at index → n ≤ i → None ≡ holding_from image address 0 n 32
unfolding holding_from
count_ends image address n i at index counting past =
    let e : n - i ≡ 0 = omega arith in
    let none : holding_from image address index (n - i) at ≡ None = rw e refl in
    sym none ∙ counting.same

pub ruleset counts = (count_starts, count_other, count_segment, count_finds, count_ends)

-- what the pointers from a place on hold at a place that is sought, unless it was found before
abbrev pub merged : Option ℕ → ℕ → Result (List (ℕ × ℕ)) FixupRead → Result (Option ℕ) FixupRead
merged None place chain = chain >>= λ pointers. Ok (held_at place pointers)
merged (Some word) place chain = chain >>= λ pointers. Ok (Some word)

-- the chain is followed as far as a place
pub record IsChasing (image : List ℕ) (base start place n i at : ℕ) (held : Option ℕ) : Type 0 where
  pub same : merged held place (chain_from image base (n - i) at) ≡ (chain_from image base n start >>= λ pointers. Ok (held_at place pointers))

pub chase_starts : (image : List ℕ) (base start place n : ℕ) → IsChasing image base start place n 0 start None
chase_starts image base start place n = record { same = let e : n - 0 ≡ n = omega arith in rw e refl }

if_taken : (b : Bool) (place word : ℕ) (others : List (ℕ × ℕ)) → Ok (if b then Some word else held_at place others) ≡ merged (if b then Some word else None) place (Ok others)
if_taken true place word others = refl
if_taken false place word others = refl

if_broken : (b : Bool) (place word : ℕ) (e : FixupRead) → Err e ≡ merged (if b then Some word else None) place (Err e)
if_broken true place word e = refl
if_broken false place word e = refl

merged_on : (place at word : ℕ) (held : Option ℕ) (rest : Result (List (ℕ × ℕ)) FixupRead) → merged held place (rest >>= λ others. Ok ((at, word) ∷ others)) ≡ merged (taken place at word held) place rest
merged_on place at word None (Err e) = if_broken (at == place) place word e
merged_on place at word None (Ok others) = if_taken (at == place) place word others
merged_on place at word (Some other) (Err e) = refl
merged_on place at word (Some other) (Ok others) = refl

if_last : (b : Bool) (place word : ℕ) → merged (if b then Some word else None) place (Ok []) ≡ Ok (if b then Some word else None)
if_last true place word = refl
if_last false place word = refl

merged_last : (place at word : ℕ) (held : Option ℕ) → merged held place (Ok ((at, word) ∷ [])) ≡ Ok (taken place at word held)
merged_last place at word None = refl
merged_last place at word (Some other) = refl

merged_broken : (place : ℕ) (held : Option ℕ) (e : FixupRead) → merged held place (Err e) ≡ Err e
merged_broken place None e = refl
merged_broken place (Some word) e = refl

pub chase_goes_on : (image : List ℕ) (base start place i at : ℕ) (held : Option ℕ) (word : ℕ) → IsChasing image base start place 0x1001 i at held → i < 0x1001 → Some word ≡ pointer_at image base at → (next_of word == 0) ≡ false → IsChasing image base start place 0x1001 (i + 1) (at + 4 * next_of word) (taken place at word held)
unfolding chain_from
chase_goes_on image base start place i at held word chasing more there other =
    let e : 0x1001 - i ≡ suc (0x1001 - (i + 1)) = omega arith in
    let here : chain_from image base (0x1001 - i) at ≡ (chain_from image base (0x1001 - (i + 1)) (at + 4 * next_of word) >>= λ rest. Ok ((at, word) ∷ rest)) = rw (e, ← there, other) refl in
    record { same = sym (merged_on place at word held (chain_from image base (0x1001 - (i + 1)) (at + 4 * next_of word))) ∙ ap (merged held place) (sym here) ∙ chasing.same }

pub chase_ends : (image : List ℕ) (base start place i at : ℕ) (held : Option ℕ) (word : ℕ) → IsChasing image base start place 0x1001 i at held → i < 0x1001 → Some word ≡ pointer_at image base at → (next_of word == 0) ≡ true → Ok (taken place at word held) ≡ held_on image base start place
unfolding chain_from held_on
chase_ends image base start place i at held word chasing more there last =
    let e : 0x1001 - i ≡ suc (0x1001 - (i + 1)) = omega arith in
    let here : chain_from image base (0x1001 - i) at ≡ Ok ((at, word) ∷ []) = rw (e, ← there, last) refl in
    sym (merged_last place at word held) ∙ ap (merged held place) (sym here) ∙ chasing.same

pub chase_stops : (image : List ℕ) (base start place i at : ℕ) (held : Option ℕ) → IsChasing image base start place 0x1001 i at held → i < 0x1001 → None ≡ pointer_at image base at → Err Broken ≡ held_on image base start place
unfolding chain_from held_on
chase_stops image base start place i at held chasing more none =
    let e : 0x1001 - i ≡ suc (0x1001 - (i + 1)) = omega arith in
    let here : chain_from image base (0x1001 - i) at ≡ Err Broken = rw (e, ← none) refl in
    sym (merged_broken place held Broken) ∙ ap (merged held place) (sym here) ∙ chasing.same

pub chase_runs_out : (image : List ℕ) (base start place i at : ℕ) (held : Option ℕ) → IsChasing image base start place 0x1001 i at held → 0x1001 ≤ i → Err Broken ≡ held_on image base start place
unfolding chain_from held_on
chase_runs_out image base start place i at held chasing past =
    let e : 0x1001 - i ≡ 0 = omega arith in
    let here : chain_from image base (0x1001 - i) at ≡ Err Broken = rw e refl in
    sym (merged_broken place held Broken) ∙ ap (merged held place) (sym here) ∙ chasing.same

pub ruleset chases = (chase_starts, chase_goes_on, chase_ends, chase_stops, chase_runs_out)

pub page_begins : (address vmaddr : ℕ) → vmaddr ≤ address → (address - vmaddr) % 0x4000 ≤ address
page_begins address vmaddr above = omega arith

pub ruleset pages = (page_begins)
