-- Nothing is read but what a reader sees.
use Rattle.std.proofs.Common.{◌≡◌, ℕ, zero, suc, ◌+◌, ◌-◌, ◌*◌, ◌/◌, ◌≤◌, ◌==◌, nat_le, pos, List, [], ◌∷◌, length, drop, Option, Some, None, Result, Ok, Err, if◌then◌else◌, refl, sym, ap, ◌∙◌, ◌%◌, ◌^◌, arith}
use Rattle.std.proofs.lemmas.List.{drop-drop}
use Rattle.std.specs.Option.{option_and_then}
use Rattle.byteorder.specs.Endian.{little_number}
use Rattle.mo_bytes.specs.Number.{number, number_at}
use Rattle.mo_types.specs.Gives.{◌>>=◌}
use Rattle.image_read.specs.Alike.{AreAlike}
use Rattle.mo_types.specs.declared.reference.RefKind.{RefKind}
use Rattle.mo_types.specs.declared.reference.RefKind.TheVariants.{Pointer, Diff64, GotPointer}
use Rattle.image_read.specs.Meaning.{address_or_broken, base_of, denote, in_range, long_in, pointer_or_broken, pointer_with}
use Rattle.image_read.specs.declared.fixups.FixupRead.TheVariants.{Plain, Rebase, Bind, Broken}
use Rattle.image_read.specs.declared.fixups.Holding.{Holding}
use Rattle.image_read.specs.Fixups.{PAGE, answer, below, unless, header_read, holding_of, or_plain, chain_from, fixup_at, fixup_of, fixup_read, held_on, import_at, known, long_at, next_of, page_start, pointer_at, short_at, starts_of, word_at}
use Rattle.image_read.specs.declared.fixups.FixupRead.{FixupRead}
use Rattle.image_read.specs.declared.imports.FixupsHeader.{FixupsHeader}

short_same : (a b : List ℕ) (v : ℕ) → AreAlike a b → short_at a v ≡ short_at b v
unfolding short_at
short_same a b v alike = rw (alike.memory v, alike.memory (v + 1)) refl

word_same : (a b : List ℕ) (v : ℕ) → AreAlike a b → word_at a v ≡ word_at b v
unfolding word_at
word_same a b v alike = rw (short_same a b v alike, short_same a b (v + 2) alike) refl

long_same : (a b : List ℕ) (v : ℕ) → AreAlike a b → long_at a v ≡ long_at b v
unfolding long_at
long_same a b v alike = rw (word_same a b v alike, word_same a b (v + 4) alike) refl

pointer_same : (a b : List ℕ) (base at : ℕ) → AreAlike a b → pointer_at a base at ≡ pointer_at b base at
pointer_same a b base at alike = rw (long_same a b (base + at) alike) refl

chain_same : (a b : List ℕ) (base n at : ℕ) → AreAlike a b → chain_from a base n at ≡ chain_from b base n at
unfolding chain_from
chain_same a b base zero at alike = refl
chain_same a b base (suc n) at alike = λ i.
    known (pointer_same a b base at alike i) >>= λ word.
    if next_of word == 0 then Ok ((at, word) ∷ [])
    else chain_same a b base n (at + 4 * next_of word) alike i >>= λ rest. Ok ((at, word) ∷ rest)

held_same : (a b : List ℕ) (base start place : ℕ) → AreAlike a b → held_on a base start place ≡ held_on b base start place
unfolding held_on
held_same a b base start place alike = rw (chain_same a b base 0x1001 start alike) refl

-- numbers of the tables
number_same : (a b : List ℕ) (w d at : ℕ) → drop d a ≡ drop d b → d ≤ at → number w a at ≡ number w b at
unfolding number
number_same a b w d at same behind =
    let e : d + (at - d) ≡ at = omega arith in
    let front : (x : List ℕ) → drop at x ≡ drop (at - d) (drop d x) = λ x. ap (λ n. drop n x) (sym e) ∙ sym (drop-drop (at - d) d x) in
    ap (little_number w) (front a ∙ ap (drop (at - d)) same ∙ sym (front b))

number_at_same : (a b : List ℕ) (w d at : ℕ) → length a ≡ length b → drop d a ≡ drop d b → d ≤ at → number_at w a at ≡ number_at w b at
number_at_same a b w d at size same behind =
    let value : number w a at ≡ number w b at = number_same a b w d at same behind in
    λ i. if nat_le (at + w) (size i) then Some (value i) else None

starts_same : (a b : List ℕ) (header : FixupsHeader) (index : ℕ) → length a ≡ length b → drop header.at a ≡ drop header.at b → starts_of a header index ≡ starts_of b header index
unfolding starts_of
starts_same a b header index size same =
    rw (number_at_same a b 4 header.at (header.at + header.starts_offset) size same (omega arith), number_at_same a b 4 header.at (header.at + header.starts_offset + 4 + 4 * index) size same (omega arith)) refl

page_same : (a b : List ℕ) (d starts page : ℕ) → length a ≡ length b → drop d a ≡ drop d b → d ≤ starts → page_start a starts page ≡ page_start b starts page
unfolding page_start
page_same a b d starts page size same behind =
    rw (number_at_same a b 2 d (starts + 6) size same (omega arith), number_at_same a b 2 d (starts + 20) size same (omega arith), number_at_same a b 2 d (starts + 22 + 2 * page) size same (omega arith)) refl

import_same : (a b : List ℕ) (header : FixupsHeader) (import : ℕ) → length a ≡ length b → drop header.at a ≡ drop header.at b → import_at a header import ≡ import_at b header import
unfolding import_at
import_same a b header import size same =
    rw (number_at_same a b 4 header.at (header.at + header.imports_offset + 4 * import) size same (omega arith), number_at_same a b 8 header.at (header.at + header.imports_offset + 16 * import) size same (omega arith), number_at_same a b 8 header.at (header.at + header.imports_offset + 16 * import + 8) size same (omega arith)) refl

fixup_of_same : (a b : List ℕ) (header : FixupsHeader) (word : ℕ) → length a ≡ length b → drop header.at a ≡ drop header.at b → fixup_of a header word ≡ fixup_of b header word
unfolding fixup_of
fixup_of_same a b header word size same = rw (import_same a b header (word % 2 ^ 24) size same) refl

ok_same : (x y : ℕ) → ◌≡◌ {A = Result ℕ FixupRead} (Ok x) (Ok y) → x ≡ y
ok_same x y e = cc

-- the starts of a segment stand behind the header, step by step
least_by_offset : (at k starts : ℕ) (some : Result ℕ FixupRead) → (some >>= λ n. Ok (at + k + n)) ≡ Ok starts → at ≤ starts
least_by_offset at k starts (Ok n) is = let e : at + k + n ≡ starts = ok_same (at + k + n) starts is in omega arith
least_by_offset at k starts (Err e) is = absurd (let f : ⊥ = cc in f)

least_by_place : (at k starts : ℕ) (offset : Option ℕ) → (known offset >>= λ n. unless 0 n >>= λ m. Ok (at + k + m)) ≡ Ok starts → at ≤ starts
least_by_place at k starts None is = absurd (let f : ⊥ = cc in f)
least_by_place at k starts (Some n) is = least_by_offset at k starts (unless 0 n) is

least_by_index : (at k starts : ℕ) (among : Result (Unit {0}) FixupRead) (offset : Option ℕ) → (among >>= λ u. known offset >>= λ n. unless 0 n >>= λ m. Ok (at + k + m)) ≡ Ok starts → at ≤ starts
least_by_index at k starts (Ok u) offset is = least_by_place at k starts offset is
least_by_index at k starts (Err e) offset is = absurd (let f : ⊥ = cc in f)

least_by_count : (at k index starts : ℕ) (count offset : Option ℕ) → (known count >>= λ c. below index c >>= λ u. known offset >>= λ n. unless 0 n >>= λ m. Ok (at + k + m)) ≡ Ok starts → at ≤ starts
least_by_count at k index starts None offset is = absurd (let f : ⊥ = cc in f)
least_by_count at k index starts (Some c) offset is = least_by_index at k starts (below index c) offset is

starts_least : (image : List ℕ) (header : FixupsHeader) (index starts : ℕ) → starts_of image header index ≡ Ok starts → header.at ≤ starts
unfolding starts_of
starts_least image header index starts is =
    least_by_count header.at header.starts_offset index starts (number_at 4 image (header.at + header.starts_offset)) (number_at 4 image (header.at + header.starts_offset + 4 + 4 * index)) is

bind_same : {A B E : Type 0} (r : Result A E) (f g : A → Result B E) → ((x : A) → r ≡ Ok x → f x ≡ g x) → (r >>= f) ≡ (r >>= g)
bind_same (Ok x) f g same = same x refl
bind_same (Err e) f g same = refl

-- the reading of a fixup, step by step
from_start : List ℕ → FixupsHeader → ℕ → ℕ → ℕ → Result FixupRead FixupRead
from_start image header base place start = held_on image base start place >>= λ held. or_plain held >>= λ word. fixup_of image header word

from_starts : List ℕ → FixupsHeader → ℕ → ℕ → ℕ → Result FixupRead FixupRead
from_starts image header v vmaddr starts =
    page_start image starts ((v - vmaddr) / PAGE) >>= λ start. from_start image header (v - (v - vmaddr) % PAGE) ((v - vmaddr) % PAGE) start

from_holding : List ℕ → FixupsHeader → ℕ → Holding → Result FixupRead FixupRead
from_holding image header v holding = starts_of image header holding.index >>= λ starts. from_starts image header v holding.vmaddr starts

from_header : List ℕ → ℕ → FixupsHeader → Result FixupRead FixupRead
from_header image v header = or_plain (holding_of image v) >>= λ holding. from_holding image header v holding

start_same : (a b : List ℕ) (header : FixupsHeader) (base place start : ℕ) → AreAlike a b → drop header.at a ≡ drop header.at b → from_start a header base place start ≡ from_start b header base place start
unfolding from_start
start_same a b header base place start alike same = λ i.
    held_same a b base start place alike i >>= λ held. or_plain held >>= λ word. fixup_of_same a b header word alike.size same i

starts_read_same : (a b : List ℕ) (header : FixupsHeader) (v vmaddr starts : ℕ) → AreAlike a b → drop header.at a ≡ drop header.at b → header.at ≤ starts → from_starts a header v vmaddr starts ≡ from_starts b header v vmaddr starts
unfolding from_starts
starts_read_same a b header v vmaddr starts alike same behind = λ i.
    page_same a b header.at starts ((v - vmaddr) / PAGE) alike.size same behind i
    >>= λ start. start_same a b header (v - (v - vmaddr) % PAGE) ((v - vmaddr) % PAGE) start alike same i

holding_same : (a b : List ℕ) (header : FixupsHeader) (v : ℕ) (holding : Holding) → AreAlike a b → drop header.at a ≡ drop header.at b → from_holding a header v holding ≡ from_holding b header v holding
unfolding from_holding
holding_same a b header v holding alike same =
    bind_same (starts_of a header holding.index) (from_starts a header v holding.vmaddr) (from_starts b header v holding.vmaddr)
    (λ starts is. starts_read_same a b header v holding.vmaddr starts alike same (starts_least a header holding.index starts is))
    ∙ ap (λ r. r >>= from_starts b header v holding.vmaddr) (starts_same a b header holding.index alike.size same)

header_same : (a b : List ℕ) (v : ℕ) (header : FixupsHeader) → AreAlike a b → drop header.at a ≡ drop header.at b → from_header a v header ≡ from_header b v header
unfolding from_header
header_same a b v header alike same = λ i. or_plain (alike.segments v i) >>= λ holding. holding_same a b header v holding alike same i

read_same : (a b : List ℕ) (v : ℕ) → AreAlike a b → fixup_read a v ≡ fixup_read b v
unfolding fixup_read from_header from_holding from_starts from_start
read_same a b v alike =
    bind_same (header_read a) (from_header a v) (from_header b v) (λ header is. header_same a b v header alike (alike.tables header is))
    ∙ ap (λ r. r >>= from_header b v) alike.header

pub fixup_same : (a b : List ℕ) (v : ℕ) → AreAlike a b → fixup_at a v ≡ fixup_at b v
unfolding fixup_at
fixup_same a b v alike = ap answer (read_same a b v alike)

rebase_same : (a b : List ℕ) (number : ℕ) (fixup : FixupRead) → base_of a ≡ base_of b → pointer_with a number fixup ≡ pointer_with b number fixup
rebase_same a b number Plain base = refl
rebase_same a b number (Rebase offset) base = ap (λ from. address_or_broken (option_and_then (λ first. in_range (pos (first + offset))) from)) base
rebase_same a b number (Bind import ordinal addend optional) base = refl
rebase_same a b number Broken base = refl

pointer_by_same : (a b : List ℕ) (p : ℕ) (number : Option ℕ) → AreAlike a b → pointer_or_broken a p number ≡ pointer_or_broken b p number
pointer_by_same a b p None alike = refl
pointer_by_same a b p (Some number) alike = rebase_same a b number (fixup_at a p) alike.base ∙ ap (pointer_with b number) (fixup_same a b p alike)

pointer_field_same : (a b : List ℕ) (p : ℕ) → AreAlike a b → pointer_or_broken a p (long_in a p) ≡ pointer_or_broken b p (long_in b p)
pointer_field_same a b p alike =
    let number : long_in a p ≡ long_in b p = rw (long_same a b p alike) refl in
    pointer_by_same a b p (long_in a p) alike ∙ ap (pointer_or_broken b p) number

pub field_same : (a b : List ℕ) (p : ℕ) (kind : RefKind) → AreAlike a b → denote a p kind ≡ denote b p kind
unfolding denote
field_same a b p Pointer alike = pointer_field_same a b p alike
field_same a b p GotPointer alike = pointer_field_same a b p alike
field_same a b p Diff64 alike = rw (long_same a b p alike) refl
field_same a b p _ alike = rw (word_same a b p alike) refl

pub ruleset alikes = (fixup_same, field_same)
