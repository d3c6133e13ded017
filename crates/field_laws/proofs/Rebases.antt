-- The offset of a rebase has 36 bits.
use Rattle.std.proofs.Common.{◌≡◌, ℕ, zero, suc, ◌+◌, ◌*◌, ◌%◌, ◌<◌, ◌^◌, ◌==◌, Bool, true, false, nat_le, nat_lt, List, [], ◌∷◌, Option, Some, None, Result, Ok, Err, if◌then◌else◌, subst, arith, ◌≤◌, sym, ◌∙◌}
use Rattle.mo_bytes.specs.Number.{number_at}
use Rattle.mo_types.specs.Gives.{◌>>=◌}
use Rattle.image_format.specs.declared.fixup_chains.TheConstants.{DYLD_CHAINED_IMPORT}
use Rattle.image_read.specs.Commands.{fits}
use Rattle.image_read.specs.Fixups.{answer, below, chain_from, fixup_at, fixup_of, fixup_read, formed, header_for, header_read, held_on, holding_of, import_at, is_offset, known, next_of, or_plain, page_start, pointer_at, starts_of, unless}
use Rattle.image_read.specs.Imports.{fixups_command, header_by}
use Rattle.image_read.specs.Meaning.{base_of}
use Rattle.image_read.specs.declared.fixups.FixupRead.{FixupRead}
use Rattle.image_read.specs.declared.fixups.FixupRead.TheVariants.{Broken, Plain, Rebase}
use Rattle.image_read.specs.declared.imports.FixupsHeader.{FixupsHeader}
use Rattle.field_laws.specs.Pointers.{IsInRange}

abbrev IsShort : FixupRead → Type 0
IsShort (Rebase offset) = offset < 2 ^ 36
IsShort _ = Unit {0}

-- an early answer is short
abbrev EndsShort : {A : Type 0} → Result A FixupRead → Type 0
EndsShort (Ok x) = Unit {0}
EndsShort (Err fixup) = IsShort fixup

-- and so is the last one
abbrev AnswersShort : Result FixupRead FixupRead → Type 0
AnswersShort (Ok fixup) = IsShort fixup
AnswersShort (Err fixup) = IsShort fixup

goes_on : {A B : Type 0} (r : Result A FixupRead) (next : A → Result B FixupRead) → EndsShort r → ((x : A) → EndsShort (next x)) → EndsShort (r >>= next)
goes_on (Ok x) next ends later = later x
goes_on (Err fixup) next ends later = ends

answers : {A : Type 0} (r : Result A FixupRead) (next : A → Result FixupRead FixupRead) → EndsShort r → ((x : A) → AnswersShort (next x)) → AnswersShort (r >>= next)
answers (Ok x) next ends later = later x
answers (Err fixup) next ends later = ends

either : {A : Type 0} (b : Bool) (r s : Result A FixupRead) → EndsShort r → EndsShort s → EndsShort (if b then r else s)
either true r s one other = one
either false r s one other = other

known_ends : {A : Type 0} (o : Option A) → EndsShort (known o)
known_ends None = tt
known_ends (Some x) = tt

plain_ends : {A : Type 0} (o : Option A) → EndsShort (or_plain o)
plain_ends None = tt
plain_ends (Some x) = tt

header_ends : (image : List ℕ) → EndsShort (header_read image)
unfolding header_read
header_ends image = either (fits image) (header_for image (fixups_command image)) (Err Plain) (by (fixups_command image)) tt
  where
    by : (o : Option ℕ) → EndsShort (header_for image o)
    by None = tt
    by (Some command) = goes_on (known (header_by image command)) formed (known_ends (header_by image command)) (λ header. either _ (Ok header) (Err Broken) tt tt)

below_ends : (index n : ℕ) → EndsShort (below index n)
below_ends index n = either (nat_lt index n) (Ok tt) (Err Plain) tt tt

unless_ends : (none number : ℕ) → EndsShort (unless none number)
unless_ends none number = either (number == none) (Err Plain) (Ok number) tt tt

starts_end : (image : List ℕ) (header : FixupsHeader) (index : ℕ) → EndsShort (starts_of image header index)
unfolding starts_of
starts_end image header index =
    goes_on (known (number_at 4 image (header.at + header.starts_offset))) _ (known_ends _) (λ count.
    goes_on (below index count) _ (below_ends index count) (λ among.
    goes_on (known (number_at 4 image (header.at + header.starts_offset + 4 + 4 * index))) _ (known_ends _) (λ offset.
    goes_on (unless 0 offset) _ (unless_ends 0 offset) (λ some. tt))))

page_ends : (image : List ℕ) (starts page : ℕ) → EndsShort (page_start image starts page)
unfolding page_start
page_ends image starts page =
    goes_on (known (number_at 2 image (starts + 6))) _ (known_ends _) (λ format.
    goes_on (is_offset format) _ (either (format == 6) (Ok tt) (Err Broken) tt tt) (λ form.
    goes_on (known (number_at 2 image (starts + 20))) _ (known_ends _) (λ count.
    goes_on (below page count) _ (below_ends page count) (λ among.
    goes_on (known (number_at 2 image (starts + 22 + 2 * page))) _ (known_ends _) (λ start. unless_ends _ start)))))

chain_ends : (image : List ℕ) (base n at : ℕ) → EndsShort (chain_from image base n at)
unfolding chain_from
chain_ends image base zero at = tt
chain_ends image base (suc n) at =
    goes_on (known (pointer_at image base at)) _ (known_ends _) (λ word.
    either (next_of word == 0) (Ok ((at, word) ∷ [])) _ tt
    (goes_on (chain_from image base n (at + 4 * next_of word)) _ (chain_ends image base n (at + 4 * next_of word)) (λ rest. tt)))

held_ends : (image : List ℕ) (base start place : ℕ) → EndsShort (held_on image base start place)
unfolding held_on
held_ends image base start place = goes_on (chain_from image base 0x1001 start) _ (chain_ends image base 0x1001 start) (λ pointers. tt)

import_ends : (image : List ℕ) (header : FixupsHeader) (import : ℕ) → EndsShort (import_at image header import)
unfolding import_at
import_ends image header import =
    either (nat_le header.imports_count import) (Err Broken) _ tt
    (either (header.imports_format == DYLD_CHAINED_IMPORT) _ _
    (goes_on (known (number_at 4 image (header.at + header.imports_offset + 4 * import))) _ (known_ends _) (λ word. tt))
    (goes_on (known (number_at 8 image (header.at + header.imports_offset + 16 * import))) _ (known_ends _) (λ word.
    goes_on (known (number_at 8 image (header.at + header.imports_offset + 16 * import + 8))) _ (known_ends _) (λ addend. tt))))

word_answers : (image : List ℕ) (header : FixupsHeader) (word : ℕ) → AnswersShort (fixup_of image header word)
unfolding fixup_of
word_answers image header word = by (nat_lt word (2 ^ 63))
  where
    bound : Result FixupRead FixupRead
    bound = import_at image header (word % 2 ^ 24) >>= λ import. Ok (Rattle.image_read.specs.Fixups.bind_of word import)

    by : (b : Bool) → AnswersShort (if b then Ok (Rebase (word % 2 ^ 36)) else bound)
    by true = omega arith
    by false = answers (import_at image header (word % 2 ^ 24)) _ (import_ends image header (word % 2 ^ 24)) (λ import. tt)

read_answers : (image : List ℕ) (address : ℕ) → AnswersShort (fixup_read image address)
unfolding fixup_read
read_answers image address =
    answers (header_read image) _ (header_ends image) (λ header.
    answers (or_plain (holding_of image address)) _ (plain_ends _) (λ holding.
    answers (starts_of image header holding.index) _ (starts_end image header holding.index) (λ starts.
    answers (page_start image starts _) _ (page_ends image starts _) (λ start.
    answers (held_on image _ start _) _ (held_ends image _ start _) (λ held.
    answers (or_plain held) _ (plain_ends held) (λ word. word_answers image header word))))))

is_answer : (r : Result FixupRead FixupRead) → AnswersShort r → IsShort (answer r)
is_answer (Ok fixup) short = short
is_answer (Err fixup) short = short

pub rebase_short : (image : List ℕ) (p offset : ℕ) → fixup_at image p ≡ Rebase offset → offset < 2 ^ 36
unfolding fixup_at
rebase_short image p offset e = subst IsShort e (is_answer (fixup_read image p) (read_answers image p))

one_base : (base other : ℕ) → Some base ≡ Some other → base ≡ other
one_base base other e = cc

pub in_range : (image : List ℕ) (p base : ℕ) → base_of image ≡ Some base → base + 2 ^ 36 ≤ 2 ^ 64 → IsInRange image (fixup_at image p)
in_range image p base begins room = λ other offset is rebase.
    let short = rebase_short image p offset rebase in
    let same = one_base base other (sym begins ∙ is) in
    omega (arith, short, same)
