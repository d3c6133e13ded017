-- How the code holds the pages of a section, and numbers that stand in a list once each.
use Rattle.std.specs.Prelude.{ℕ, ◌≡◌, ◌+◌, ◌*◌, ◌/◌, ◌%◌, ◌^◌, ◌<◌, ◌==◌, List, [], ◌∷◌, length, map, slice_index}
use Rattle.std.specs.List.{AllByRecursion, position_or_len}
use Rattle.std.specs.List.Sorted.{IsNonDecreasingBy}
use Rattle.image_format.specs.declared.unwind.UnwindIndexEntry.{UnwindIndexEntry}
use Rattle.image_format.specs.declared.unwind.UnwindLsdaEntry.{UnwindLsdaEntry}
use Rattle.image_format.specs.declared.unwind.RegularPageEntry.{RegularPageEntry}
use Rattle.unwind_out.specs.declared.cut.Page.{Page}
use Rattle.unwind_out.specs.Pages.{IsNear, IsCompressible, encodings, field, first_function, lsda_place, page_bytes}

-- each number is the first of its value
pub record AreFirst (numbers : List ℕ) : Type 0 where
  pub each : (k : ℕ) → k < length numbers → position_or_len (λ other. other == slice_index numbers k) numbers ≡ k

-- which guess is that of a number: the high bits of its product with a large odd number
unfoldable pub guess_place : ℕ → ℕ
guess_place number = number * 0x9e3779b1 % 2 ^ 32 / 2 ^ 20

-- numbers that stand there once each, and have a guess each
pub record AreKnown (numbers guesses : List ℕ) : Type 0 where
  pub once : AreFirst numbers
  pub seen : (k : ℕ) → k < length numbers → 0 < slice_index guesses (guess_place (slice_index numbers k))

-- the rows on language-specific data are by rising function
pub record AreRising (lsdas : List UnwindLsdaEntry) : Type 0 where
  pub each : IsNonDecreasingBy (λ row. row.function_offset) lsdas

-- the rows aren't far from the first function of their page
pub record AreNear (first : ℕ) (rows : List RegularPageEntry) : Type 0 where
  pub each : AllByRecursion (IsNear first) rows

-- the encodings of the rows are among the numbers
pub record AreThere (numbers : List ℕ) (rows : List RegularPageEntry) : Type 0 where
  pub each : AllByRecursion (λ row. position_or_len (λ other. other == row.encoding) numbers < length numbers) rows

-- the entry of the index for a page at a place, which has 4 bytes
abbrev pub entry_of : ℕ → List UnwindLsdaEntry → ℕ → List RegularPageEntry → UnwindIndexEntry
entry_of lsda_at lsdas at rows =
    record { function_offset = first_function rows; page_offset = at; lsda_offset = field (lsda_place lsda_at lsdas (first_function rows)) }

-- the rows of pages
abbrev pub held : List Page → List (List RegularPageEntry)
held pages = map (λ page. page.rows.now) pages

-- a page of more rows than a regular one can be a compressed one, and these are its encodings
abbrev pub IsHeld : Page → Type 0
IsHeld page = 511 < length page.rows.now → IsCompressible page.rows.now × (page.encodings.items ≡ encodings page.rows.now)

-- how many bytes pages have
unfoldable pub page_sizes : List (List RegularPageEntry) → ℕ
page_sizes [] = 0
page_sizes (page ∷ pages) = length (page_bytes page) + page_sizes pages

-- how many bytes a section has with so many slots and rows on language-specific data
abbrev pub section_size : ℕ → ℕ → List (List RegularPageEntry) → ℕ
section_size slots lsdas pages = 28 + 4 * slots + 12 * (length pages + 1) + 8 * lsdas + page_sizes pages
