-- What stands in the file for each pointer (`fixup-chains.h`: dyld_chained_ptr_64_rebase, dyld_chained_ptr_64_bind).
use Rattle.std.specs.Prelude.{ℕ, ◌%◌, ◌^◌, nat_lt, Bool, ℤ, pos, negsuc, List, map, position, Option, Some, None, unwrap_or, if◌then◌else◌}
use Rattle.std.specs.Int.{cast_unsigned, w64}
use Rattle.std.specs.Ordering.{eq_by_cmp}
use Rattle.image_format.specs.ChainedPointer.{bind_word, rebase_word}
use Rattle.fixup_chain.specs.ImportOrder.{Import, compare_imports}
use Rattle.fixup_chain.specs.Imports.{import_of, is_bound}
use Rattle.fixup_chain.specs.Places.{addresses_of, steps_to_next}
use Rattle.fixup_chain.specs.declared.chains.ChainWord.{ChainWord}
use Rattle.fixup_chain.specs.declared.chains.Fixup.{Fixup}

-- the number of an import
unfoldable pub number_of : List Import → Import → ℕ
number_of imports import = unwrap_or (position (eq_by_cmp compare_imports import) imports) 0

-- the addend in the word of a bind: in the wide form its import has it
abbrev pub word_addend : Bool → ℤ → ℕ
word_addend wide addend = if wide then 0 else cast_unsigned w64 addend % 2 ^ 8

-- the offset, where a rebase has room for it
abbrev pub in_rebase : ℤ → Option ℕ
in_rebase (pos n) = if nat_lt n (2 ^ 36) then Some n else None
in_rebase (negsuc n) = None

-- the word of a pointer, by the offset of what it leads to from the image's first address, and by the distance to the
-- next one of its page
unfoldable pub word_by : Bool → List Import → ℤ → ℕ → Fixup → ℕ
word_by wide imports target next fixup =
    if is_bound fixup.goal
    then bind_word (record { ordinal = number_of imports (import_of wide fixup); addend = word_addend wide fixup.addend; reserved = 0; next = next })
    else rebase_word (record { target = unwrap_or (in_rebase target) 0; high8 = 0; reserved = 0; next = next })

-- the word of a pointer among those of some addresses, and its place
unfoldable pub chain_word : (Fixup → ℤ) → Bool → List Import → List ℕ → Fixup → ChainWord
chain_word target wide imports addresses fixup = record {
  address = fixup.address;
  word = word_by wide imports (target fixup) (steps_to_next addresses fixup.address) fixup;
}

-- the words of all pointers, by where each leads
unfoldable pub words_of : (Fixup → ℤ) → Bool → List Import → List Fixup → List ChainWord
words_of target wide imports fixups = map (chain_word target wide imports (addresses_of fixups)) fixups
