use Rattle.std.proofs.Common.{◌≡◌, ℕ, List, sym}
use Rattle.mo_types.specs.declared.loaded.LoadedFile.{LoadedFile}
use Rattle.symbol_winners.specs.Found.{found}
use Rattle.symbol_winners.specs.inner.Tables.{AreFirsts, strong_among}
use Rattle.symbol_winners.specs.declared.firsts.Firsts.{Firsts}
use Rattle.symbol_winners.proofs.StrongLemmas.{strong_length}
use Rattle.symbol_winners.proofs.DuplicateLemmas.{is_duplicate}
use Rattle.symbol_winners.proofs.duplicates.duplicate.Goals as goal

are : (names : List (List ℕ)) (table slice : List Firsts) (files read : List LoadedFile) → AreFirsts names (strong_among (found read)) table → read ≡ files → slice ≡ table → AreFirsts names (strong_among (found files)) slice
are names table slice files read h e f = rw (f, sym e) h

pub least_pair-requires-clause-table : goal.least_pair-requires-clause-table
least_pair-requires-clause-table c = strong_length c.args.names.now c.as_slice-2.result.now _ (are c.args.names.now c.in_ok-table.table.items c.as_slice-2.result.now c.args.loaded.now.files c.as_slice.result.now c.in_ok-table.ensures.firsts c.as_slice.ensures c.as_slice-2.ensures.value)

pub returns : goal.returns
returns c =
    is_duplicate c.args.loaded.now.files c.args.names.now c.as_slice-2.result.now c.least_pair.result c.requires.named
    (are c.args.names.now c.in_ok-table.table.items c.as_slice-2.result.now c.args.loaded.now.files c.as_slice.result.now c.in_ok-table.ensures.firsts c.as_slice.ensures c.as_slice-2.ensures.value)
    c.least_pair.ensures
