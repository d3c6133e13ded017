use Rattle.std.specs.Prelude.{slice_index_or}
use Rattle.resolve.specs.inner.Scoped.{names_of}
use Rattle.resolve.proofs.PoolLemmas.{at_number}
use Rattle.resolve.proofs.goals.put_symbol.Goals as goal

pub returns-then-number-len-clause-place : goal.returns-then-number-len-clause-place
returns-then-number-len-clause-place c = λ d.
    let s = c.args.scope.now in
    at_number s.loaded.now.files s.libs.now s.command.now (names_of s) c.args.pool.now.items c.args.file.now c.args.index c.args.number (slice_index_or c.args.file.now.object.symbols c.args.index d)
    (rw c.names.ensures at c.len.ensures.numbering.few) c.requires.names (c.requires.number d) (rw (← c.names.ensures, ← c.len.ensures.value) c.if-number-len.true)
