use Rattle.std.proofs.Common.{◌≤◌, length, arith}
use Rattle.std.proofs.lemmas.Bool.{le-leb, leb-true}
use Rattle.fixup_chain.specs.Encoded.{IMPORTS}
use Rattle.fixup_chain.proofs.EncodeLemmas.{are_many}
use Rattle.fixup_chain.proofs.ManyLemmas.{many_rows, too_few}
use Rattle.fixup_chain.proofs.many.has_many_imports.Goals as goal

pub returns-then-fixups-lt-IMPORTS-clause-all : goal.returns-then-fixups-lt-IMPORTS-clause-all
returns-then-fixups-lt-IMPORTS-clause-all c = λ many.
    absurd (too_few c.as_slice-fixups.result.now c.args.fixups.now c.as_slice-fixups.ensures (omega arith) many)

pub returns-clause-only : goal.returns-clause-only
returns-clause-only c = λ told.
    let reach : IMPORTS ≤ length c.in_ok-formed.formed.rows.items = omega (arith, leb-true IMPORTS c.len.result told) in
    are_many c.as_slice-fixups.result.now c.args.fixups.now c.in_ok-formed.formed.wide c.in_ok-formed.formed.rows.items
    c.as_slice-fixups.ensures c.in_ok-formed.ensures.form c.in_ok-formed.ensures.rows reach

pub returns-clause-all : goal.returns-clause-all
returns-clause-all c = λ many.
    let reach : IMPORTS ≤ length c.in_ok-formed.formed.rows.items =
    many_rows c.as_slice-fixups.result.now c.args.fixups.now c.in_ok-formed.formed.wide c.in_ok-formed.formed.rows.items
    c.as_slice-fixups.ensures c.in_ok-formed.ensures.form c.in_ok-formed.ensures.rows many in
    le-leb IMPORTS c.len.result (omega (arith, reach))
