use Rattle.std.proofs.Common.{IfSome, Option, sym, subst}
use Rattle.fixup_chain.specs.declared.import_row.ImportRow.{ImportRow}
use Rattle.fixup_chain.specs.inner.Held.{StandsAt}
use Rattle.fixup_chain.proofs.UseLemmas.{row_there}
use Rattle.fixup_chain.proofs.wide.note.Goals as goal

pub returns-in_ok-place-in-Some-clause-place : goal.returns-in_ok-place-in-Some-clause-place
returns-in_ok-place-in-Some-clause-place c =
    subst (λ (r : Option ImportRow). IfSome r (λ k. StandsAt c.insert_full.new.self.keys c.in_ok-place-in-Some.place k)) (sym c.in-Some.is)
    (row_there c.insert_full.new.self.keys c.in-Some.row c.in_ok-place-in-Some.place c.in_ok-place-in-Some.ensures.stored)
