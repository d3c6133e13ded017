use Rattle.std.proofs.Common.{Some, length, subst}
use Rattle.lib_bind.specs.inner.Held.{IsOf}
use Rattle.lib_bind.proofs.HeldLemmas.{there_found}
use Rattle.lib_bind.proofs.SoughtLemmas.{second_fetched, second_here}
use Rattle.lib_bind.proofs.sought.second_of.Goals as goal

pub returns-in-Some-clause-found : goal.returns-in-Some-clause-found
returns-in-Some-clause-found g c =
    there_found c.args.there.growing (Some c.in-Some.document) c.requires.there.grown (subst (IsOf (length c.args.there.growing.documents)) c.in-Some.is c.requires.document)

pub returns-in-Some-clause-runs : goal.returns-in-Some-clause-runs
returns-in-Some-clause-runs g c = second_here g.F.Files.answers c.args.heads.now c.args.first.now c.args.second.now c.args.there.document c.in-Some.document c.args.there.growing _ c.in-Some.is

pub returns-in-None-clause-runs : goal.returns-in-None-clause-runs
returns-in-None-clause-runs g c =
    second_fetched g.F.Files.answers c.args.heads.now c.args.first.now c.args.second.now c.args.there.document c.args.there.growing _ _ _ c.in-None.is c.from_second.ensures.runs
