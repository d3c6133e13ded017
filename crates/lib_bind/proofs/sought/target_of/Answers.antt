use Rattle.std.proofs.Common.{Some, length, subst}
use Rattle.lib_bind.specs.inner.Held.{IsOf}
use Rattle.lib_bind.proofs.HeldLemmas.{there_found}
use Rattle.lib_bind.proofs.SoughtLemmas.{target_fetched, target_here}
use Rattle.lib_bind.proofs.sought.target_of.Goals as goal

pub returns-in-Some-clause-found : goal.returns-in-Some-clause-found
returns-in-Some-clause-found g c =
    there_found c.args.growing (Some c.in-Some.document) c.requires.there.grown (subst (IsOf (length c.args.growing.documents)) c.in-Some.is c.requires.here)

pub returns-in-Some-clause-runs : goal.returns-in-Some-clause-runs
returns-in-Some-clause-runs g c = target_here g.F.Files.answers c.args.heads.now c.args.command.now.syslibroot c.args.reexport.now c.in-Some.document c.args.growing _ c.in-Some.is

pub returns-in-None-clause-runs : goal.returns-in-None-clause-runs
returns-in-None-clause-runs g c = target_fetched g.F.Files.answers c.args.heads.now c.args.command.now.syslibroot c.args.reexport.now c.args.growing _ _ _ c.in-None.is c.at_paths.ensures.runs
