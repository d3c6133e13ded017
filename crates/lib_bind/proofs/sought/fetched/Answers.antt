use Rattle.file_cache.proofs.RunLemmas.{then_ended, then_run}
use Rattle.lib_bind.specs.Closing.{IsBindFault}
use Rattle.lib_bind.specs.Closure.{second_of, sought}
use Rattle.lib_bind.specs.declared.sought.Sought.{Sought}
use Rattle.lib_bind.proofs.HeldLemmas.{met_then, still_there}
use Rattle.lib_bind.proofs.sought.fetched.Goals as goal

pub second_of-requires-clause-there : goal.second_of-requires-clause-there
second_of-requires-clause-there g c = still_there c.args.heads.now c.args.growing _ _ c.requires c.in_ok-there.ensures.found

pub second_of-requires-clause-document : goal.second_of-requires-clause-document
second_of-requires-clause-document g c = c.in_ok-there.ensures.found.there

pub returns-in_err-there-clause-runs : goal.returns-in_err-there-clause-runs
returns-in_err-there-clause-runs g c =
    then_ended g.F.Files.answers IsBindFault (sought c.args.heads.now c.args.first.now c.args.growing)
    (λ (there : Sought). second_of c.args.heads.now c.args.first.now c.args.second.now there.document there.growing)
    c.in_err-there.field-0.0 _ _ _ c.in_err-there.ensures.runs c.from_residual.ensures.1

pub returns-clause-found : goal.returns-clause-found
returns-clause-found g c = met_then c.args.growing c.in_ok-there.there c.second_of.result c.in_ok-there.ensures.found c.second_of.ensures.found

pub returns-clause-runs : goal.returns-clause-runs
returns-clause-runs g c =
    then_run g.F.Files.answers IsBindFault (sought c.args.heads.now c.args.first.now c.args.growing)
    (λ (there : Sought). second_of c.args.heads.now c.args.first.now c.args.second.now there.document there.growing)
    c.in_ok-there.there c.second_of.result _ _ _ c.in_ok-there.ensures.runs c.second_of.ensures.runs
