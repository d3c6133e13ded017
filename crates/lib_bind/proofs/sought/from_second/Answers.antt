use Rattle.file_cache.specs.Program.{ends}
use Rattle.file_cache.proofs.RunLemmas.{then_ended}
use Rattle.lib_bind.specs.Closing.{IsBindFault, last_of}
use Rattle.lib_bind.specs.Closure.{sought}
use Rattle.lib_bind.specs.declared.sought.Sought.{Sought}
use Rattle.lib_bind.specs.inner.Held.{Meets}
use Rattle.lib_bind.proofs.HeldLemmas.{last_found}
use Rattle.lib_bind.proofs.ProgramLemmas.{gives_holds, made_run}
use Rattle.lib_bind.proofs.sought.from_second.Goals as goal

pub returns-in_err-there-clause-runs : goal.returns-in_err-there-clause-runs
returns-in_err-there-clause-runs g c =
    then_ended g.F.Files.answers IsBindFault (sought c.args.heads.now c.args.second.now c.args.growing) (λ (there : Sought). ends (last_of c.args.first.now there.document there.growing))
    c.in_err-there.field-0.0 _ _ _ c.in_err-there.ensures.runs c.from_residual.ensures.1

pub returns-clause-found : goal.returns-clause-found
returns-clause-found g c =
    gives_holds IsBindFault (Meets c.args.growing) c.last_of.result (last_of c.args.first.now c.in_ok-there.there.document c.in_ok-there.there.growing) c.last_of.ensures
    (last_found c.args.first.now c.args.growing c.in_ok-there.there.document c.in_ok-there.there.growing c.in_ok-there.ensures.found)

pub returns-clause-runs : goal.returns-clause-runs
returns-clause-runs g c =
    made_run g.F.Files.answers IsBindFault (sought c.args.heads.now c.args.second.now c.args.growing) (λ (there : Sought). last_of c.args.first.now there.document there.growing)
    c.in_ok-there.there c.last_of.result _ _ c.in_ok-there.ensures.runs c.last_of.ensures
