use Rattle.file_cache.specs.Program.{ends, file_at}
use Rattle.file_cache.proofs.RunLemmas.{then_ended}
use Rattle.lib_bind.specs.Closing.{IsBindFault, read_at}
use Rattle.lib_bind.specs.declared.bind_fault.BindFault.TheVariants.{ReadFault}
use Rattle.lib_bind.specs.inner.Held.{Finds}
use Rattle.lib_bind.proofs.HeldLemmas.{at_found}
use Rattle.lib_bind.proofs.ProgramLemmas.{gives_holds, made_run}
use Rattle.lib_bind.proofs.sought.sought_new.Goals as goal

pub returns-in_err-file-clause-runs : goal.returns-in_err-file-clause-runs
returns-in_err-file-clause-runs g c =
    then_ended g.F.Files.answers IsBindFault (file_at (ReadFault c.args.path.now) c.args.path.now) (λ file. ends (read_at c.args.heads.now c.args.path.now file c.args.growing))
    c.in_err-file.field-0.0 _ _ _ c.in_err-file.ensures c.from_residual.ensures.1

pub returns-clause-found : goal.returns-clause-found
returns-clause-found g c =
    gives_holds IsBindFault (Finds c.args.growing) c.read_at.result (read_at c.args.heads.now c.args.path.now c.in_ok-file.file c.args.growing) c.read_at.ensures
    (at_found c.args.heads.now c.args.path.now c.in_ok-file.file c.args.growing c.requires.there)

pub returns-clause-runs : goal.returns-clause-runs
returns-clause-runs g c =
    made_run g.F.Files.answers IsBindFault (file_at (ReadFault c.args.path.now) c.args.path.now) (λ file. read_at c.args.heads.now c.args.path.now file c.args.growing)
    c.in_ok-file.file c.read_at.result _ _ c.in_ok-file.ensures c.read_at.ensures
