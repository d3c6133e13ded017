use Rattle.std.proofs.Common.{ap, ◌∙◌}
use Rattle.lib_bind.specs.Paths.{plain_path, stub_path}
use Rattle.lib_bind.proofs.SoughtLemmas.{at_their_paths, short_of_memory}
use Rattle.lib_bind.proofs.sought.at_paths.Goals as goal

pub returns-in_err-first-clause-runs : goal.returns-in_err-first-clause-runs
returns-in_err-first-clause-runs g c = short_of_memory g.F.Files.answers _ _ _ c.from_residual.ensures.1

pub returns-in_err-second-clause-runs : goal.returns-in_err-second-clause-runs
returns-in_err-second-clause-runs g c = short_of_memory g.F.Files.answers _ _ _ c.from_residual-in_err-second.ensures.1

pub returns-clause-runs : goal.returns-clause-runs
returns-clause-runs g c =
    at_their_paths g.F.Files.answers c.args.heads.now c.args.command.now.syslibroot c.args.install.now _ _ c.args.growing _ _ _
    (c.in_ok-first.ensures ∙ ap (stub_path c.args.command.now.syslibroot) c.as_slice.ensures)
    (c.in_ok-second.ensures ∙ ap (plain_path c.args.command.now.syslibroot) c.as_slice-2.ensures) c.fetched.ensures.runs
