use Rattle.std.proofs.Common.{refl, sym, ◌∙◌}
use Rattle.file_cache.proofs.OneLemmas.{kept_run, no_run}
use Rattle.file_cache.proofs.asking.ask.Goals as goal

pub returns-in_err-file : goal.returns-in_err-file
returns-in_err-file g c = no_run g.F.Files.answers _ _ _ c.from_residual.ensures.1

pub returns-in-Some : goal.returns-in-Some
returns-in-Some g c = kept_run g.F.Files.answers c.args.path.now c.in-Some.file c.args.cache.now _ refl (sym c.in_ok-file.ensures ∙ c.in-Some.is)
