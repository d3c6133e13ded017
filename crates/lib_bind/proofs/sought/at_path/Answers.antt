use Rattle.std.proofs.Common.{IfSome, length, sym, ◌∙◌, subst}
use Rattle.lib_bind.specs.inner.Held.{IsOf}
use Rattle.lib_bind.proofs.HeldLemmas.{known_there, there_found}
use Rattle.lib_bind.proofs.SoughtLemmas.{known_path, new_path}
use Rattle.lib_bind.proofs.sought.at_path.Goals as goal

pub returns-in-Some-clause-found : goal.returns-in-Some-clause-found
returns-in-Some-clause-found g c =
    there_found c.args.growing c.in-Some.document c.requires.grown
    (subst (λ known. IfSome known (IsOf (length c.args.growing.documents))) (sym c.get.ensures ∙ c.in-Some.is) (known_there c.args.path.now c.args.heads.now c.args.growing c.requires))

pub returns-in-Some-clause-runs : goal.returns-in-Some-clause-runs
returns-in-Some-clause-runs g c = known_path g.F.Files.answers c.args.heads.now c.args.path.now c.in-Some.document c.args.growing _ (sym c.get.ensures ∙ c.in-Some.is)

pub returns-in-None-clause-runs : goal.returns-in-None-clause-runs
returns-in-None-clause-runs g c = new_path g.F.Files.answers c.args.heads.now c.args.path.now c.args.growing _ _ _ (sym c.get.ensures ∙ c.in-None.is) c.sought_new.ensures.runs
