use Rattle.std.proofs.Common.{◌∙◌, List, ap, filter, refl}
use Rattle.input_files.specs.Files.{is_first}
use Rattle.input_files.specs.declared.input.Input.{Input}
use Rattle.member_rounds.proofs.LinkLemmas.{link_begins}
use Rattle.member_rounds.proofs.loading.begin.Goals as goal

pub returns-clause-link : goal.returns-clause-link
returns-clause-link c = λ libs wanted. link_begins c.args.offers.now libs wanted c.args.all.now _ c.requires.all refl c.new-3.ensures c.new.ensures c.new-2.ensures c.first_asking.ensures (c.in_ok-new.ensures ∙ ap (λ (inputs : List Input). filter (is_first inputs) c.args.all.now) c.sources.ensures) c.in_ok-left.ensures
