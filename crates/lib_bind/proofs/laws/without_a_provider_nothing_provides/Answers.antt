use Rattle.lib_bind.proofs.LawLemmas.{no_provider}
use Rattle.lib_bind.proofs.laws.without_a_provider_nothing_provides.Goals as goal

pub returns : goal.returns
returns c = λ graph name at library whole none is provides. no_provider graph name at library whole none is provides
