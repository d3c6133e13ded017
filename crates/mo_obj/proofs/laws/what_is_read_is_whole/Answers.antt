use Rattle.mo_obj.proofs.WholeLemmas.{read_whole, true_fault}
use Rattle.mo_obj.proofs.laws.what_is_read_is_whole.Goals as goal

pub returns : goal.returns
returns c = record { read = read_whole; faults = true_fault }
