use Rattle.patch.proofs.OneLemmas.{one_patch}
use Rattle.patch.proofs.laws.patched_bytes_are_one.Goals as goal

pub returns : goal.returns
returns c = one_patch
