use Rattle.list_lemmas.proofs.Members.{in_from_Contains}
use Rattle.patch.proofs.ChosenLemmas.{all_pairs}
use Rattle.patch.proofs.ReferenceLemmas.{LieApart, apart_refs, within_atom}
use Rattle.patch.proofs.laws.fields_of_references_lie_apart.Goals as goal

pub returns-clause-apart : goal.returns-clause-apart
returns-clause-apart c = λ object file refs e. all_pairs LieApart refs (apart_refs object file refs e)

pub returns-clause-within : goal.returns-clause-within
returns-clause-within c = λ object file refs atom r whole e h among section offset. within_atom object file refs atom r whole e (in_from_Contains _ atom h) (in_from_Contains refs r among) section offset
