use Rattle.std.proofs.Common.{List, ℕ, length, sym, subst, ◌∙◌}
use Rattle.lib_bind.specs.Graph.{AreReaches}
use Rattle.lib_bind.proofs.WholeLemmas.{reach_below}
use Rattle.lib_bind.proofs.libraries.found_of.Goals as goal

pub index_of-requires-clause-within : goal.index_of-requires-clause-within
index_of-requires-clause-within c =
    reach_below c.args.libraries.now c.args.links.now c.as_slice.result.now (length c.args.documents.now) c.requires.links c.requires.libraries
    (subst (λ (r : List (List ℕ)). AreReaches c.args.libraries.now c.args.links.now r) (sym (c.as_slice.ensures ∙ c.from_vec-reach.ensures)) c.in_ok-reaches.ensures)
