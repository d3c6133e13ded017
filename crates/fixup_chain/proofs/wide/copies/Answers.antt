use Rattle.fixup_chain.proofs.wide.copies.Goals as goal

pub returns : goal.returns
returns c = c.in_ok-copies.ensures.items_if_clones_equal (λ x y e. e)
