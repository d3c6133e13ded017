use Rattle.std.proofs.Common.{◌+◌, refl}
use Rattle.fixup_chain.proofs.NearLemmas.{steps_are}
use Rattle.fixup_chain.proofs.places.steps_to_next.Goals as goal

pub returns-clause-value : goal.returns-clause-value
returns-clause-value c =
    steps_are c.args.fixups.now c.args.at (c.args.at + 1) c.args.address c.address_at-next.result c.steps_by.result
    c.requires.apart c.requires.there refl c.address_at-next.ensures c.steps_by.ensures.value
