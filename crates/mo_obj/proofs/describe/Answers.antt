use Rattle.std.proofs.Common.{rules}
use Rattle.mo_obj.proofs.AcceptLemmas.{whole_object, placed_alike, good_alike}
use Rattle.mo_obj.proofs.describe.Goals as goal

pub returns-clause-whole : goal.returns-clause-whole
returns-clause-whole c =
    whole_object _ _ _ c.in_ok-frame.frame.count c.in_ok-symtab.symtab.nsyms c.in_ok-sections.ensures.few
    c.in_ok-frame.ensures.within.few c.in_ok-symbols.ensures.count (search rules) c.in_ok-sections.ensures.roomy
    (good_alike _ _ c.as_slice-3.ensures c.in_ok-keep_literals.ensures.kept)
    (placed_alike _ _ _ c.as_slice-2.ensures c.in_ok-symbols.ensures.placed)
