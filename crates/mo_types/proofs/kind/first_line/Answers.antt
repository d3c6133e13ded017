use Rattle.std.proofs.Common.{rules, tests, not, nat_eq}
use Rattle.std.proofs.lemmas.Iterator.Search.{find_from_yields_List}
use Rattle.std.proofs.lemmas.Iterator.Splits.{YieldsList-from_slice_split}
use Rattle.mo_types.specs.Kind as kinds
use Rattle.mo_types.proofs.kind.first_line.Goals as goal

pub returns : goal.returns
returns c =
    find_from_yields_List (λ line. not (kinds.is_passed_over line)) _ _ _ c.find.ensures.ran
    (YieldsList-from_slice_split _ (λ byte. nat_eq byte 0x0a) c.args.bytes.now c.split.ensures.rest c.split.ensures.done c.split.ensures.closure (λ x r q k. search (rules, tests)))
    (λ x b q k. search (rules, tests))
