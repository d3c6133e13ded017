use Rattle.std.proofs.Common.{◌≡◌, ◌+◌, ◌*◌, ◌/◌, ◌%◌, ◌<◌, length, refl, ◌∙◌, arith}
use Rattle.std.proofs.lemmas.Grind.{common_steps}
use Rattle.std.proofs.lemmas.List.{get_or_default}
use Rattle.link_gen.proofs.CallLemmas.{drawn_called, length_numbers}
use Rattle.link_gen.proofs.text.called_number.Goals as goal

pub returns : goal.returns
returns c =
    let other : c.args.r % 3 ≡ 2 → ⊥ = λ e. first_of (omega arith, grind (arith, common_steps)) in
    let low : 2 * (c.args.r / 3) + c.args.r % 3 < length c.args.tables.now.numbers.items = (let long = length_numbers c.args.made c.args.tables.now c.requires.tables in omega arith) in
    c.index.ensures ∙ get_or_default c.args.tables.now.numbers.items (2 * (c.args.r / 3) + c.args.r % 3) c.index.result.now 0 low
    ∙ drawn_called c.args.made c.args.tables.now c.args.r (2 * (c.args.r / 3) + c.args.r % 3) c.requires.tables other c.requires.within refl
