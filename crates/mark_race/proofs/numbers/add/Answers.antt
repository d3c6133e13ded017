use Rattle.mark_race.proofs.NumberLemmas.{adds_one}
use Rattle.mark_race.proofs.numbers.add.Goals as goal

pub returns : goal.returns
returns c =
    let old = c.args.numbered.now.atoms.keys in
    let mid = c.number_of.new.atoms.keys in
    let new = c.number_of-2.new.atoms.keys in
    adds_one old mid new c.args.numbered.now.arrows.items c.push.new.self.items c.args.from c.args.to c.in_ok-from.from c.in_ok-to.to
    c.in_ok-from.ensures.place c.in_ok-to.ensures.place c.in_ok-from.ensures.few c.in_ok-to.ensures.few
    (λ h. c.in_ok-to.ensures.once (c.in_ok-from.ensures.once h)) c.in_ok-push.ensures.items
