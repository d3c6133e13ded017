use Rattle.std.proofs.Common.{◌≡◌, ◌<◌, ◌/◌, ◌++◌, ◌∙◌, length, sym, ap, ap₂, arith}
use Rattle.std.proofs.lemmas.List.{take-append-drop, length-take}
use Rattle.par_work.proofs.Harvests.{crew_low}
use Rattle.par_work.proofs.crew.halves.Goals as goal

pub returns-clause-low : goal.returns-clause-low
returns-clause-low g c =
    let low = c.split_off.new.self in
    let high = c.in_ok-others.others in
    let whole : c.args.crew.seats.items ≡ low.items ++ high.items = sym (take-append-drop (c.len.result / 2) c.args.crew.seats.items) ∙ sym (ap₂ (λ xs ys. xs ++ ys) c.in_ok-others.ensures.items c.in_ok-others.ensures.tail) in
    let some : 0 < length low.items = omega (arith, ap length c.in_ok-others.ensures.items, length-take (c.len.result / 2) c.args.crew.seats.items, c.len.ensures, c.requires.two) in
    let count : c.len-3.result ≡ length high.items = omega (arith, c.len-3.ensures) in
    crew_low c.args.claims.now.id c.args.each c.args.crew.first c.len-3.result c.args.crew.seats.items low.items high.items c.args.crew.drawer c.split-theirs.new.drawer c.requires.crew whole some count c.split-theirs.ensures.old
