use Rattle.std.proofs.Common.{rules, ◌≡◌, false, sym, subst}
use Rattle.std.specs.List.{list_any}
use Rattle.slot_needs.specs.Needs.{is_outer}
use Rattle.slot_needs.specs.Unmet.{IsFirst, unmet_of}
use Rattle.slot_needs.proofs.UnmetLemmas.{is_first, none_of}
use Rattle.slot_needs.proofs.unmet.first_unmet.Goals as goal

pub returns-then-not-any_outer : goal.returns-then-not-any_outer
returns-then-not-any_outer c =
    let no : list_any is_outer c.args.referring.now.goals.now.pool ≡ false = search rules in
    none_of c.args.referring.now.keys.now c.args.referring.now.goals.now c.args.referring.now.loaded.now.files c.pool.ensures.within no

pub returns : goal.returns
returns c = subst (IsFirst (unmet_of c.args.referring.now)) (sym c.least_of.ensures) (is_first (unmet_of c.args.referring.now))
