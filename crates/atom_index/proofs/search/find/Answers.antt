use Rattle.std.proofs.Common.{◌≡◌, rules, ap}
use Rattle.std.specs.declared.cmp.Ordering.TheVariants.{Equal}
use Rattle.std.proofs.lemmas.Cmp.{tied_itself}
use Rattle.std.proofs.lemmas.Fn.{always_returns_same}
use Rattle.mo_types.proofs.KeyOrder.{compare_keys_total}
use Rattle.mo_types.specs.Keys.{compare_keys}
use Rattle.atom_index.proofs.Keys.{found_key, no_key, same_key}
use Rattle.atom_index.proofs.search.find.Goals as goal

pub returns-in-Ok : goal.returns-in-Ok
returns-in-Ok g c =
    let by_key = c.in-Ok.ensures.position (λ value. compare_keys (g.T.Keyed.key_of value) c.args.atom.now) (always_returns_same _ _ _ (λ a r w called. search rules)) in
    record { within = c.in-Ok.ensures.bound; of_atom = λ d. same_key (g.T.Keyed.key_of _) c.args.atom.now (by_key d) }

pub returns-in-Err : goal.returns-in-Err
returns-in-Err g c =
    let by_key = c.in-Err.ensures.position (λ value. compare_keys (g.T.Keyed.key_of value) c.args.atom.now) (always_returns_same _ _ _ (λ a r w called. search rules)) in
    λ k d low is. no_key g.T.Keyed.key_of c.args.values.now c.args.atom.now c.in-Err.field-0 c.requires by_key k d low
    (rw is (tied_itself compare_keys_total c.args.atom.now))
