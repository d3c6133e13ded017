use Rattle.std.proofs.Common.{rules, sym}
use Rattle.std.proofs.lemmas.Cmp.{on_total}
use Rattle.std.proofs.lemmas.Fn.{always_returns_same}
use Rattle.mo_types.proofs.KeyOrder.{compare_keys_total}
use Rattle.mo_types.specs.Keys.{compare_keys}
use Rattle.mo_types.specs.declared.atom.Atom.{Atom}
use Rattle.atom_index.proofs.Keys.{found_key, no_key, find_found, find_missing, sorted_from_rising}
use Rattle.islands.proofs.text.find_near.Goals as goal

pub returns-then-is_same : goal.returns-then-is_same
returns-then-is_same c = sym (find_found (λ (atom : Atom). atom.key) c.args.kept.now c.args.key.now c.args.near _ c.requires c.if-near-kept.true (c.is_same.ensures c.if-is_same.true))

pub returns-in-Ok : goal.returns-in-Ok
returns-in-Ok c =
    let by_key = c.in-Ok.ensures.position (λ (atom : Atom). compare_keys atom.key c.args.key.now) (always_returns_same _ _ _ (λ a r g called. search rules)) in
    sym (find_found (λ (atom : Atom). atom.key) c.args.kept.now c.args.key.now c.in-Ok.at _ c.requires c.in-Ok.ensures.bound (found_key (λ (atom : Atom). atom.key) c.args.kept.now c.args.key.now c.in-Ok.at _ by_key))

pub returns-in-Err : goal.returns-in-Err
returns-in-Err c =
    let by_key = c.in-Err.ensures.position (λ (atom : Atom). compare_keys atom.key c.args.key.now) (always_returns_same _ _ _ (λ a r g called. search rules)) in
    sym (find_missing (λ (atom : Atom). atom.key) c.args.kept.now c.args.key.now
    (no_key (λ (atom : Atom). atom.key) c.args.kept.now c.args.key.now c.in-Err.at (sorted_from_rising (on_total (λ (atom : Atom). atom.key) compare_keys_total) c.args.kept.now c.requires) by_key))
