use Rattle.std.proofs.Common.{rules, sym, ap, ◌∙◌, Some}
use Rattle.std.proofs.lemmas.Fn.{always_returns_same}
use Rattle.mo_types.proofs.KeyOrder.{compare_keys_total}
use Rattle.mo_types.specs.Keys.{compare_keys}
use Rattle.atom_index.proofs.Keys.{found_key, no_key, find_found, find_missing, sorted_from_rising}
use Rattle.std.proofs.lemmas.Cmp.{on_total}
use Rattle.sect_place.specs.declared.island.IslandArea.{IslandArea}
use Rattle.sect_place.proofs.walk.find_area.Goals as goal

pub returns-in-Ok : goal.returns-in-Ok
returns-in-Ok c =
    let by_key = c.in-Ok.ensures.position (λ (area : IslandArea). compare_keys area.last c.args.key.now) (always_returns_same _ _ _ (λ a r g called. search rules)) in
    ap Some c.index-areas-at.is ∙ sym (find_found (λ (area : IslandArea). area.last) c.args.areas.now c.args.key.now c.in-Ok.at c.index-areas-at.result c.requires c.in-Ok.ensures.bound (found_key (λ (area : IslandArea). area.last) c.args.areas.now c.args.key.now c.in-Ok.at c.index-areas-at.result by_key))

pub returns-in-Err : goal.returns-in-Err
returns-in-Err c =
    let by_key = c.in-Err.ensures.position (λ (area : IslandArea). compare_keys area.last c.args.key.now) (always_returns_same _ _ _ (λ a r g called. search rules)) in
    sym (find_missing (λ (area : IslandArea). area.last) c.args.areas.now c.args.key.now
    (no_key (λ (area : IslandArea). area.last) c.args.areas.now c.args.key.now c.in-Err.field-0 (sorted_from_rising (on_total (λ (area : IslandArea). area.last) compare_keys_total) c.args.areas.now c.requires) by_key))
