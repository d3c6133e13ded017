use Rattle.std.proofs.Common.{◌≡◌, ◌+◌, ◌-◌, ◌<◌, ℕ, [], ◌∷◌, length, drop, get_or, refl, sym, subst, ap, ◌∙◌, inl, inr, arith}
use Rattle.std.proofs.lemmas.Bool.{cases_order}
use Rattle.std.proofs.lemmas.List.{drop_all, drop_more}
use Rattle.std.proofs.lemmas.List.Elements.{All-from_get_or}
use Rattle.export_trie.specs.Held.{AreBytes, held_names}
use Rattle.export_trie.proofs.Strings.{rising_from_sorted}
use Rattle.export_trie.proofs.Entering.{first_of}
use Rattle.export_trie.proofs.Reading.{name_read, length-held_names}
use Rattle.export_trie.proofs.Building.{IsBuilding, begun, built, finished}
use Rattle.export_trie.proofs.nodes.nodes.Goals as goal

pub loop-left-init : goal.loop-left-init
loop-left-init c =
    let strings = held_names c.args.exports.now in
    let long : length strings ≡ length c.args.exports.now = length-held_names c.args.exports.now in
    let none : drop (length c.args.exports.now) strings ≡ [] = drop_all (length c.args.exports.now) strings (omega arith) in
    record {
      within = omega arith;
      later = rw none refl;
      building = rw (c.in_ok-path.ensures.items, c.new-done.ensures.items) (subst (λ (n : ℕ). IsBuilding strings n (record { name = 0; len = 0 } ∷ []) []) long (begun strings));
      bytes = λ k low high. absurd (omega arith);
    }

pub loop-left-preserved : goal.loop-left-preserved
loop-left-preserved c =
    let strings = held_names c.args.exports.now in
    let some : c.loop-left.left ≡ c.loop-left.left - 1 + 1 = omega arith in
    let long : length strings ≡ length c.args.exports.now = length-held_names c.args.exports.now in
    let here : c.loop-left.left - 1 < length c.args.exports.now = omega (arith, c.loop-left.invariant.within) in
    let name = c.as_slice-name.ensures ∙ name_read c.args.exports.now (c.loop-left.left - 1) c.index-exports-left.result here in
    record {
      within = omega (arith, c.loop-left.invariant.within);
      later = name ∙ sym (ap first_of (drop_more strings (c.loop-left.left - 1) [] (omega arith)));
      building = built strings (c.loop-left.left - 1) _ _ _ _ _ _ _ _ (rising_from_sorted strings c.requires) (omega arith) name
          (subst (λ (n : ℕ). c.loop-left.later.now ≡ first_of (drop n strings)) some c.loop-left.invariant.later) c.common_len-shared.ensures.len
          (subst (λ (n : ℕ). IsBuilding strings n c.loop-left.path.items c.loop-left.done.items) some c.loop-left.invariant.building)
          c.in_ok-close.ensures.same c.in_ok-close.ensures.closed c.in_ok-close.ensures.short c.in_ok-enter.ensures;
      bytes = λ k low high.
          elim (cases_order k (c.loop-left.left - 1)) [
            | inl same ↦ subst AreBytes (name ∙ ap (λ (n : ℕ). get_or strings n []) (sym same)) c.common_len-shared.ensures.bytes
            | inr apart ↦ c.loop-left.invariant.bytes k (elim apart [ inl before ↦ absurd (omega arith) | inr after ↦ omega arith ]) high
          ];
    }

pub loop-node-init : goal.loop-node-init
loop-node-init c =
    let none : c.loop-left.left ≡ 0 = omega arith in
    record {
      held = finished (held_names c.args.exports.now) c.loop-left.path.items c.loop-left.done.items
          (subst (λ (n : ℕ). IsBuilding (held_names c.args.exports.now) n c.loop-left.path.items c.loop-left.done.items) none c.loop-left.invariant.building);
      bytes = All-from_get_or AreBytes (held_names c.args.exports.now) [] (λ k within. c.loop-left.invariant.bytes k (omega arith) (omega (arith, length-held_names c.args.exports.now)));
    }
