use Rattle.std.proofs.Common.{◌≡◌, ℕ, List, length, sym, subst, ap, ◌∙◌}
use Rattle.std.proofs.lemmas.Bool.{true≢false}
use Rattle.std.proofs.lemmas.List.{length-replicate}
use Rattle.std.proofs.lemmas.Slice.Eq.{bytes_eq-Decides}
use Rattle.export_trie.specs.Held.{held, rows_of}
use Rattle.export_trie.specs.Sizes.{next_starts}
use Rattle.export_trie.proofs.Reading.{length-rows_of}
use Rattle.export_trie.proofs.Lengths.{Leq, leq_at, leq_next, places_long, length-next_starts, zeros_rise, nearer}
use Rattle.export_trie.proofs.places.places.Goals as goal

pub loop-places-init : goal.loop-places-init
loop-places-init c =
    let zeros = c.in_ok-places.ensures.items_if_clones_equal (λ y h. h) in
    let rows = rows_of c.args.rows.now in
    let rows_long : length rows ≡ length c.args.nodes.now = length-rows_of c.args.rows.now ∙ c.requires.rows in
    record {
      long = ap length zeros ∙ length-replicate (length c.args.nodes.now) 0;
      rise = zeros_rise (held c.args.exports.now) c.args.nodes.now rows _ _ zeros (length-next_starts (held c.args.exports.now) c.args.nodes.now rows _ rows_long);
      least = λ other long is. zeros_rise (held c.args.exports.now) c.args.nodes.now rows _ other zeros long;
    }

pub returns-then-eq : goal.returns-then-eq
returns-then-eq c =
    let same = (bytes_eq-Decides c.in_ok-next.next.items c.loop-places.places.items).0 (sym c.if-eq.ensures) in
    record {
      long = c.loop-places.invariant.long;
      agree = sym same ∙ (c.in_ok-next.ensures.exact ∙ ap (next_starts (held c.args.exports.now) c.args.nodes.now (rows_of c.args.rows.now)) c.as_slice.ensures.value);
      least = λ other long is place. leq_at _ _ place (c.loop-places.invariant.least other long is);
    }

pub loop-places-smaller : goal.loop-places-smaller
loop-places-smaller c =
    let exports = held c.args.exports.now in
    let rows = rows_of c.args.rows.now in
    let next = c.in_ok-next.ensures.exact ∙ ap (next_starts exports c.args.nodes.now rows) c.as_slice.ensures.value in
    let long = ap length next ∙ places_long exports c.args.nodes.now rows c.loop-places.places.items c.loop-places.invariant.long c.loop-places.invariant.rise in
    nearer c.loop-places.places.items c.in_ok-next.next.items (length c.args.nodes.now) (subst (Leq c.loop-places.places.items) (sym next) c.loop-places.invariant.rise) long c.in_ok-next.ensures.small
    (λ same. true≢false (sym ((bytes_eq-Decides c.in_ok-next.next.items c.loop-places.places.items).1 same) ∙ sym c.if-eq.ensures))

pub loop-places-preserved : goal.loop-places-preserved
loop-places-preserved c =
    let exports = held c.args.exports.now in
    let rows = rows_of c.args.rows.now in
    let next = c.in_ok-next.ensures.exact ∙ ap (next_starts exports c.args.nodes.now rows) c.as_slice.ensures.value in
    let rise = subst (Leq c.loop-places.places.items) (sym next) c.loop-places.invariant.rise in
    record {
      long = ap length next ∙ places_long exports c.args.nodes.now rows c.loop-places.places.items c.loop-places.invariant.long c.loop-places.invariant.rise;
      rise = subst (λ (ns : List ℕ). Leq ns (next_starts exports c.args.nodes.now rows c.in_ok-next.next.items)) (sym next) (leq_next exports c.args.nodes.now rows _ _ rise);
      least = λ other long is.
          subst (λ (ns : List ℕ). Leq ns other) (sym next)
          (subst (Leq (next_starts exports c.args.nodes.now rows c.loop-places.places.items)) (sym is) (leq_next exports c.args.nodes.now rows _ _ (c.loop-places.invariant.least other long is)));
    }
