use Rattle.std.proofs.Common.{List, arith, get_or, length, rules, ℕ, ap, ◌∙◌}
use Rattle.std.proofs.lemmas.List.{get_or-replicate}
use Rattle.mo_ar.specs.inner.Index.{offers_of}
use Rattle.mo_ar.proofs.IndexLemmas.{as_many, index_starts}
use Rattle.mo_ar.proofs.index.built.Goals as goal

pub loop-to-init : goal.loop-to-init
loop-to-init c = record {
  index =
      index_starts c.args.strings.now c.args.order.items (offers_of c.args.strings.now c.args.entries.now) c.in_ok-heads.heads.items c.in_ok-nodes.nodes.items (length c.args.entries.now) c.requires.order
      (omega (arith, c.in_ok-heads.ensures.len, c.bucket_count.ensures.some))
      (λ b low. ap (λ (xs : List ℕ). get_or xs b 0) (c.in_ok-heads.ensures.items_if_clones_equal (λ y e. search rules)) ∙ get_or-replicate _ b 0 0 (omega (arith, low, c.in_ok-heads.ensures.len)))
      c.in_ok-nodes.ensures.items
      (omega (arith, as_many c.args.strings.now c.args.entries.now));
  marks = record { marked = λ k low. absurd (omega (arith, low, ap length c.new-marks.ensures.items)) };
  buckets = omega (arith, c.in_ok-heads.ensures.len, c.bucket_count.ensures.few);
  within = omega arith;
  few = omega (arith, ap length c.in_ok-nodes.ensures.items);
}
