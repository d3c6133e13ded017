use Rattle.std.proofs.Common.{◌≡◌, ◌+◌, ℕ, Global, Vec, length, arith, sym, ap, subst, ◌∙◌, inl, inr, refl}
use Rattle.island_core.specs.Groups.{AreEnds}
use Rattle.island_core.proofs.CutLemmas.{cutting_ends, cutting_goes, cutting_none, cutting_same, cutting_turns}
use Rattle.island_core.proofs.cut.cut_atoms.Goals as goal
use Rattle.island_core.proofs.cut.cut_atoms.Goals.{then-at-first+then-extent-extents+in_ok-push, else-at-first, else-at-first-via-then-at-first+else-extent-extents, else-at-first-via-else-at-first, then-first-extents+in_ok-push-2, else-first-extents}

pub atoms-preserved : goal.atoms-preserved
atoms-preserved c =
    elim c.if-at-first.branch [
      | then-at-first+then-extent-extents+in_ok-push w ↦
          cutting_same c.args.most c.args.extents.now c.if-at-first.ends.items c.if-at-first.ends.items c.atoms.at c.if-at-first.first (c.atoms.at + 1) refl w.first-is
          (cutting_turns c.args.most c.args.extents.now c.atoms.ends.items c.if-at-first.ends.items c.atoms.first c.atoms.at c.atoms.invariant w.if-at-first.true c.atoms-test.true w.if-extent-extents.true
          (ap (λ (v : Vec ℕ Global). v.items) w.ends-is ∙ w.in_ok-push.ensures.items))
      | else-at-first w ↦
          cutting_same c.args.most c.args.extents.now c.atoms.ends.items c.if-at-first.ends.items c.atoms.first c.if-at-first.first (c.atoms.at + 1) (ap (λ (v : Vec ℕ Global). v.items) w.ends-is) w.first-is
          (cutting_goes c.args.most c.args.extents.now c.atoms.ends.items c.atoms.first c.atoms.at c.atoms.invariant (elim w.else-at-first.branch [
            | else-at-first-via-then-at-first+else-extent-extents w' ↦ inr w'.if-extent-extents.false
            | else-at-first-via-else-at-first w' ↦ inl w'.if-at-first.false
          ]))
    ]

pub returns : goal.returns
returns c =
    let all : length c.args.extents.now ≡ c.atoms.at = omega (arith, c.atoms-test.false, c.atoms.auto.at-end) in
    elim c.if-first-extents.branch [
      | then-first-extents+in_ok-push-2 w ↦
          cutting_ends c.args.most c.args.extents.now c.atoms.ends.items c.if-first-extents.ends.items c.atoms.first c.atoms.at c.atoms.invariant all w.if-first-extents.true
          (ap (λ (v : Vec ℕ Global). v.items) w.ends-is ∙ w.in_ok-push-2.ensures.items)
      | else-first-extents w ↦
          subst (AreEnds c.args.most c.args.extents.now) (sym (ap (λ (v : Vec ℕ Global). v.items) w.ends-is))
          (cutting_none c.args.most c.args.extents.now c.atoms.ends.items c.atoms.first c.atoms.at c.atoms.invariant all w.if-first-extents.false)
    ]
