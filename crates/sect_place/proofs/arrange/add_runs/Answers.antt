use Rattle.std.proofs.Common.{◌≡◌, ℕ, ◌++◌, List, refl, sym, ◌∙◌, ap, ap₂, subst, false, true, arith, length}
use Rattle.std.specs.Str.{bytes_eq}
use Rattle.std.specs.Vec.Iter.{into_iter_items}
use Rattle.sect_place.specs.Arrangement.{group_named}
use Rattle.sect_place.specs.declared.part.Part.{Part}
use Rattle.sect_place.proofs.Arranged.{runs_start, runs_turn, runs_more}
use Rattle.sect_place.proofs.arrange.add_runs.Goals as goal
use Rattle.sect_place.proofs.arrange.add_runs.Goals.{then-not-is_in+in_ok-next+in_ok-add_group, else-not-is_in}

pub loop-part-init : goal.loop-part-init
loop-part-init c =
    let h = c.into_iter-part-iterator.ensures.into_iter_gives in record {
      so_far = runs_start c.args.groups.now.items _ _ _ c.args.parts.items c.new-name.ensures c.new-run.ensures h.0;
      left = omega (arith, h.1, ap length h.0);
    }

pub loop-part-preserved : goal.loop-part-preserved
loop-part-preserved c =
    let h = c.in-Some.ensures.steps in
    let long = ap length h.0 in
    let same : c.as_slice.result.now ≡ c.loop-part.name = cc in record {
      so_far =
          elim c.if-not-is_in.branch [
            | then-not-is_in+in_ok-next+in_ok-add_group w ↦
                let away : bytes_eq c.in-Some.part.section.segment c.loop-part.name ≡ false = subst (λ (n : List ℕ). bytes_eq c.in-Some.part.section.segment n ≡ false) same (sym w.if-not-is_in.ensures) in
                let grown : c.if-not-is_in.groups.items ≡ c.loop-part.groups.items ++ group_named c.loop-part.name c.loop-part.run = rw w.groups-is (w.in_ok-add_group.ensures ∙ ap₂ (λ (n : List ℕ) (r : List Part). c.loop-part.groups.items ++ group_named n r) w.replace.ensures.value w.replace-done.ensures.value) in
                runs_turn c.loop-part.groups.items c.if-not-is_in.groups.items _ c.loop-part.name c.if-not-is_in.name c.loop-part.run c.if-not-is_in.run c.push.new.self (into_iter_items c.loop-part.part-iterator) (into_iter_items c.next.new.self) c.in-Some.part c.loop-part.invariant.so_far h.0 away grown (w.name-is ∙ (w.replace.ensures.after ∙ w.in_ok-next.ensures.cases)) (w.run-is ∙ (w.replace-done.ensures.after ∙ w.new.ensures)) c.in_ok-push.ensures.ok
            | else-not-is_in w ↦
                let here : bytes_eq c.in-Some.part.section.segment c.loop-part.name ≡ true = subst (λ (n : List ℕ). bytes_eq c.in-Some.part.section.segment n ≡ true) same (sym w.if-not-is_in.ensures) in
                runs_more c.loop-part.groups.items c.if-not-is_in.groups.items _ c.loop-part.name c.if-not-is_in.name c.loop-part.run c.if-not-is_in.run c.push.new.self (into_iter_items c.loop-part.part-iterator) (into_iter_items c.next.new.self) c.in-Some.part c.loop-part.invariant.so_far h.0 here (rw w.groups-is refl) w.name-is w.run-is c.in_ok-push.ensures.ok
          ];
      left = omega (arith, h.1, long, c.loop-part.invariant.left);
    }
