use Rattle.std.proofs.Common.{◌≡◌, List, [], ◌∷◌, ◌++◌, length, sym, ◌∙◌, ap, ap₂, arith, append_assoc, append-nil}
use Rattle.std.specs.List.{flat_map}
use Rattle.std.specs.Vec.Iter.{into_iter_items}
use Rattle.par_work.specs.declared.worker.Run.{Run}
use Rattle.par_work.proofs.order.pieces_of.Goals as goal

-- one run more
turn : {P : Type 0} (pieces now all : List P) (rest next : List (Run P)) (run : Run P) → pieces ++ flat_map (λ (r : Run P). r.pieces.items) rest ≡ all → rest ≡ run ∷ next → now ≡ pieces ++ run.pieces.items → now ++ flat_map (λ (r : Run P). r.pieces.items) next ≡ all
turn {P} pieces now all rest next run so at is =
    ap (λ l. l ++ flat_map (λ (r : Run P). r.pieces.items) next) is ∙ (append_assoc pieces run.pieces.items (flat_map (λ (r : Run P). r.pieces.items) next) ∙ (ap (λ l. pieces ++ flat_map (λ (r : Run P). r.pieces.items) l) (sym at) ∙ so))

-- and no more
end : {P : Type 0} (pieces all : List P) (rest : List (Run P)) → pieces ++ flat_map (λ (r : Run P). r.pieces.items) rest ≡ all → length rest ≡ 0 → pieces ≡ all
end pieces all [] so none = sym (append-nil pieces) ∙ so
end pieces all (x ∷ xs) so none = absurd (omega arith)

pub loop-run-init : goal.loop-run-init
loop-run-init g c =
    let h = c.into_iter-run-iterator.ensures.into_iter_gives in record {
      so_far = ap₂ (λ l m. l ++ flat_map (λ run. run.pieces.items) m) c.in_ok-pieces.ensures.items h.0;
      left = omega (arith, h.1, ap length h.0);
    }

pub loop-run-preserved : goal.loop-run-preserved
loop-run-preserved g c =
    let h = c.in-Some.ensures.steps in
    let long = ap length h.0 in record {
      so_far = turn c.loop-run.pieces.items c.append.new.self.items _ (into_iter_items c.loop-run.run-iterator) (into_iter_items c.next.new.self) c.in-Some.run' c.loop-run.invariant.so_far h.0 c.in_ok-append.ensures.items;
      left = omega (arith, h.1, long, c.loop-run.invariant.left);
    }

pub returns : goal.returns
returns g c = let h = c.in-None.ensures.steps in end c.loop-run.pieces.items _ (into_iter_items c.loop-run.run-iterator) c.loop-run.invariant.so_far (sym c.loop-run.invariant.left ∙ h.0)
