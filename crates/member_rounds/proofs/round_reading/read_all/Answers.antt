use Rattle.std.proofs.Common.{◌≡◌, ℕ, ◌+◌, ◌*◌, ◌-◌, ◌^◌, List, length, min, take, drop, sym, ap, ◌∙◌, subst, arith}
use Rattle.std.proofs.lemmas.Result.{err_from_is_err_and}
use Rattle.std.proofs.Math.Nat.{min_comm}
use Rattle.std.proofs.lemmas.List.{length-drop, length-take, take_min, take_rest}
use Rattle.mo_types.specs.declared.key.FileId.{FileId}
use Rattle.input_files.specs.Sources.{inputs_of}
use Rattle.member_rounds.proofs.PieceLemmas.{IsReadTo, read_more, read_stops}
use Rattle.member_rounds.proofs.round_reading.read_all.Goals as goal

part_is : (ids : List FileId) (n m k : ℕ) → k ≡ min (length ids - n) m → take k (take (length ids - n) (drop n ids)) ≡ take m (drop n ids)
part_is ids n m k is =
    ap (take k) (take_rest ids n)
    ∙ ap (λ (i : ℕ). take i (drop n ids)) (is ∙ ap (λ (l : ℕ). min l m) (sym (length-drop n ids)) ∙ min_comm (length (drop n ids)) m)
    ∙ take_min m (drop n ids)

pub loop-run-preserved : goal.loop-run-preserved
loop-run-preserved g c =
    let next : c.loop-run.run * 2 ^ 30 + 2 ^ 30 ≡ (c.loop-run.run + 1) * 2 ^ 30 = omega arith in
    let least : c.min.result ≡ min (length c.args.ids.now - c.loop-run.run * 2 ^ 30) (2 ^ 30) = omega (arith, c.min.ensures, length-take (length c.args.ids.now - c.loop-run.run * 2 ^ 30) (drop (c.loop-run.run * 2 ^ 30) c.args.ids.now), length-drop (c.loop-run.run * 2 ^ 30) c.args.ids.now) in
    subst (λ n. IsReadTo (inputs_of c.args.sources.now) c.args.ids.now n c.in_ok-files.files) next
    (read_more (inputs_of c.args.sources.now) c.args.ids.now _ (c.loop-run.run * 2 ^ 30) (2 ^ 30) c.loop-run.files c.in_ok-files.files c.loop-run.invariant (part_is c.args.ids.now (c.loop-run.run * 2 ^ 30) (2 ^ 30) c.min.result least) c.in_ok-files.ensures.exact c.in_ok-files.ensures.whole)

pub returns-in_err-files-clause-exact : goal.returns-in_err-files-clause-exact
returns-in_err-files-clause-exact g c = let p = err_from_is_err_and c.from_residual.result c.from_residual.ensures.1 in rw (p.1, p.2) λ real.
    let least : c.min.result ≡ min (length c.args.ids.now - c.loop-run.run * 2 ^ 30) (2 ^ 30) = omega (arith, c.min.ensures, length-take (length c.args.ids.now - c.loop-run.run * 2 ^ 30) (drop (c.loop-run.run * 2 ^ 30) c.args.ids.now), length-drop (c.loop-run.run * 2 ^ 30) c.args.ids.now) in
    read_stops (inputs_of c.args.sources.now) c.args.ids.now _ (c.loop-run.run * 2 ^ 30) (2 ^ 30) c.loop-run.files c.in_err-files.field-0.0 c.loop-run.invariant (part_is c.args.ids.now (c.loop-run.run * 2 ^ 30) (2 ^ 30) c.min.result least) (c.in_err-files.ensures.exact real)
