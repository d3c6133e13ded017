use Rattle.std.proofs.Common.{◌<◌, ◌≤◌, ◌+◌, ◌++◌, ◌∷◌, [], ◌∙◌, length, refl, ap, arith, length-append}
use Rattle.input_fetch.proofs.PlaceLemmas.{places_size}
use Rattle.input_fetch.proofs.AskLemmas.{all_there, none_yet, then_content, then_short, then_stop}
use Rattle.input_fetch.specs.Contents.{places_of}
use Rattle.input_fetch.proofs.fetch.fetch_inputs.Goals as goal

pub loop-at-init : goal.loop-at-init
loop-at-init g c = record {
  size = ap length c.new-contents.ensures;
  there = none_yet g.F.Files.answers (places_of c.args.command.now) c.new-contents.result _ c.new-contents.ensures;
}

pub returns-in_err-content_at-clause-runs : goal.returns-in_err-content_at-clause-runs
returns-in_err-content_at-clause-runs g c =
    let within : c.loop-at.at < length (places_of c.args.command.now) = omega (arith, places_size c.args.command.now, c.len-at-end.ensures, c.loop-at-test.true) in
    then_stop g.F.Files.answers (places_of c.args.command.now) c.loop-at.at c.loop-at.contents c.in_err-content_at.field-0.0 _ _ _ _ within c.from_residual.ensures.1 c.loop-at.invariant.there c.in_err-content_at.ensures

pub returns-in_err-push-clause-runs : goal.returns-in_err-push-clause-runs
returns-in_err-push-clause-runs g c =
    let within : c.loop-at.at < length (places_of c.args.command.now) = omega (arith, places_size c.args.command.now, c.len-at-end.ensures, c.loop-at-test.true) in
    then_short g.F.Files.answers (places_of c.args.command.now) _ _ _ _ _ c.from_residual-in_err-push.ensures.1
    (then_content g.F.Files.answers (places_of c.args.command.now) c.loop-at.at c.loop-at.contents (c.loop-at.contents ++ c.in_ok-content_at.field-0 ∷ []) c.in_ok-content_at.field-0 _ _ _ refl within c.loop-at.invariant.there c.in_ok-content_at.ensures)

pub loop-at-preserved : goal.loop-at-preserved
loop-at-preserved g c =
    let within : c.loop-at.at < length (places_of c.args.command.now) = omega (arith, places_size c.args.command.now, c.len-at-end.ensures, c.loop-at-test.true) in
    record {
      size = ap length c.in_ok-push.ensures.ok ∙ length-append c.loop-at.contents (c.in_ok-content_at.field-0 ∷ []) ∙ ap (λ n. n + 1) c.loop-at.invariant.size;
      there = then_content g.F.Files.answers (places_of c.args.command.now) c.loop-at.at c.loop-at.contents c.push.new.self c.in_ok-content_at.field-0 _ _ _ c.in_ok-push.ensures.ok within c.loop-at.invariant.there c.in_ok-content_at.ensures;
    }

pub returns-clause-runs : goal.returns-clause-runs
returns-clause-runs g c =
    let past : length (places_of c.args.command.now) ≤ c.loop-at.at = omega (arith, places_size c.args.command.now, c.len-at-end.ensures, c.loop-at-test.false) in
    all_there g.F.Files.answers (places_of c.args.command.now) c.loop-at.at c.loop-at.contents _ _ past c.loop-at.invariant.there
