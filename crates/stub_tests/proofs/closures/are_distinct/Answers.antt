use Rattle.std.proofs.Common.{◌≢◌, ℕ, List, take, get_or, subst, sym, refl, ap, ◌∙◌}
use Rattle.std.specs.List.{AllPairs}
use Rattle.std.proofs.lemmas.List.{take_all, take_more}
use Rattle.std.proofs.lemmas.List.Quantifiers.{all_pairs_push}
use Rattle.stub_tests.proofs.closures.are_distinct.Goals as goal

abbrev Apart : List ℕ × List ℕ → List ℕ × List ℕ → Type 0
Apart a b = a.0 ≢ b.0

pub loop-i-preserved : goal.loop-i-preserved
loop-i-preserved c =
    let files = c.args.files.now in
    let first = c.index-files-i.result in
    let name = ap (λ (file : List ℕ × List ℕ). file.0) c.index-files-i.is in
    subst (AllPairs Apart) (sym (take_more files c.loop-i.i first c.loop-i-test.true))
    (all_pairs_push Apart (take c.loop-i.i files) (get_or files c.loop-i.i first) c.loop-i.invariant (λ k d low same. c.if-not-is_new.ensures refl k d low (same ∙ sym name)))

pub returns : goal.returns
returns c = λ _. subst (AllPairs Apart) (take_all c.loop-i.i c.args.files.now c.loop-i-test.false) c.loop-i.invariant
