use Rattle.std.proofs.Common.{◌≢◌, ℕ, List, All, Contains, take, get_or, subst, sym, refl, ap, ◌∙◌}
use Rattle.std.specs.List.{AllPairs}
use Rattle.std.proofs.lemmas.Bool.{false≢true}
use Rattle.std.proofs.lemmas.List.{take_all, take_more}
use Rattle.std.proofs.lemmas.List.Elements.{All-more}
use Rattle.std.proofs.lemmas.List.Quantifiers.{all_pairs_push}
use Rattle.export_trie.specs.declared.export.ExportAddress.{ExportAddress}
use Rattle.ground_tests.proofs.tries.can_be_written.Goals as goal

abbrev Apart : ExportAddress → ExportAddress → Type 0
Apart a b = a.name ≢ b.name

abbrev Clean : ExportAddress → Type 0
Clean export = Contains export.name 0 → ⊥

pub loop-i-preserved : goal.loop-i-preserved
loop-i-preserved c =
    let exports = c.args.exports.now in
    let first = c.index-exports-i.result in
    let name = ap (λ (export : ExportAddress). export.name) c.index-exports-i.is in
    record {
      distinct = subst (AllPairs Apart) (sym (take_more exports c.loop-i.i first c.loop-i-test.true))
          (all_pairs_push Apart (take c.loop-i.i exports) (get_or exports c.loop-i.i first) c.loop-i.invariant.distinct (λ k d low same. c.if-not-is_new.ensures refl k d low (same ∙ sym name)));
      no_nul = All-more Clean exports c.loop-i.i first c.loop-i-test.true c.loop-i.invariant.no_nul
          (λ nul. false≢true (c.if-has_nul.ensures.1 (subst (λ (text : List ℕ). Contains text 0) (sym name ∙ sym c.as_slice.ensures) nul)));
    }

pub returns-clause-distinct : goal.returns-clause-distinct
returns-clause-distinct c = λ _. subst (AllPairs Apart) (take_all c.loop-i.i c.args.exports.now c.loop-i-test.false) c.loop-i.invariant.distinct

pub returns-clause-no_nul : goal.returns-clause-no_nul
returns-clause-no_nul c = λ _. subst (All Clean) (take_all c.loop-i.i c.args.exports.now c.loop-i-test.false) c.loop-i.invariant.no_nul
