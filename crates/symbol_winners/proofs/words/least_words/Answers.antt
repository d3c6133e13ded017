use Rattle.std.proofs.Common.{rules, ap, ◌∙◌, length, replicate}
use Rattle.std.proofs.lemmas.List.{length-replicate}
use Rattle.mo_types.specs.Candidates.{no_word}
use Rattle.symbol_winners.specs.Found.{found}
use Rattle.symbol_winners.specs.inner.Tables.{held}
use Rattle.symbol_winners.proofs.CandidateLemmas.{candidates_are}
use Rattle.symbol_winners.proofs.WordsLemmas.{offers_fit, words_are, written}
use Rattle.symbol_winners.proofs.words.least_words.Goals as goal

pub offers_of-requires-clause-numbered : goal.offers_of-requires-clause-numbered
offers_of-requires-clause-numbered c =
    rw c.as_slice-2.ensures.value (c.in_ok-found.ensures.numbered c.args.names.now (rw c.as_slice.ensures c.requires.numbers))

pub offers_of-requires-clause-candidates : goal.offers_of-requires-clause-candidates
offers_of-requires-clause-candidates c =
    candidates_are c.args.loaded.now.files c.as_slice-2.result.now c.requires.whole.files (ap held c.as_slice-2.ensures.value ∙ c.in_ok-found.ensures.found ∙ ap found c.as_slice.ensures)

pub replay-requires : goal.replay-requires
replay-requires c =
    offers_fit c.args.names.now c.as_slice-2.result.now c.as_slice-3.result.now c.as_mut_slice.result.now (c.as_slice-3.ensures.value ∙ c.in_ok-offers.ensures)
    (ap length (c.as_mut_slice.ensures.value ∙ c.in_ok-words.ensures.items_if_clones_equal (λ y e. search rules)) ∙ length-replicate c.len.result no_word ∙ c.len.ensures.value)

pub returns : goal.returns
returns c =
    written c.args.loaded.now.files c.args.names.now c.replay.new.words c.in_ok-words.words.items c.in_ok-words.words.len
    (words_are c.args.loaded.now.files c.args.names.now c.as_slice-2.result.now c.as_mut_slice.result.now c.replay.new.words c.as_slice-3.result.now c.len.ensures.numbering.distinct
    (ap held c.as_slice-2.ensures.value ∙ c.in_ok-found.ensures.found ∙ ap found c.as_slice.ensures)
    (c.as_slice-3.ensures.value ∙ c.in_ok-offers.ensures)
    (c.as_mut_slice.ensures.value ∙ c.in_ok-words.ensures.items_if_clones_equal (λ y e. search rules) ∙ ap (λ n. replicate n no_word) c.len.ensures.value) c.replay.ensures)
    (ap length (c.in_ok-words.ensures.items_if_clones_equal (λ y e. search rules)) ∙ length-replicate c.len.result no_word ∙ c.len.ensures.value)
    (c.in_ok-words.ensures.len ∙ c.len.ensures.value)
