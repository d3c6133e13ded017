use Rattle.std.proofs.Common.{◌≡◌, ◌∙◌, ℕ, List, drop, length, ap, sym, arith}
use Rattle.mark_race.specs.Rule.{bit_of}
use Rattle.mark_race.proofs.Words.{front_is, packed_none, packed_end}
use Rattle.mark_race.proofs.bits.pack.Goals as goal

pub note_all-requires : goal.note_all-requires
note_all-requires c = packed_none c.args.start.now c.as_mut_slice.result.now _ (c.as_mut_slice.ensures.value ∙ c.in_ok-words.ensures.items_if_clones_equal (λ y e. e)) (c.as_mut_slice.ensures.len ∙ c.in_ok-words.ensures.len)

pub returns-clause-long : goal.returns-clause-long
returns-clause-long c =
    let new = c.note_all.new.words in
    let long : c.in_ok-words.words.len ≡ length new = c.in_ok-words.ensures.len ∙ sym c.note_all.ensures.long in
    ap length (front_is c.in_ok-words.words.len new (drop (length new) c.in_ok-words.words.items) long) ∙ c.note_all.ensures.long

pub returns-clause-bits : goal.returns-clause-bits
returns-clause-bits c atom low =
    let new = c.note_all.new.words in
    let long : c.in_ok-words.words.len ≡ length new = c.in_ok-words.ensures.len ∙ sym c.note_all.ensures.long in
    ap (λ (ws : List ℕ). bit_of ws atom) (front_is c.in_ok-words.words.len new (drop (length new) c.in_ok-words.words.items) long) ∙ packed_end c.args.start.now new (length c.args.start.now) (omega arith) c.note_all.ensures atom low
