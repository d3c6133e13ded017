use Rattle.std.proofs.Common.{◌%◌, ◌/◌, ◌∙◌, ap, sym}
use Rattle.std.specs.Prelude.{nat_eq}
use Rattle.std.specs.Int.{bit_at}
use Rattle.std.specs.Mem.Slots.{slots_items}
use Rattle.std.proofs.lemmas.Nat.Bits.{shr_and_one}
use Rattle.mark_race.proofs.Words.{get_or_at}
use Rattle.mark_race.proofs.bits.is_set.Goals as goal

pub returns : goal.returns
returns c = ap (λ n. nat_eq n 1) (shr_and_one c.word.result (c.args.atom % 64) ∙ ap (λ n. bit_at n (c.args.atom % 64)) (sym (get_or_at (slots_items c.args.closed.now.words) (c.args.atom / 64) c.word.result 0 c.word.ensures)))
