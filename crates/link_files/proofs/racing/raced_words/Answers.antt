use Rattle.std.proofs.Common.{rules}
use Rattle.link_files.proofs.RaceLemmas.{raced_ok}
use Rattle.link_files.proofs.racing.raced_words.Goals as goal

pub returns : goal.returns
returns g c = raced_ok (λ words. words.items) c.race_words.result c.args.named.now.loaded.files c.args.named.now.numbered.names c.in_ok-start.start.items c.len-many.ensures.numbering (search rules) c.race_words.ensures
