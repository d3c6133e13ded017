use Rattle.std.proofs.Common.{◌≡◌, sym, ◌∙◌, Some, position}
use Rattle.std.specs.Str.{bytes_eq}
use Rattle.symbol_winners.specs.inner.Tables.{candidate_name, firsts_of, named}
use Rattle.symbol_winners.proofs.TableLemmas.{noted, passed, stands}
use Rattle.symbol_winners.proofs.duplicates.note.Goals as goal

pub returns-in-Some-clause-firsts : goal.returns-in-Some-clause-firsts
returns-in-Some-clause-firsts c = λ cs f file external is are.
    let at : position (bytes_eq f.symbol.name) c.args.names.now ≡ Some c.in-Some.id = sym (c.id_of_number.ensures.meaning f.symbol external is) ∙ c.in-Some.is in
    record {
      are = noted firsts_of candidate_name c.args.names.now cs f c.args.table.now.items c.in-Some.id c.with.result c.requires.numbering.distinct at are.are
          (c.with.ensures (named candidate_name f.symbol.name cs) f (c.index_mut-place.ensures.value ∙ stands firsts_of candidate_name c.args.names.now cs f.symbol.name c.args.table.now.items c.in-Some.id _ at are.are) file);
    }

pub returns-in_default-clause-firsts : goal.returns-in_default-clause-firsts
returns-in_default-clause-firsts c = λ cs f file external is are.
    record { are = passed firsts_of candidate_name c.args.names.now cs f c.args.table.now.items (sym (c.id_of_number.ensures.meaning f.symbol external is) ∙ c.in_default.is) are.are }
