use Rattle.std.proofs.Common.{◌≡◌, sym, ◌∙◌, Some, position}
use Rattle.std.specs.Str.{bytes_eq}
use Rattle.symbol_winners.specs.inner.Best.{best_of, held_name}
use Rattle.symbol_winners.specs.inner.Tables.{named}
use Rattle.symbol_winners.proofs.TableLemmas.{noted, passed, stands}
use Rattle.symbol_winners.proofs.choosing.note.Goals as goal

pub returns-in-Some-clause-bests : goal.returns-in-Some-clause-bests
returns-in-Some-clause-bests c = λ files fs least are.
    let at : position (bytes_eq (held_name c.args.candidate)) c.args.names.now ≡ Some c.in-Some.id = sym (c.id_of_number.ensures.meaning c.args.candidate.symbol.now c.requires.numbered.external c.requires.numbered.number_is) ∙ c.in-Some.is in
    record {
      are = noted (best_of files) held_name c.args.names.now fs c.args.candidate c.args.table.now.items c.in-Some.id c.with.result c.requires.numbering.distinct at are.are
          (c.with.ensures files (named held_name (held_name c.args.candidate) fs) (c.index_mut-place.ensures.value ∙ stands (best_of files) held_name c.args.names.now fs (held_name c.args.candidate) c.args.table.now.items c.in-Some.id _ at are.are) (c.wins-wins.ensures files c.args.names.now least at));
    }

pub returns-in_default-clause-bests : goal.returns-in_default-clause-bests
returns-in_default-clause-bests c = λ files fs least are.
    record { are = passed (best_of files) held_name c.args.names.now fs c.args.candidate c.args.table.now.items (sym (c.id_of_number.ensures.meaning c.args.candidate.symbol.now c.requires.numbered.external c.requires.numbered.number_is) ∙ c.in_default.is) are.are }
