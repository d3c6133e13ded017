use Rattle.std.proofs.Common.{◌∙◌, ◌++◌, ℕ, List, refl, ap, subst}
use Rattle.std.proofs.lemmas.Result.{err_from_is_err_and}
use Rattle.mo_types.specs.declared.loaded.LoadedFile.{LoadedFile}
use Rattle.name_ids.specs.Names.{AreNames, numbers_of}
use Rattle.symbol_winners.specs.Found.{AreNamed}
use Rattle.member_rounds.proofs.LinkLemmas.{link_goes_on, link_names_fail, named_new, read_whole}
use Rattle.member_rounds.proofs.loading.join_round.Goals as goal

pub ask_round-requires-clause-whole : goal.ask_round-requires-clause-whole
ask_round-requires-clause-whole g c κs within = read_whole c.args.rules.now.offers c.args.rules.now.libs.now c.args.rules.now.wanted.now c.args.link c.args.read c.requires.read

pub ask_round-requires-clause-named : goal.ask_round-requires-clause-named
ask_round-requires-clause-named g c κs within = subst (λ (fs : List LoadedFile). AreNamed c.in_ok-fresh.fresh.names fs) c.as_slice-2.ensures (named_new c.args.link.kept.files c.as_slice-2.result.now c.args.rules.now.wanted.now c.in_ok-fresh.fresh.names (c.in_ok-fresh.ensures.names c.args.link.kept.files c.requires.read.link_is.names))

pub ask_round-requires-clause-numbers : goal.ask_round-requires-clause-numbers
ask_round-requires-clause-numbers g c κs within = c.in_ok-fresh.ensures.numbers ∙ ap (numbers_of c.in_ok-fresh.fresh.names) c.as_slice-2.ensures

pub returns-in_err-fresh-clause-fault : goal.returns-in_err-fresh-clause-fault
returns-in_err-fresh-clause-fault g c = let p = err_from_is_err_and c.from_residual.result c.from_residual.ensures.1 in rw (p.1, p.2) λ real.
    link_names_fail c.args.rules.now.offers c.args.rules.now.libs.now c.args.rules.now.wanted.now c.args.link c.args.read (c.args.link.kept.files ++ c.args.read) c.in_err-fresh.field-0.0 c.requires.read.link_is c.requires.read.rounds c.requires.read.read refl (rw c.as_slice-2.ensures at c.in_err-fresh.ensures.fault real c.args.link.kept.files c.requires.read.link_is.names)

pub returns-clause-link : goal.returns-clause-link
returns-clause-link g c =
    link_goes_on _ _ c.args.link _ c.args.read c.in_ok-asking.ids.items c.requires.read (rw c.as_slice.ensures at c.positions_fit.ensures) refl c.in_ok-kept.ensures
    (λ kept so. subst (λ (fs : List LoadedFile). AreNames (kept ++ fs) c.args.rules.now.wanted.now c.in_ok-fresh.fresh.names) c.as_slice-2.ensures (c.in_ok-fresh.ensures.names kept so))
    c.in_ok-fresh.ensures.stay
    c.in_ok-fresh.ensures.behind
    (c.in_ok-numbers.ensures ∙ ap (λ (ns : List (List ℕ)). c.args.link.numbered.numbers ++ ns) (c.in_ok-fresh.ensures.numbers ∙ ap (numbers_of c.in_ok-fresh.fresh.names) c.as_slice-2.ensures))
    refl refl c.first_names_at.ensures c.in_ok-asking.ensures c.in_ok-left.ensures.left c.in_ok-left.ensures.rises c.in_ok-left.ensures.taken
