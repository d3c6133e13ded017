use Rattle.std.proofs.Common.{List, ◌++◌, ap, ◌∙◌}
use Rattle.std.proofs.lemmas.List.Filters.{dedup_is}
use Rattle.mark_core.specs.Kept.{has}
use Rattle.mark_core.proofs.SetLemmas.{once_has, once_rises}
use Rattle.mo_types.specs.declared.key.AtomKey.{AtomKey}
use Rattle.mark_race.proofs.keeping.joined.Goals as goal

pub returns-clause-same : goal.returns-clause-same
returns-clause-same c = λ atom.
    once_has _ _ _ c.in_ok-sort.ensures.permutation (dedup_is _ _ _ c.dedup.ensures.filtered) atom
    ∙ ap (λ (ks : List AtomKey). has ks atom) (c.in_ok-append.ensures.items ∙ ap (λ (ks : List AtomKey). ks ++ c.args.more.items) c.into_vec-keys.ensures.all)

pub returns-clause-rising : goal.returns-clause-rising
returns-clause-rising c = once_rises _ _ c.in_ok-sort.ensures.sorted (dedup_is _ _ _ c.dedup.ensures.filtered)
