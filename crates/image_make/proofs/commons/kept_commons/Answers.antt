use Rattle.std.proofs.Common.{◌≡◌, IfOk, ◌∙◌, subst, ap, sym, List, map}
use Rattle.std.specs.Prelude.{All, Option}
use Rattle.std.specs.List.{filter_map}
use Rattle.std.specs.List.Sorted.{IsStrictlySortedBy}
use Rattle.mo_types.specs.Keys.{compare_keys}
use Rattle.mo_types.specs.declared.atom.Atom.{Atom}
use Rattle.mo_types.specs.declared.key.AtomKey.{AtomKey}
use Rattle.mo_types.specs.declared.key.TheConstants.{COMMON_SECTION}
use Rattle.image_make.specs.Atoms.{common_at}
use Rattle.image_make.specs.inner.Commons.{all_commons, common_keys}
use Rattle.image_make.proofs.CommonLemmas.{all_present, are_common, common_rises}
use Rattle.image_make.proofs.commons.kept_commons.Goals as goal

pub found_for-requires-clause-keys : goal.found_for-requires-clause-keys
found_for-requires-clause-keys c = subst (IsStrictlySortedBy compare_keys) (sym (c.as_slice.ensures.value ∙ c.in_ok-keys.ensures)) (common_rises c.args.keys.now c.requires)

pub found_for-requires-clause-commons : goal.found_for-requires-clause-commons
found_for-requires-clause-commons c = subst (λ (keys : List AtomKey). All (λ (key : AtomKey). key.section ≡ COMMON_SECTION) keys) (sym (c.as_slice.ensures.value ∙ c.in_ok-keys.ensures)) (are_common c.args.keys.now)

pub returns : goal.returns
unfolding all_commons
returns c =
    let winners = c.args.winners.now in
    let same = ap (λ (os : List (Option Atom)). filter_map (λ (o : Option Atom). o) os)
    (c.as_slice-2.ensures.value ∙ c.in_ok-found.ensures ∙ ap (λ (keys : List AtomKey). map (common_at winners) keys) (c.as_slice.ensures.value ∙ c.in_ok-keys.ensures))
    ∙ all_present (common_at winners) (common_keys c.args.keys.now) in
    subst (λ (xs : List Atom). IfOk c.all_found.result (λ atoms. atoms.items ≡ xs)) same c.all_found.ensures
