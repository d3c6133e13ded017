use Rattle.std.proofs.Common.{◌≤◌, ◌++◌, ◌∷◌, [], length, List, ℕ, ap, ◌∙◌, arith}
use Rattle.atom_cut.proofs.StringLemmas.{strings_begin, strings_end}
use Rattle.atom_cut.proofs.section_cuts.cuts_at_strings.Goals as goal

pub loop-end-init : goal.loop-end-init
loop-end-init c =
    let within : c.saturating_sub-last.result ≤ length c.args.strings.now = omega arith in (
      tt,
      tt,
      strings_begin _ _ _ _
          (c.in_ok-push.ensures.items ∙ ap (λ (xs : List ℕ). xs ++ 0 ∷ []) c.new-cuts.ensures.items)
          (c.into_iter-end-iterator.ensures.into_iter_gives ∙ c.memchr_iter-end-items.ensures.value) within,
    )

pub returns : goal.returns
returns c = strings_end _ _ _ _ c.loop-end.invariant.2 c.in-None.ensures.steps.0 c.saturating_sub-last.ensures
