use Rattle.std.proofs.Common.{List, None, Option, ap, fold, sym, subst, ◌∙◌}
use Rattle.unwind_link.specs.Dwarf.{IsFirst, dwarfs}
use Rattle.unwind_link.specs.inner.Least.{lesser}
use Rattle.unwind_link.specs.declared.kept.KeptUnwind.{KeptUnwind}
use Rattle.unwind_link.proofs.LeastLemmas.{is_first}
use Rattle.unwind_link.proofs.dwarf.first_dwarf.Goals as goal

pub returns : goal.returns
returns c =
    subst (λ (found : Option KeptUnwind). IsFirst (dwarfs c.args.kept.now) found)
    (sym (c.first_of.ensures ∙ ap (λ (kept : List KeptUnwind). fold lesser None (dwarfs kept)) c.as_slice.ensures))
    (is_first (dwarfs c.args.kept.now))
