use Rattle.std.proofs.Common.{◌≡◌, sym, ap, ◌∙◌}
use Rattle.std.specs.Option.{option_map}
use Rattle.mo_cmd.specs.Faults.{has_wildcard}
use Rattle.mo_cmd.specs.Lists.{lines_left, is_name, trimmed, without_end}
use Rattle.mo_cmd.proofs.LineLemmas.{read_stops}
use Rattle.mo_cmd.proofs.name_list.read_list.Goals as goal

pub returns-then-has_wildcard : goal.returns-then-has_wildcard
returns-then-has_wildcard c =
    let name : c.without_end-name.result.now ≡ trimmed c.cut_line.result.0.now = c.without_end-name.ensures ∙ ap without_end c.without_front.ensures in
    λ _. read_stops c.args.bytes.now c.cut_line.result.0.now c.loop-left.names _ _ c.loop-left.invariant
    (c.cut_line.ensures.exact ∙ sym (ap (λ left. lines_left (option_map (λ text. text.now) left)) c.in-Some.is))
    (ap is_name (sym name) ∙ sym c.is_name.ensures ∙ c.if-is_name.true) (ap has_wildcard (sym name) ∙ sym c.has_wildcard.ensures ∙ c.if-has_wildcard.true)
