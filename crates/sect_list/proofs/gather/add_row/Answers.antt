use Rattle.std.proofs.Common.{◌≡◌, true, not, ap, subst, ◌∙◌}
use Rattle.std.specs.List.{list_any}
use Rattle.indexmap.specs.IndexSet.{insert_key}
use Rattle.mo_types.specs.Destination.{Destination}
use Rattle.sect_list.specs.OutSections.{same_destination}
use Rattle.sect_list.specs.inner.Gathered.{held_home}
use Rattle.sect_list.proofs.Gathering.{row_added, row_with}
use Rattle.sect_list.proofs.gather.add_row.Goals as goal

pub returns-in_ok-add_at : goal.returns-in_ok-add_at
returns-in_ok-add_at c = λ rows h.
    let stored = c.in_ok-at.ensures.stored in
    row_added rows c.args.places.now.keys c.insert_full.new.self.keys c.args.sections.now.items c.open_section.new.sections.items c.add_at.new.sections.items (row_with c.args.atom.now (held_home c.args.home)) c.in_ok-at.at stored.0 c.in_ok-at.new h
    (c.in_ok-at.ensures.keys ∙ ap (λ (to : Destination). insert_key same_destination c.args.places.now.keys to) c.new.ensures)
    c.in_ok-at.ensures.unique
    stored.1
    (subst (λ (to : Destination). same_destination to stored.0 ≡ true) c.new.ensures stored.2)
    (c.in_ok-at.ensures.added ∙ ap (λ (to : Destination). not (list_any (same_destination to) c.args.places.now.keys)) c.new.ensures)
    c.in_ok-open_section.ensures
    c.in_ok-add_at.ensures
