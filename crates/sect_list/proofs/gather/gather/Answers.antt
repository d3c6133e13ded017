use Rattle.std.proofs.Common.{rules, ap, refl}
use Rattle.std.specs.Option.{option_map}
use Rattle.sect_list.specs.inner.Gathered.{held_home}
use Rattle.sect_list.proofs.Gathering.{walk_starts, walk_takes, walk_skips, walk_ends}
use Rattle.sect_list.proofs.gather.gather.Goals as goal
use Rattle.sect_list.proofs.gather.gather.Goals.{in-Some+in_ok-add_row-in-Some, in-None}

pub loop-atom-init : goal.loop-atom-init
loop-atom-init c = walk_starts c.args.files.now c.args.kept.now c.new-places.result.keys c.new-sections.result.items c.common_key-last.result (held_home c.common_home.result) (search rules) c.new-sections.ensures.items c.common_key-last.ensures c.common_home.ensures

pub loop-atom-preserved : goal.loop-atom-preserved
loop-atom-preserved c =
    elim c.match-home.branch [
      | in-Some+in_ok-add_row-in-Some w ↦
          rw (w.places-is, w.sections-is)
          (walk_takes c.args.files.now c.args.kept.now c.loop-atom.atom-index c.loop-atom.places.keys w.add_row.new.places.keys c.loop-atom.sections.items w.add_row.new.sections.items c.loop-atom.last (option_map held_home c.loop-atom.home) (option_map held_home c.next_home-home.result) _ _ (held_home w.in-Some.home) c.loop-atom.invariant c.loop-atom-test.true refl c.next_home-home.ensures (ap (option_map held_home) w.in-Some.is) w.in_ok-add_row-in-Some.ensures)
      | in-None w ↦
          rw (w.places-is, w.sections-is)
          (walk_skips c.args.files.now c.args.kept.now c.loop-atom.atom-index c.loop-atom.places.keys c.loop-atom.sections.items c.loop-atom.last (option_map held_home c.loop-atom.home) (option_map held_home c.next_home-home.result) _ _ c.loop-atom.invariant c.loop-atom-test.true refl c.next_home-home.ensures (ap (option_map held_home) w.in-None.is))
    ]

pub returns : goal.returns
returns c = walk_ends c.args.files.now c.args.kept.now c.loop-atom.atom-index c.loop-atom.places.keys c.loop-atom.sections.items c.loop-atom.last (option_map held_home c.loop-atom.home) c.loop-atom.invariant c.loop-atom-test.false
