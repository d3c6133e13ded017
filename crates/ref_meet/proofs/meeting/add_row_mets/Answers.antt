use Rattle.std.proofs.Common.{List, ◌++◌, ap, sym, ◌∙◌}
use Rattle.std.proofs.lemmas.List.{append-nil}
use Rattle.patch.specs.declared.met.Met.{Met}
use Rattle.ref_meet.specs.Mets.{met_of, mets_of}
use Rattle.ref_meet.specs.Ready.{scene_of}
use Rattle.ref_meet.proofs.RowLemmas.{none_found}
use Rattle.ref_meet.proofs.meeting.add_row_mets.Goals as goal

pub returns-in-None : goal.returns-in-None
unfolding mets_of
returns-in-None c =
    sym (append-nil c.args.mets.now.items)
    ∙ ap (λ (ys : List Met). c.args.mets.now.items ++ ys)
    (sym (none_found (met_of (scene_of c.args.setting.now.scene.now) c.args.setting.now.words.now c.args.item.now) c.args.setting.now.scene.now.loaded.now.files c.args.item.now c.in-None.ensures.row))
