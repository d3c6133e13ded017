use Rattle.std.proofs.Common.{rules, length, subst, sym}
use denote.Param.Send.{sendable}
use Rattle.patch.specs.Range.{AreWork}
use Rattle.image_join.specs.inner.Halves.{IsFilled}
use Rattle.image_join.proofs.HalfLemmas.{halves_filled, high_work, is_cut, low_work}
use Rattle.image_join.proofs.filling.+halves.Goals as goal

pub join_mut-low-requires-after_bounds : goal.join_mut-low-requires-after_bounds
join_mut-low-requires-after_bounds g t c κs within =
    let files = c.args.atoms.now.loaded.now.files in
    let mets = (g.M.Meeting.mets_of c.args.atoms.now.meeting.now) in
    let work = c.args.atoms.now.work.now in
    let from = c.args.from in
    let size = length c.args.piece.now in
    let at = c.cut_of.result in
    let before = c.split_at.result.0.now in
    let behind = c.split_at.result.1.now in
    let front = c.split_at_mut-front.result.0.now in
    let back = c.split_at_mut-front.result.1.now in
    let cut = is_cut files mets from size work behind at _ c.requires.work c.cut_of.ensures.1 c.split_at.ensures.back in
    let low : AreWork files mets from (length front) before =
    subst (AreWork files mets from (length front)) (sym c.split_at.ensures.front) (low_work files mets from size work at _ (length front) cut c.split_at_mut-front.ensures.front_len) in
    let high : AreWork files mets _ (length back) behind =
    subst (AreWork files mets _ (length back)) (sym c.split_at.ensures.back) (high_work files mets from size work at _ (length back) cut c.split_at_mut-front.ensures.back_len) in
    search (rules, sendable) depth 20

pub returns : goal.returns
returns g t c =
    let files = c.args.atoms.now.loaded.now.files in
    let mets = (g.M.Meeting.mets_of c.args.atoms.now.meeting.now) in
    let work = c.args.atoms.now.work.now in
    let from = c.args.from in
    let size = length c.args.piece.now in
    let at = c.cut_of.result in
    let before = c.split_at.result.0.now in
    let behind = c.split_at.result.1.now in
    let front = c.split_at_mut-front.result.0.now in
    let back = c.split_at_mut-front.result.1.now in
    let cut = is_cut files mets from size work behind at _ c.requires.work c.cut_of.ensures.1 c.split_at.ensures.back in
    let low : IsFilled files mets from before front c.front-1.given.0 c.join_mut-low.result.0 = search rules in
    let high : IsFilled files mets _ behind back c.back-1.given.0 c.join_mut-low.result.1 = search rules in
    halves_filled files mets from size work before behind at _ c.args.piece.now front back c.front-1.given.0 c.back-1.given.0 c.join_mut-low.result.0 c.join_mut-low.result.1 c.least_of.result
    cut c.split_at.ensures.front c.split_at.ensures.back c.split_at_mut-front.ensures.value c.split_at_mut-front.ensures.front_len low high c.least_of.ensures
