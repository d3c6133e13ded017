use Rattle.std.proofs.Common.{Ok, Err, ap, map, refl}
use Rattle.file_cache.specs.Kept.{exchange_kept}
use Rattle.link_engine.proofs.LinkLemmas.{answered, fault_ends, files_still, plan_ends, read_fault_rises, settles_ended, settles_plan, settles_told, usage_told}
use Rattle.link_engine.proofs.SaysLemmas.{untouched}
use Rattle.link_engine.proofs.link.Goals as goal

pub returns-in-Ok-clause-settles : goal.returns-in-Ok-clause-settles
returns-in-Ok-clause-settles g c =
    answered g.F.Files.answers c.args.words.now (Ok c.in-Ok.plan) _ _ _ _ (ap (map exchange_kept) c.new-cache.ensures) c.in-Ok.ensures (λ ends. plan_ends)
    (λ look is. settles_plan c.args.words.now look c.in-Ok.plan c.carry_out.result _ _ is c.carry_out.ensures.kind c.carry_out.ensures.failed c.carry_out.ensures.done c.carry_out.ensures.part)

pub returns-clause-settles : goal.returns-clause-settles
returns-clause-settles g c =
    answered g.F.Files.answers c.args.words.now (Err c.in-Err.fault) _ _ _ _ (ap (map exchange_kept) c.new-cache.ensures) c.in-Err.ensures (fault_ends c.in-Err.fault _ c.ended.result c.status_of.ensures c.ended.ensures.same)
    (λ look gives. settles_ended c.args.words.now look c.in-Err.fault _ c.ended.result _ _ c.status_of.ensures c.ended.ensures.same gives (record { files = untouched _; calls = untouched _; says = c.ended.ensures.says }))

pub returns-in-Ok-clause-told : goal.returns-in-Ok-clause-told
returns-in-Ok-clause-told g c = settles_told g.F.Files.answers c.args.words.now _ _ _ _ _ refl (returns-in-Ok-clause-settles g c)

pub returns-clause-told : goal.returns-clause-told
returns-clause-told g c = settles_told g.F.Files.answers c.args.words.now _ _ _ _ _ refl (returns-clause-settles g c)

pub returns-in-Ok-clause-usage : goal.returns-in-Ok-clause-usage
returns-in-Ok-clause-usage g c word rule = usage_told g.F.Files.answers c.args.words.now _ _ _ _ _ refl word rule (returns-in-Ok-clause-settles g c)

pub returns-clause-usage : goal.returns-clause-usage
returns-clause-usage g c word rule = usage_told g.F.Files.answers c.args.words.now _ _ _ _ _ refl word rule (returns-clause-settles g c)

pub returns-in-Ok-clause-read_fault : goal.returns-in-Ok-clause-read_fault
returns-in-Ok-clause-read_fault g c path is = read_fault_rises g.F.Files.answers c.args.words.now _ _ _ _ _ refl path is (returns-in-Ok-clause-settles g c)

pub returns-clause-read_fault : goal.returns-clause-read_fault
returns-clause-read_fault g c path is = read_fault_rises g.F.Files.answers c.args.words.now _ _ _ _ _ refl path is (returns-clause-settles g c)

pub returns-in-Ok-clause-files_still : goal.returns-in-Ok-clause-files_still
returns-in-Ok-clause-files_still g c well = files_still g.F.Files.answers c.args.words.now _ _ _ _ _ refl well (returns-in-Ok-clause-settles g c)

pub returns-clause-files_still : goal.returns-clause-files_still
returns-clause-files_still g c well = files_still g.F.Files.answers c.args.words.now _ _ _ _ _ refl well (returns-clause-settles g c)

pub returns-in-Ok-clause-holds : goal.returns-in-Ok-clause-holds
returns-in-Ok-clause-holds g c = c.in-Ok.ensures.files.holds

pub returns-clause-holds : goal.returns-clause-holds
returns-clause-holds g c = c.in-Err.ensures.files.holds

pub returns-in-Ok-clause-files_faults : goal.returns-in-Ok-clause-files_faults
returns-in-Ok-clause-files_faults g c = c.in-Ok.ensures.files.rises

pub returns-clause-files_faults : goal.returns-clause-files_faults
returns-clause-files_faults g c = c.in-Err.ensures.files.rises
