use Rattle.std.proofs.Common.{[], ◌∷◌, ◌++◌, refl, ap, ◌∙◌}
use Rattle.input_read.proofs.SortLemmas.{archive_known, object_single, sort_archive, sort_object, sort_stubs}
use Rattle.input_read.proofs.sorting.sort.Goals as goal

pub invariant_of-push : goal.invariant_of-push
invariant_of-push c = record { opened = object_single c.loop-opening.opening-iterator.rest.items c.next.new.self.rest.items c.in-Object.input c.in-Object.file c.loop-opening.invariant.sound (c.in-Some.ensures.steps.0 ∙ ap (λ one. one ∷ c.next.new.self.rest.items) c.in-Object.is) }

pub loop-opening-preserved-in-Continue-branch-2 : goal.loop-opening-preserved-in-Continue-branch-2
loop-opening-preserved-in-Continue-branch-2 c = sort_object c.loop-opening.sources c.push-in-Object.new.self c.loop-opening.objects c.push.new.self c.loop-opening.stubs c.args.openings c.loop-opening.yielded c.loop-opening.opening-iterator.rest.items _ c.next.new.self.rest.items c.in-Object.input c.in-Object.file _ c.loop-opening.invariant
    (c.in-Some.ensures.steps.0 ∙ ap (λ one. one ∷ c.next.new.self.rest.items) c.in-Object.is) (ap (λ one. c.loop-opening.yielded ++ one ∷ []) c.in-Object.is) c.in_ok-push-in-Object-2.ensures.ok refl c.in_ok-push-in-Object.ensures.ok

pub invariant_of-push-in-Archive : goal.invariant_of-push-in-Archive
invariant_of-push-in-Archive c = record { opened = archive_known c.loop-opening.opening-iterator.rest.items c.next.new.self.rest.items c.in-Archive.input c.in-Archive.archive c.loop-opening.invariant.sound (c.in-Some.ensures.steps.0 ∙ ap (λ one. one ∷ c.next.new.self.rest.items) c.in-Archive.is) }

pub loop-opening-preserved-in-Continue-branch-3 : goal.loop-opening-preserved-in-Continue-branch-3
loop-opening-preserved-in-Continue-branch-3 c = sort_archive c.loop-opening.sources c.push-in-Archive.new.self c.loop-opening.objects c.loop-opening.stubs c.args.openings c.loop-opening.yielded c.loop-opening.opening-iterator.rest.items _ c.next.new.self.rest.items c.in-Archive.input c.in-Archive.archive _ c.loop-opening.invariant
    (c.in-Some.ensures.steps.0 ∙ ap (λ one. one ∷ c.next.new.self.rest.items) c.in-Archive.is) (ap (λ one. c.loop-opening.yielded ++ one ∷ []) c.in-Archive.is) c.in_ok-push-in-Archive.ensures.ok refl

pub loop-opening-preserved : goal.loop-opening-preserved
loop-opening-preserved c = sort_stubs c.loop-opening.sources c.loop-opening.objects c.loop-opening.stubs c.push-in-Stubs.new.self c.args.openings c.loop-opening.yielded c.loop-opening.opening-iterator.rest.items _ c.next.new.self.rest.items c.in-Stubs.named c.loop-opening.invariant
    (c.in-Some.ensures.steps.0 ∙ ap (λ one. one ∷ c.next.new.self.rest.items) c.in-Stubs.is) (ap (λ one. c.loop-opening.yielded ++ one ∷ []) c.in-Stubs.is) c.in_ok-push-in-Stubs.ensures.ok
