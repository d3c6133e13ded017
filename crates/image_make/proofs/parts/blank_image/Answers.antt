use Rattle.std.proofs.Common.{◌≡◌, ℕ, ◌+◌, List, IfOk, subst, ap, ◌∙◌, length}
use Rattle.fixup_chain.specs.declared.chains.Chains.{Chains}
use Rattle.image_make.specs.Parts.{linkedit_offset}
use Rattle.image_make.proofs.SlotLemmas.{all_parts, blank_is, lie_apart}
use Rattle.image_make.proofs.parts.blank_image.Goals as goal

pub join-requires-clause-apart : goal.join-requires-clause-apart
join-requires-clause-apart c =
    let chains : Chains = record { words = c.args.words.now; blob = c.args.blob } in
    let offset = c.linkedit_offset-offset.ensures ∙ ap linkedit_offset c.as_slice.ensures in
    let parts = all_parts c.args.layout.now c.args.slots.now c.args.info chains c.args.front c.linkedit_offset-offset.result c.new-parts.result c.push.new.self c.add_own.new.parts c.add_info.new.parts c.add_own-2.new.parts c.add_own-3.new.parts c.push-2.new.self
    offset c.new-parts.ensures c.in_ok-push.ensures.ok c.in_ok-add_own.ensures c.in_ok-add_info.ensures c.in_ok-add_own-2.ensures c.in_ok-add_own-3.ensures c.in_ok-push-2.ensures.ok in
    let size : c.linkedit_offset-offset.result + c.len.result ≡ linkedit_offset c.args.layout.now.segments + length c.args.blob = ap (λ (n : ℕ). n + c.len.result) offset ∙ ap (λ (n : ℕ). linkedit_offset c.args.layout.now.segments + n) c.len.ensures in
    lie_apart c.args.layout.now c.args.slots.now c.args.info chains c.args.front (c.linkedit_offset-offset.result + c.len.result) c.push-2.new.self size parts c.requires.apart

pub returns : goal.returns
returns c =
    let chains : Chains = record { words = c.args.words.now; blob = c.args.blob } in
    let offset = c.linkedit_offset-offset.ensures ∙ ap linkedit_offset c.as_slice.ensures in
    let parts = all_parts c.args.layout.now c.args.slots.now c.args.info chains c.args.front c.linkedit_offset-offset.result c.new-parts.result c.push.new.self c.add_own.new.parts c.add_info.new.parts c.add_own-2.new.parts c.add_own-3.new.parts c.push-2.new.self
    offset c.new-parts.ensures c.in_ok-push.ensures.ok c.in_ok-add_own.ensures c.in_ok-add_info.ensures c.in_ok-add_own-2.ensures c.in_ok-add_own-3.ensures c.in_ok-push-2.ensures.ok in
    let size : c.linkedit_offset-offset.result + c.len.result ≡ linkedit_offset c.args.layout.now.segments + length c.args.blob = ap (λ (n : ℕ). n + c.len.result) offset ∙ ap (λ (n : ℕ). linkedit_offset c.args.layout.now.segments + n) c.len.ensures in
    subst (λ (xs : List ℕ). IfOk c.join.result (λ blank. blank.items ≡ xs)) (blank_is c.args.layout.now c.args.slots.now c.args.info chains c.args.front (c.linkedit_offset-offset.result + c.len.result) c.push-2.new.self size parts) c.join.ensures.joined
