use Rattle.std.proofs.Common.{◌≡◌, ℕ, List, length, replicate, ap, ◌∙◌, rules}
use Rattle.image_join.specs.Joined.{joined}
use Rattle.image_join.specs.declared.parts.Part.{Part}
use Rattle.image_join.specs.inner.Writing.{with_parts}
use Rattle.image_join.proofs.JoinedLemmas.{length-joined}
use Rattle.image_join.proofs.WritingLemmas.{joins, put_back}
use Rattle.image_join.proofs.joining.join.Goals as goal

pub returns : goal.returns
returns c =
    let parts = c.args.parts.now in
    let zeros : c.as_mut_slice.result.now ≡ replicate parts.size 0 = search rules in
    let is : c.write_parts.new.image ≡ joined parts = joins parts c.as_mut_slice.result.now c.write_parts.new.image zeros c.requires.apart (c.write_parts.ensures ∙ ap (λ (ps : List Part). with_parts c.as_mut_slice.result.now ps) c.as_slice.ensures) in
    let size : parts.size ≡ c.in_ok-image.image.len = search rules in
    let long : length c.write_parts.new.image ≡ c.in_ok-image.image.len = ap (λ (z : List ℕ). length z) is ∙ length-joined parts ∙ size in
    record { joined = put_back c.in_ok-image.image.len c.write_parts.new.image c.in_ok-image.image.items long ∙ is }
