use Rattle.link_files.specs.Resolved.{files_of}
use Rattle.link_files.proofs.ImageLemmas.{fault_made, image_made, inputs_near}
use Rattle.link_files.proofs.KeptLemmas.{are_cut, kept_low, kept_rise}
use Rattle.link_files.proofs.image.image_of.Goals as goal

pub make_image-requires-clause-rising : goal.make_image-requires-clause-rising
make_image-requires-clause-rising g c κs within =
    let r = c.args.resolved.now in
    kept_rise r.symbols.now.literals r.symbols.now.winners c.args.kept.now.keys.now (files_of r) c.requires.whole.rises (are_cut r.loaded.now c.requires.whole) (λ k d low. (c.requires.low k d low).sections) c.requires.keys

pub make_image-requires-clause-low : goal.make_image-requires-clause-low
make_image-requires-clause-low g c κs within = let r = c.args.resolved.now in kept_low r.command.now (files_of r) r.symbols.now c.args.kept.now.keys.now c.requires.low c.requires.resolved.symbols

pub make_image-requires-clause-near : goal.make_image-requires-clause-near
make_image-requires-clause-near g c κs within =
    inputs_near c.args.resolved.now c.header_flags.result c.args.kept.now.keys.now c.args.kept.now.slots.now c.no_islands-islands.result c.args.kept.now.unwinds.now c.requires.whole.files
    c.requires.resolved (rw c.as_slice.ensures at c.header_flags.ensures.exact) c.no_islands-islands.ensures c.requires.unwinds

pub returns-in-Ok : goal.returns-in-Ok
returns-in-Ok g c =
    image_made c.args.resolved.now c.header_flags.result c.args.kept.now.keys.now c.args.kept.now.slots.now c.no_islands-islands.result c.args.kept.now.unwinds.now c.in-Ok.image
    c.requires.resolved (rw c.as_slice.ensures at c.header_flags.ensures.exact) c.no_islands-islands.ensures c.requires.unwinds c.in-Ok.ensures

pub returns : goal.returns
returns g c =
    fault_made c.args.resolved.now c.header_flags.result c.args.kept.now.keys.now c.args.kept.now.slots.now c.no_islands-islands.result c.args.kept.now.unwinds.now c.in-Err.fault c.in_ok-refusal_of-in-Err.field-0
    c.requires.resolved (rw c.as_slice.ensures at c.header_flags.ensures.exact) c.no_islands-islands.ensures c.requires.unwinds c.in-Err.ensures
    c.in_ok-refusal_of-in-Err.ensures

pub make_image-requires-clause-frames : goal.make_image-requires-clause-frames
make_image-requires-clause-frames g c κs within = record {
  kept = c.requires.unwinds;
  read = c.requires.read;
  handlers = c.requires.handlers.listed;
  are_handlers = c.requires.handlers.each;
  few = c.requires.handlers.few;
}
