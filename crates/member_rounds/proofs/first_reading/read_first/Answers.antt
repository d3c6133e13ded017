use Rattle.std.proofs.Common.{◌∙◌}
use Rattle.std.proofs.lemmas.Result.{err_from_is_err_and}
use Rattle.input_files.specs.Sources.{inputs_of}
use Rattle.member_rounds.proofs.FirstLemmas.{first_fails, first_reads, first_whole, readable_members}
use Rattle.member_rounds.proofs.first_reading.read_first.Goals as goal

pub read_all-requires-clause-files : goal.read_all-requires-clause-files
read_all-requires-clause-files g c κs within = readable_members c.args.sources.now c.args.ids.now c.as_slice.result.now c.requires.order c.requires.ids (c.as_slice.ensures.value ∙ c.in_ok-members.ensures)

pub returns-in_err-read-clause-exact : goal.returns-in_err-read-clause-exact
returns-in_err-read-clause-exact g c = let p = err_from_is_err_and c.from_residual-in_err-read.result c.from_residual-in_err-read.ensures.1 in rw (p.1, p.2) λ real.
    first_fails (inputs_of c.args.sources.now) c.args.objects c.args.ids.now c.requires.order c.requires.objects c.requires.ids c.as_slice.result.now c.in_err-read.field-0.0 (c.as_slice.ensures.value ∙ c.in_ok-members.ensures) (c.in_err-read.ensures.exact real)

pub returns-clause-exact : goal.returns-clause-exact
returns-clause-exact g c =
    first_reads (inputs_of c.args.sources.now) c.args.objects c.args.ids.now c.requires.order c.requires.objects c.requires.ids c.as_slice.result.now c.in_ok-read.read c.in_ok-with_files.field-0.files c.in_order-files.result.files (c.as_slice.ensures.value ∙ c.in_ok-members.ensures) c.in_ok-read.ensures.exact c.in_ok-with_files.ensures
    c.in_order-files.ensures.permutation c.in_order-files.ensures.sorted

pub returns-clause-whole : goal.returns-clause-whole
returns-clause-whole g c =
    first_whole (inputs_of c.args.sources.now) c.args.objects c.args.ids.now c.requires.order c.requires.objects c.requires.ids c.as_slice.result.now c.in_ok-read.read c.in_ok-with_files.field-0.files c.in_order-files.result.files (c.as_slice.ensures.value ∙ c.in_ok-members.ensures) c.in_ok-read.ensures.exact c.in_ok-with_files.ensures
    c.in_order-files.ensures.permutation c.in_ok-read.ensures.whole
