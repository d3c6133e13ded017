use Rattle.std.proofs.Common.{rules}
use Rattle.mo_obj.proofs.AcceptLemmas.{references_read}
use Rattle.mo_obj.proofs.UnwindLemmas.{entries_read}
use Rattle.mo_obj.proofs.accept.accept.Goals as goal

pub returns-clause-read : goal.returns-clause-read
returns-clause-read c file = references_read c.args.object.now c.args.foreign _ c.in_ok-refs.ensures.feature (search rules) file

pub returns-clause-entries : goal.returns-clause-entries
returns-clause-entries c file = entries_read c.args.object.now file c.in_ok-unwinds.ensures.kept
