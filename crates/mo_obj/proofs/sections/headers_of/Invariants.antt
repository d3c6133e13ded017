use Rattle.mo_obj.specs.Sections.{header_at}
use Rattle.mo_obj.proofs.TableLemmas.{IsMapped}
use Rattle.mo_obj.proofs.sections.headers_of.Given as goal

abbrev pub invariant-loop-i : goal.invariant-loop-i
invariant-loop-i l = IsMapped (header_at l.bytes l.frame) l.i l.headers.items
