use Rattle.link_files.specs.Lost.{is_lost}
use Rattle.link_files.specs.Resolved.{files_of}
use Rattle.link_files.proofs.LostLemmas.{IsSifted}
use Rattle.link_files.proofs.lost.lost_among.Given as goal

abbrev pub invariant-loop-name : goal.invariant-loop-name
invariant-loop-name l = IsSifted (is_lost l.resolved.command.now l.resolved.libs.now (files_of l.resolved)) l.lost.items l.names l.name-index
