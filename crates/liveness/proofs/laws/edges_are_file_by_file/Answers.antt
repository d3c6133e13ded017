use Rattle.liveness.proofs.EdgeLemmas.{edges_by_file, supports_by_file}
use Rattle.liveness.proofs.laws.edges_are_file_by_file.Goals as goal

pub returns : goal.returns
returns c = record { edges = edges_by_file; supports = supports_by_file }
