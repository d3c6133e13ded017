use Rattle.std.proofs.Common.{◌≡◌, codes, drop}
use Rattle.std.specs.List.{find}
use Rattle.std.specs.Str.{bytes_eq}
use Rattle.sect_place.specs.declared.layout.Segment.{Segment}
use Rattle.islands.proofs.ground.end_of.Given as goal

abbrev pub invariant-loop-segment : goal.invariant-loop-segment
invariant-loop-segment l = find (λ (s : Segment). bytes_eq s.name (codes "__TEXT")) (drop l.segment-index l.segments) ≡ find (λ (s : Segment). bytes_eq s.name (codes "__TEXT")) l.segments
