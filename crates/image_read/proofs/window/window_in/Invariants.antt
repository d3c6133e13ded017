use Rattle.std.proofs.Common.{ℕ, ◌+◌, ◌<◌, ◌≤◌}
use Rattle.image_read.specs.Commands.{ncmds}
use Rattle.image_read.specs.Mapped.{holder_at}
use Rattle.image_read.proofs.CommandLemmas.{IsSearching, IsWalked}
use Rattle.image_read.proofs.window.window_in.Given as goal

abbrev pub invariant-loop-number : goal.invariant-loop-number
invariant-loop-number l = record {
  walked : IsWalked l.image (ncmds l.image) l._number l.at;
  apart : (v : ℕ) → l.first ≤ v → v < l.first + l.count → IsSearching (holder_at l.image v) l.image (ncmds l.image) l._number l.at;
}
