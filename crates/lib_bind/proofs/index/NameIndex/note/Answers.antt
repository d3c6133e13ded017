use Rattle.std.proofs.Common.{◌≡◌, ℕ, List, Some, bytes_eq, if◌then◌else◌, subst}
use Rattle.lib_bind.specs.inner.Index.{known}
use Rattle.lib_bind.specs.inner.Key.{bytes_of}
use Rattle.lib_bind.proofs.IndexLemmas.{put_at}
use Rattle.lib_bind.proofs.index.NameIndex.note.Goals as goal

pub returns : goal.returns
returns c = λ other.
    subst (λ (name : List ℕ). known (record { map = c.insert.new.self }) other ≡ (if bytes_eq other name then Some c.args.offer else known c.args.self other)) c.in_ok-key_of.ensures
    (put_at bytes_of (bytes_of c.in_ok-key_of.field-0) c.args.self.map c.insert.new.self (Some c.args.offer) c.in_ok-insert.ensures.updates other)
