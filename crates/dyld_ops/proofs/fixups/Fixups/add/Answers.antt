use Rattle.std.proofs.Common.{◌≡◌, ◌∙◌, ap, sym, false, List}
use Rattle.std.specs.List.{list_any}
use Rattle.dyld_ops.specs.Machine.{with_fixup}
use Rattle.dyld_ops.specs.declared.fixup.OpFixup.{OpFixup}
use Rattle.dyld_ops.proofs.FixupLemmas.{adds_same, is_of}
use Rattle.dyld_ops.proofs.fixups.Fixups.add.Goals as goal
use Rattle.dyld_ops.specs.inner.Entries.{fixup_of}
use Rattle.std.specs.Prelude.{map}

pub returns-clause-ok : goal.returns-clause-ok
returns-clause-ok c =
    let free : list_any (is_of c.args.address) (map fixup_of c.self.inside.acts.entries) ≡ false = rw c.self.view_is c.requires in
    ap (map fixup_of) c.in_ok-insert.ensures.entries
    ∙ adds_same c.self.inside.acts.entries c.args.address c.args.act free
    ∙ ap (λ (old : List OpFixup). with_fixup (record { address = c.args.address; act = c.args.act }) old) c.self.view_is
