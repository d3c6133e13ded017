use Rattle.std.proofs.Common.{All, ◌<◌, subst, sym}
use Rattle.lib_bind.specs.declared.library.Library.{Library}
use Rattle.lib_bind.proofs.HeldLemmas.{files_reexports}
use Rattle.lib_bind.proofs.closing.all_begun.Goals as goal

pub reach_all-requires : goal.reach_all-requires
reach_all-requires c =
    subst (λ n. All (λ (library : Library). library.document < n) c.args.libraries.now) (sym (files_reexports c.args.heads.now c.args.files c.in_ok-growing.growing c.requires.heads c.in_ok-growing.ensures)) c.requires.libraries
