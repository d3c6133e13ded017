use Rattle.std.proofs.Common.{Ok, refl}
use Rattle.file_cache.specs.declared.asking.AskFault.TheVariants.{OutOfMemory}
use Rattle.file_cache.proofs.OneLemmas.{asked_run, asked_stopped, kept_more}
use Rattle.file_cache.proofs.asking.ask_files.Goals as goal

pub returns-in_err-file : goal.returns-in_err-file
returns-in_err-file g c =
    let e = c.fetch-fetched.ensures in
    asked_stopped g.F.Files.answers c.args.cache.now _ c.in_err-file.field-0.0 c.args.path.now _ _ c.fetch-fetched.result _ _ c.as_slice.ensures refl c.requires
    e.answers e.answer e.asked e.holds e.faults e.still e.refused e.failed c.said.ensures.bytes
    c.in_err-file.ensures.says c.from_residual.ensures.1

pub returns-in_err-keep : goal.returns-in_err-keep
returns-in_err-keep g c =
    let e = c.fetch-fetched.ensures in
    asked_stopped g.F.Files.answers c.args.cache.now _ OutOfMemory c.args.path.now _ _ c.fetch-fetched.result _ _ c.as_slice.ensures refl c.requires
    e.answers e.answer e.asked e.holds e.faults e.still e.refused e.failed c.said.ensures.bytes
    tt c.from_residual-in_err-keep.ensures.1

pub returns : goal.returns
returns g c =
    let e = c.fetch-fetched.ensures in
    asked_run g.F.Files.answers c.args.cache.now (Ok c.in_ok-file.file) c.args.path.now _ _ c.fetch-fetched.result _ _ c.as_slice.ensures refl c.requires
    e.answers e.answer e.asked e.holds e.faults e.still e.refused e.failed c.said.ensures.bytes
    c.in_ok-file.ensures.says (kept_more c.args.path.now c.in_ok-file.file _ c.args.cache.now c.keep.new.self c.in_ok-keep.ensures c.in_ok-file.ensures.says)
