use Rattle.std.proofs.Common.{◌≡◌, arith}
use Rattle.std.specs.declared.cmp.Ordering.TheVariants.{Less}
use Rattle.std.proofs.lemmas.List.Sorted.{all_adjacent_more}
use Rattle.mo_types.specs.Keys.{compare_files}
use Rattle.mo_types.specs.declared.loaded.LoadedFile.{LoadedFile}
use Rattle.symbol_tests.proofs.Rise.{apart, files_before}
use Rattle.symbol_tests.proofs.given.are_rising.Goals as goal

pub loop-i-preserved : goal.loop-i-preserved
loop-i-preserved c = all_adjacent_more c.args.files.now (λ (a : LoadedFile) (b : LoadedFile). compare_files a.id b.id ≡ Less) c.loop-i.i (omega arith) c.loop-i.invariant
    (λ d. apart (λ (x y : LoadedFile). compare_files x.id y.id) c.args.files.now c.loop-i.i _ _ d (omega arith) c.loop-i-test.true c.in-Less.ensures)

pub returns : goal.returns
returns c = λ _. files_before c.args.files.now c.loop-i.i c.loop-i.invariant c.loop-i-test.false
