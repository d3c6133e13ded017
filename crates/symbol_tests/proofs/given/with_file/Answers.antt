use Rattle.std.proofs.Common.{◌≡◌, zero, suc, arith, List, [], ◌∷◌, ◌++◌, All}
use Rattle.std.proofs.lemmas.List.Elements.{All-append}
use Rattle.mo_types.specs.Loaded.{IsWholeFile}
use Rattle.mo_types.specs.declared.loaded.LoadedFile.{LoadedFile}
use Rattle.symbol_tests.proofs.given.with_file.Goals as goal

one : (file : LoadedFile) → IsWholeFile file → All IsWholeFile (file ∷ [])
one file whole zero d low = whole
one file whole (suc k) d low = absurd (omega (arith, low))

more : (files new : List LoadedFile) (file : LoadedFile) → All IsWholeFile files → IsWholeFile file → new ≡ files ++ file ∷ [] → All IsWholeFile new
more files new file all whole is = rw is (All-append IsWholeFile files (file ∷ []) all (one file whole))

pub returns-in_ok-push-in-Some : goal.returns-in_ok-push-in-Some
returns-in_ok-push-in-Some c = more c.args.before.items c.push.new.self.items c.in-Some.file c.requires (rw c.in-Some.is at c.in_ok-file.ensures) c.in_ok-push-in-Some.ensures.items
