use Rattle.std.proofs.Common.{◌∙◌, ap, sym, refl, arith, Err}
use Rattle.dylib_read.specs.Dylib.{broken, exported, fault_of, many}
use Rattle.dylib_read.proofs.dylib.exports_of.Goals as goal

pub returns-then-len : goal.returns-then-len
returns-then-len c = λ real.
    many c.in-Some.trie.now c.in-Ok.exports (sym c.in-Some.ensures) c.in-Ok.ensures.whole c.in-Ok.ensures.exports (omega (arith, c.if-len.true, c.len.ensures)) refl

pub returns-else-len : goal.returns-else-len
returns-else-len c =
    exported c.in-Some.trie.now c.in-Ok.exports (sym c.in-Some.ensures) c.in-Ok.ensures.whole c.in-Ok.ensures.exports (omega (arith, c.if-len.false, c.len.ensures)) refl

pub returns-in-Err : goal.returns-in-Err
returns-in-Err c = λ real.
    broken c.in-Some.trie.now c.in-Err.fault (sym c.in-Some.ensures) c.in-Err.ensures.fault
    (ap Err (c.fault_of-in-Err.ensures ∙ ap (fault_of c.in-Err.fault) c.place_of-place.ensures))
