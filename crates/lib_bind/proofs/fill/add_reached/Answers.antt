use Rattle.std.proofs.Common.{get_or}
use Rattle.lib_bind.proofs.ReachedLemmas.{contains_at, covers, done, names, next, number_at}
use Rattle.lib_bind.proofs.fill.add_reached.Goals as goal

pub add_document-requires-clause-within : goal.add_document-requires-clause-within
add_document-requires-clause-within c = c.requires.within _ (contains_at c.args.reached.now c.loop-document.document-index c.loop-document-test.true)

pub loop-document-preserved : goal.loop-document-preserved
loop-document-preserved c =
    next c.args.documents.now c.args.library c.args.before c.loop-document.filling c.in_ok-filling.filling c.args.reached.now c.loop-document.document-index (get_or c.args.reached.now c.loop-document.document-index 0)
    c.loop-document.invariant c.loop-document-test.true (number_at c.args.reached.now c.loop-document.document-index c.loop-document-test.true) c.requires.before
    c.in_ok-filling.ensures.size c.in_ok-filling.ensures.marks c.in_ok-filling.ensures.new c.in_ok-filling.ensures.seen

pub returns-clause-covers : goal.returns-clause-covers
returns-clause-covers c =
    covers c.args.documents.now c.args.library c.args.before c.loop-document.filling c.args.reached.now
    (done c.args.documents.now c.args.library c.args.before c.loop-document.filling c.args.reached.now c.loop-document.document-index c.loop-document-test.false c.loop-document.invariant)

pub returns-clause-names : goal.returns-clause-names
returns-clause-names c = λ name.
    names c.args.documents.now c.args.library c.args.before c.loop-document.filling c.args.reached.now
    (done c.args.documents.now c.args.library c.args.before c.loop-document.filling c.args.reached.now c.loop-document.document-index c.loop-document-test.false c.loop-document.invariant) c.requires.before name
