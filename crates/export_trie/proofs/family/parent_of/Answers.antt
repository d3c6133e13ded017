use Rattle.std.proofs.Common.{◌≡◌, ◌<◌, false, [], length, get_or, arith}
use Rattle.export_trie.specs.Strings.{begins}
use Rattle.export_trie.specs.Held.{held_names, texts}
use Rattle.export_trie.proofs.Reading.{tested, held_rising, held_root, length-texts}
use Rattle.export_trie.proofs.Parents.{seeks_some, seeks_more, seeks_found}
use Rattle.export_trie.proofs.family.parent_of.Goals as goal

pub loop-text-smaller : goal.loop-text-smaller
loop-text-smaller c =
    let strings = held_names c.args.exports.now in
    let nodes = texts strings c.args.nodes.now in
    let within : c.loop-text.above < length c.args.nodes.now = omega (arith, c.loop-text.invariant.before, c.requires.within) in
    let away : begins (get_or nodes c.loop-text.above []) (get_or nodes c.args.at []) ≡ false =
    tested strings c.args.nodes.now c.args.at c.loop-text.above _ _ _ _ _ c.requires.within within c.text_of-text.ensures.value c.text_of.ensures.value c.loop-text-test.ensures.value in
    let some : 0 < c.loop-text.above = seeks_some nodes c.args.at c.loop-text.above (held_rising strings c.args.nodes.now c.requires.held) (held_root strings c.args.nodes.now c.requires.held) away in
    (c.requires.before c.loop-text.above some c.loop-text.invariant.before).before

pub loop-text-preserved : goal.loop-text-preserved
loop-text-preserved c =
    let strings = held_names c.args.exports.now in
    let nodes = texts strings c.args.nodes.now in
    let within : c.loop-text.above < length c.args.nodes.now = omega (arith, c.loop-text.invariant.before, c.requires.within) in
    let away : begins (get_or nodes c.loop-text.above []) (get_or nodes c.args.at []) ≡ false =
    tested strings c.args.nodes.now c.args.at c.loop-text.above _ _ _ _ _ c.requires.within within c.text_of-text.ensures.value c.text_of.ensures.value c.loop-text-test.ensures.value in
    let some : 0 < c.loop-text.above = seeks_some nodes c.args.at c.loop-text.above (held_rising strings c.args.nodes.now c.requires.held) (held_root strings c.args.nodes.now c.requires.held) away in
    let long : length nodes ≡ length c.args.nodes.now = length-texts strings c.args.nodes.now in
    seeks_more nodes c.args.at c.loop-text.above _ (held_rising strings c.args.nodes.now c.requires.held) (omega (arith, c.requires.within)) c.loop-text.invariant away
    (c.requires.before c.loop-text.above some c.loop-text.invariant.before)

pub returns : goal.returns
returns c =
    let strings = held_names c.args.exports.now in
    let within : c.loop-text.above < length c.args.nodes.now = omega (arith, c.loop-text.invariant.before, c.requires.within) in
    seeks_found (texts strings c.args.nodes.now) c.args.at c.loop-text.above c.loop-text.invariant
    (tested strings c.args.nodes.now c.args.at c.loop-text.above _ _ _ _ _ c.requires.within within c.text_of-text.ensures.value c.text_of.ensures.value c.loop-text-test.ensures.value)
