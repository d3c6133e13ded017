use Rattle.unwind_read.proofs.RangeLemmas.{ranges_more}
use Rattle.unwind_read.proofs.ranges.Ranges.push.Goals as goal

pub returns : goal.returns
returns c = λ spans are.
    ranges_more c.args.self.now (record { places = c.push.new.self; end = c.end_of-self.result; rises = c.still_rises-self.result }) spans c.args.span.now are c.in_ok-push.ensures.items c.still_rises-self.ensures c.end_of-self.ensures
