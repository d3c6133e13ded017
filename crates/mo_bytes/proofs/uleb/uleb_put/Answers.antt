use Rattle.std.proofs.Common.{arith}
use Rattle.mo_bytes.proofs.Ulebs.{is_uleb, uleb_only, read_back_on}
use Rattle.mo_bytes.proofs.uleb.uleb_put.Goals as goal

pub returns-clause-spelled : goal.returns-clause-spelled
returns-clause-spelled c = is_uleb c.args.value

pub returns-clause-only : goal.returns-clause-only
returns-clause-only c = λ bytes h short. uleb_only bytes c.args.value h short

pub returns-clause-read_back : goal.returns-clause-read_back
returns-clause-read_back c =
    read_back_on _ _ _ _ _ _ _ (omega arith) c.spell-count.ensures.front c.extend_from_slice.ensures.items c.args.out.now.ok.0 c.extend_from_slice.new.self.ok.0
