use Rattle.sym_out.proofs.Numbering.{site_none, site_there}
use Rattle.sym_out.proofs.sites.Sites.find.Goals as goal

pub returns-in-Some : goal.returns-in-Some
returns-in-Some c =
    site_there c.args.self.now c.self.inside.layout.now c.self.inside.placed c.as_slice.result.now c.self.inside.numbers.items c.args.atom.now c.in-Some.at c.index.result.now
    (record { atom = record { file = record { position = 0; member = 0 }; section = 0; offset = 0 }; address = 0 })
    c.find_near.ensures.once c.in-Some.ensures.found c.self.invariant c.self.view_is c.as_slice.ensures c.index.ensures

pub returns-in-None : goal.returns-in-None
returns-in-None c =
    site_none c.args.self.now c.self.inside.layout.now c.self.inside.placed c.self.inside.numbers.items c.args.atom.now
    c.find_near.ensures.once c.in-None.ensures.found c.self.invariant c.self.view_is
