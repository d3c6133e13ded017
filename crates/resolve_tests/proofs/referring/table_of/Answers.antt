use Rattle.resolve_tests.proofs.referring.table_of.Goals as goal

pub new-requires : goal.new-requires
new-requires c = rw c.requires.two c.requires.within
