use Rattle.std.proofs.Common.{drop}
use Rattle.pt_terms.proofs.elaborator.Elaborator.apply_distinct.Given as goal

-- the arguments behind the first one
abbrev pub ghost-distinct : goal.ghost-distinct
ghost-distinct a = drop 1 a.all.now
