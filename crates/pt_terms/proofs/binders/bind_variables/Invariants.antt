use Rattle.std.proofs.Common.{◌≡◌, take, map, reverse}
use Rattle.pt_terms.specs.Names.{bind}
use Rattle.pt_terms.specs.Terms.{as_bound}
use Rattle.pt_terms.proofs.binders.bind_variables.Given as goal

-- the variables so far are bound
abbrev pub invariant-loop-x : goal.invariant-loop-x
invariant-loop-x l = l.env ≡ bind (map as_bound (reverse (map (λ x. (x.0.now, x.1, x.2)) (take l.x-index l.variables)))) l.fn.env
