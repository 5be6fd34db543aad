use Rattle.pt_scc.proofs.components.Goals as goal

pub returns : goal.returns
returns c = rw (c.edges.ensures.value, c.states.ensures.states, c.letters.ensures.letters) at c.in_ok-parts.ensures
