use Rattle.pt_terms.proofs.Marks.{AreMarked}
use Rattle.pt_terms.proofs.elaborator.Elaborator.marks.Given as goal

-- the nodes that are looked at have set the marks of their children
abbrev pub invariant-loop-k : goal.invariant-loop-k
invariant-loop-k l = record {
  marked : AreMarked l.self.formula l.fn.body l.k l.marks.items;
}
