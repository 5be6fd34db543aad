use Rattle.std.proofs.Common.{◌≡◌, ◌<◌, ◌≤◌, Ok, drop, length}
use Rattle.pt_fresh.specs.Builders.{close}
use Rattle.pt_fresh.specs.Outcomes.{Grows}
use Rattle.pt_fresh.proofs.closing.close_nodes.Given as goal

-- the node so far is the one of the definitions from here on
abbrev pub invariant-loop-left : goal.invariant-loop-left
invariant-loop-left l = record {
  told : close l.fn.a (drop l.left l.fn.side) l.fn.at l.fn.formula ≡ Ok (l.node, l.formula);
  within : l.left ≤ length l.fn.side;
  range : l.node < length l.formula;
  grows : Grows l.fn.formula l.formula;
}

abbrev pub decreases-loop-left : goal.decreases-loop-left
decreases-loop-left l = l.left
