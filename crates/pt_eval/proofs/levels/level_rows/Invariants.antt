use Rattle.std.proofs.Common.{take, nat_eq}
use Rattle.std.specs.HashMap.{get}
use Rattle.pt_eval.proofs.LevelLaws.{IsPlanning}
use Rattle.pt_eval.proofs.levels.level_rows.Given as goal

abbrev pub invariant-loop-node : goal.invariant-loop-node
invariant-loop-node l = IsPlanning l.formula (take l.node-index l.nodes) (get nat_eq l.levels) l.rows.items
