use Rattle.std.proofs.Common.{ℕ}
use Rattle.pt_formula.specs.declared.node.Node.TheVariants as node
use Rattle.pt_terms.specs.Theory.{later_pairs}
use Rattle.pt_terms.specs.Elaboration.{make}
use Rattle.pt_terms.proofs.Rows as rows
use Rattle.pt_terms.proofs.Chaining.{conjunction_run}
use Rattle.pt_terms.proofs.Ranges.{nodes_more}
use Rattle.pt_terms.proofs.BelowLemmas.{grows_same, grows_trans}
use Rattle.pt_terms.proofs.elaborator.Elaborator.all_unlike.Goals as goal

pub loop-i-init : goal.loop-i-init
loop-i-init c = record {
  told = conjunction_run {A = ℕ × ℕ} (λ (ab : ℕ × ℕ). make (node.Xor ab.0 ab.1) c.args.at) c.args.at (later_pairs c.args.nodes.now) c.args.self.now;
  range = tt {0};
  nodes = c.requires;
  grows = grows_same c.args.self.now;
}

pub returns-in-Err-clause-gives : goal.returns-in-Err-clause-gives
returns-in-Err-clause-gives c = rows.plain_fails (λ (ab : ℕ × ℕ). make (node.Xor ab.0 ab.1) c.args.at) c.args.at c.loop-i.so_far c.args.nodes.now c.loop-i.i c.loop-i.self _ c.loop-i-test.true c.loop-i.invariant.told _ c.in-Err.ensures.gives

pub loop-i-preserved : goal.loop-i-preserved
loop-i-preserved c = record {
  told = rows.plain_goes (λ (ab : ℕ × ℕ). make (node.Xor ab.0 ab.1) c.args.at) c.args.at c.loop-i.so_far c.args.nodes.now c.loop-i.i c.loop-i.self _ c.loop-i-test.true c.loop-i.invariant.told _ _ c.in-Ok.ensures.gives;
  range = c.in-Ok.ensures.range;
  nodes = nodes_more c.loop-i.self c.unlike_row.new.self c.args.nodes.now c.in-Ok.ensures.grows c.loop-i.invariant.nodes;
  grows = grows_trans c.args.self.now c.loop-i.self c.unlike_row.new.self c.loop-i.invariant.grows c.in-Ok.ensures.grows;
}
