use Rattle.pt_product.specs.Derived.{AreWideCells}
use Rattle.pt_product.proofs.unary.wide_table.Given as goal

abbrev pub invariant-loop-cell : goal.invariant-loop-cell
invariant-loop-cell l = record {
  cells : AreWideCells l.table l.side.map l.side.tracks l.cell l.outputs.items l.edges.items;
}
