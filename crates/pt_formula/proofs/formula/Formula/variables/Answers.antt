use Rattle.std.proofs.Common.{◌≡◌, ap, length, arith}
use Rattle.std.proofs.lemmas.List.{length-map}
use Rattle.pt_formula.specs.declared.formula.Entry.{Entry}
use Rattle.pt_formula.specs.Entries.{shown}
use Rattle.pt_formula.proofs.Sorted.{read_variables}
use Rattle.pt_formula.proofs.formula.Formula.variables.Goals as goal

pub returns-clause-increasing : goal.returns-clause-increasing
returns-clause-increasing c =
    let size : length (shown c.self.inside.entries.items) ≡ length c.self.inside.entries.items = length-map c.self.inside.entries.items (λ (e : Entry). (e.node, e.position)) in
    read_variables c.self.inside.entries.items c.args.id c.index.result.now _ c.self.invariant (omega (arith, size, ap length c.self.view_is, c.requires)) c.index.ensures c.as_slice.ensures
