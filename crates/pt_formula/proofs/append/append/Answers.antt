use Rattle.std.proofs.Common.{arith, subst, sym}
use Rattle.pt_formula.specs.declared.formula.Entry.{Entry}
use Rattle.pt_formula.specs.Entries.{AreEntries}
use Rattle.pt_formula.proofs.EntryLaws.{AreEntries-append}
use Rattle.pt_formula.proofs.append.append.Goals as goal

-- the entries with the new one at the end
pub returns-clause-kept : goal.returns-clause-kept
returns-clause-kept c =
    let e : Entry = record { node = c.args.node; variables = c.args.variables; position = c.args.at } in
    subst AreEntries (sym c.in_ok-push.ensures.items) (AreEntries-append c.args.entries.now.items e c.requires.entries c.requires.below c.requires.terms c.requires.variables (omega arith) (omega arith))
