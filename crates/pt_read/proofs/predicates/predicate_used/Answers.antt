use Rattle.std.proofs.Common.{rules}
use Rattle.pt_terms.specs.Sorts.{HaveSorts}
use Rattle.pt_read.proofs.SortLemmas.{have-length}
use Rattle.pt_read.proofs.predicates.predicate_used.Goals as goal

pub predicate_with-requires-clause-sorts : goal.predicate_with-requires-clause-sorts
predicate_with-requires-clause-sorts c =
    let sorts : HaveSorts c.args.work.now.given c.in-Some-Definition.parameters c.in-Some-Definition.sorts = search rules in
    have-length c.args.work.now.given c.in-Some-Definition.parameters c.in-Some-Definition.sorts sorts
