use Rattle.pt_terms.specs.Symbols.{shown_use}
use Rattle.pt_read.proofs.ItemLemmas.{found_use_in}
use Rattle.pt_read.proofs.predicates.predicate.Goals as goal

pub predicate_used-requires : goal.predicate_used-requires
predicate_used-requires c = found_use_in c.args.work.now (λ u. shown_use u.now) c.find.result c.args.context.now c.live.result.now c.name_in.result.now c.live.ensures c.requires c.find.ensures
