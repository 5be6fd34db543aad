use Rattle.pt_read.proofs.ItemLemmas.{state_more}
use Rattle.pt_read.proofs.declarations.assert.Goals as goal

pub conjoined-requires-clause-context : goal.conjoined-requires-clause-context
conjoined-requires-clause-context c = state_more c.names_stay_in_range.ensures c.args.work.now c.whole_term.new.work c.args.context.now c.whole_term.ensures.grows c.requires.state
