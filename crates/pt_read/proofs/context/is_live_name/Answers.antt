use Rattle.std.proofs.Common.{◌∙◌}
use Rattle.pt_terms.specs.Symbols.{shown_use}
use Rattle.pt_read.proofs.ItemLemmas.{live_where}
use Rattle.pt_read.proofs.context.is_live_name.Goals as goal

pub returns : goal.returns
returns c = c.is_some.ensures ∙ live_where (λ u. shown_use u.now) c.find.result c.args.live.now c.args.name.now c.find.ensures
