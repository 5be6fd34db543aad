use Rattle.pt_code.proofs.Numbering.{numbered-none}
use Rattle.pt_code.proofs.order.Order.begin.Goals as goal

pub number-requires-clause-numbered : goal.number-requires-clause-numbered
number-requires-clause-numbered c = numbered-none _ _ c.clear.ensures.items
