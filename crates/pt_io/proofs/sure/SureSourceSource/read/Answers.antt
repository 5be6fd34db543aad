use Rattle.std.proofs.lemmas.List.{take_rest}
use Rattle.pt_io.proofs.Streaming.{took-next}
use Rattle.pt_io.specs.Streams.{Took}
use Rattle.std.proofs.Common.{◌+◌, subst, drop, take, List, ℕ}
use Rattle.std.specs.Prelude.{Some}
use Rattle.pt_io.proofs.sure.SureSourceSource.read.Goals as goal

pub returns-clause-took : goal.returns-clause-took
returns-clause-took c =
    subst (λ (d : List ℕ). Took (Some d) (Some (drop (c.self.inside.at + c.give-given.result) c.self.inside.bytes.items)) (take c.give-given.result c.give-given.new.buf)) c.self.view_is
    (took-next c.self.inside.bytes.items (take c.give-given.result c.give-given.new.buf) c.self.inside.at c.give-given.result (rw c.deref.ensures.value at (rw take_rest at c.give-given.ensures.bytes)))
