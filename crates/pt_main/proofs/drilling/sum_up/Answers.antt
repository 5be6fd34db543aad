use Rattle.std.proofs.Common.{◌∙◌, ℕ, List, subst}
use Rattle.pt_io.specs.Streams.{WroteFront}
use Rattle.pt_main.proofs.drilling.sum_up.Goals as goal

pub returns-in-Ok-clause-told : goal.returns-in-Ok-clause-told
returns-in-Ok-clause-told g c =
    subst (λ (l : List ℕ). WroteFront (g.K.Sink.written c.args.sink.now) (g.K.Sink.written c.write_all.new.sink) l) (c.as_slice.ensures.value ∙ c.in-Ok.ensures) c.in-Err-write_all.ensures.front
