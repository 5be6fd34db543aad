use Rattle.pt_query.proofs.Fitting.{short-fits}
use Rattle.pt_query.proofs.witness.short_value.Goals as goal

pub unreachable-requires : goal.unreachable-requires
unreachable-requires c =
    let wide = rw c.in-Err-Wide.field-0-is at c.in-Err-Wide.ensures.err in
    wide (short-fits c.args.tracks c.args.word.now c.requires.word.nonempty c.requires.few)
