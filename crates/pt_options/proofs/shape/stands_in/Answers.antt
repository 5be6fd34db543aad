use Rattle.std.proofs.Common.{◌∙◌, sym, refl, arith}
use Rattle.pt_options.proofs.shape.stands_in.Goals as goal

pub returns-then-begins_with : goal.returns-then-begins_with
returns-then-begins_with c =
    let begins = c.begins_with.ensures.0 c.if-begins_with.true in (
      λ same. (c.loop-word.word-index, c.word-item.result, omega arith, sym c.word-item.is, (begins.0, sym c.as_str.ensures.value ∙ begins.1)),
      λ any. refl,
    )
