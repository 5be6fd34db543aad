use Rattle.std.proofs.Common.{rules, eqb, ◌∙◌}
use Rattle.std.specs.Str.{bytes_eq}
use Rattle.std.proofs.lemmas.Iterator.Consumers.{YieldsList-from_filter, count_from_yields_List}
use Rattle.std.proofs.lemmas.Iterator.Splits.{YieldsList-from_slice_split}
use Rattle.std.proofs.lemmas.List.Sums.{length-filter}
use borrow.Author.Tests.{tests}
use Rattle.pt_drill.specs.Summary.{lines_of}
use Rattle.pt_drill.proofs.output.count.Goals as goal

pub returns : goal.returns
returns c =
    count_from_yields_List c.filter.result c.count.result c.count.ensures.ran
    (YieldsList-from_filter _ (λ l. bytes_eq l c.args.word.now)
    (YieldsList-from_slice_split _ (λ b. eqb b 10) c.args.output.now (cc) (cc) (cc) (λ x b q k. search (rules, tests)))
    c.filter.ensures.closure (λ x b q k. search (rules, tests)))
    ∙ length-filter _ (lines_of c.args.output.now)
