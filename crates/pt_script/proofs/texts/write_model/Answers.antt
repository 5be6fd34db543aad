use Rattle.std.proofs.Common.{◌≡◌, get_or, ap, ◌∙◌, ◌++◌}
use Rattle.pt_formula.specs.Truth.{valuation}
use Rattle.pt_terms.specs.declared.meaning.Constant.{Constant}
use Rattle.pt_script.specs.Texts.{model_line}
use Rattle.pt_script.proofs.Joining.{written-more}
use Rattle.pt_script.proofs.texts.write_model.Goals as goal

pub loop-constant-preserved : goal.loop-constant-preserved
loop-constant-preserved c = written-more (model_line (valuation c.args.variables.now c.args.values.now)) c.args.constants.now c.loop-constant.constant-index c.constant-item.result c.write_line.new.out.items c.loop-constant.out.items c.write_model_line.new.out.items c.loop-constant-test.true c.loop-constant.invariant
    (let same : c.constant-item.result ≡ get_or c.args.constants.now c.loop-constant.constant-index c.constant-item.result = c.constant-item.is in
    c.in_ok-write_model_line.ensures ∙ ap (λ (k : Constant). c.loop-constant.out.items ++ model_line (valuation c.args.variables.now c.args.values.now) k) same)
