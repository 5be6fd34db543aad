use Rattle.std.proofs.Common.{map}
use Rattle.pt_formula.specs.declared.form.Form.{Form}
use Rattle.pt_terms.specs.Theory.{different, later_pairs}
use Rattle.pt_terms.proofs.Rows as rows
use Rattle.pt_terms.proofs.Chaining.{conjunction_run}
use Rattle.pt_terms.proofs.Ranges.{forms_more}
use Rattle.pt_terms.proofs.BelowLemmas.{grows_same, grows_trans}
use Rattle.pt_terms.proofs.elaborator.Elaborator.all_different.Goals as goal

pub loop-i-init : goal.loop-i-init
loop-i-init c = record {
  told = conjunction_run {A = Form × Form} (different c.args.at) c.args.at (later_pairs (map (λ f. f.now) c.args.forms.now)) c.args.self.now;
  range = tt {0};
  forms = c.requires;
  grows = grows_same c.args.self.now;
}

pub returns-in-Err-clause-gives : goal.returns-in-Err-clause-gives
returns-in-Err-clause-gives c = rows.row_fails (λ f. f.now) (different c.args.at) c.args.at c.loop-i.so_far c.args.forms.now c.loop-i.i c.loop-i.self _ c.loop-i-test.true c.loop-i.invariant.told _ c.in-Err.ensures.gives

pub loop-i-preserved : goal.loop-i-preserved
loop-i-preserved c = record {
  told = rows.row_goes (λ f. f.now) (different c.args.at) c.args.at c.loop-i.so_far c.args.forms.now c.loop-i.i c.loop-i.self _ c.loop-i-test.true c.loop-i.invariant.told _ _ c.in-Ok.ensures.gives;
  range = c.in-Ok.ensures.range;
  forms = forms_more c.loop-i.self c.different_row.new.self (λ f. f.now) c.args.forms.now c.in-Ok.ensures.grows c.loop-i.invariant.forms;
  grows = grows_trans c.args.self.now c.loop-i.self c.different_row.new.self c.loop-i.invariant.grows c.in-Ok.ensures.grows;
}
