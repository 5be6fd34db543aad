use Rattle.std.proofs.Common.{◌≡◌, ℕ, subst, arith, ◌∙◌}
use Rattle.pt_project.specs.Closing.{AreSources}
use Rattle.pt_project.proofs.Rows.{sources-none, sources-more}
use Rattle.pt_project.proofs.sources.sources.Goals as goal

pub loop-source-init : goal.loop-source-init
loop-source-init c = record {
  count = c.in_ok-lists.ensures.count ∙ c.states.ensures.states;
  sources = sources-none c.args.table.now c.args.zero c.args.one c.in_ok-lists.lists.items c.in_ok-lists.ensures.empty;
}

pub loop-source-preserved : goal.loop-source-preserved
loop-source-preserved c = record {
  count = c.add_source-in-loop-source.ensures.count ∙ c.add_source.ensures.count ∙ c.loop-source.invariant.count;
  sources =
      sources-more c.args.table.now c.args.zero c.args.one c.loop-source.source c.next.result c.next-in-loop-source.result c.loop-source.lists.items c.add_source.new.lists.items c.add_source-in-loop-source.new.lists.items
      c.next.ensures c.next-in-loop-source.ensures c.loop-source.invariant.sources c.in_ok-add_source.ensures.added c.in_ok-add_source.ensures.others c.in_ok-add_source-2.ensures.added c.in_ok-add_source-2.ensures.others;
}

pub returns-clause-sources : goal.returns-clause-sources
returns-clause-sources c =
    let all : c.loop-source.source ≡ c.args.table.now.states = omega (arith, c.loop-source-test.false, c.loop-source.auto.source-end, c.states-source-end.ensures.states) in
    subst (λ (n : ℕ). AreSources c.args.table.now c.args.zero c.args.one n c.loop-source.lists.items) all c.loop-source.invariant.sources
