use Rattle.std.proofs.Common.{◌≡◌, map, ap, sym, subst, ◌∙◌}
use Rattle.std.specs.Prelude.{Ok, Some, option_map}
use Rattle.pt_terms.specs.declared.meaning.Bound.TheVariants.{Term as Standing}
use Rattle.pt_terms.specs.Names.{Env}
use Rattle.pt_terms.specs.Terms.{argument, binding, term_within}
use Rattle.pt_terms.specs.Theory.{Argument}
use Rattle.pt_terms.specs.Gives.{Gives}
use Rattle.pt_terms.specs.Sound.{IsMeaningIn}
use Rattle.pt_terms.proofs.SortLemmas.{have-more}
use Rattle.pt_terms.proofs.Steps.{each_goes}
use Rattle.pt_terms.proofs.BelowLemmas.{grows_trans}
use Rattle.pt_terms.proofs.Ranges.{meaning_more, env_more, arguments_more}
use Rattle.pt_terms.proofs.EnvLemmas.{binding_pair}
use Rattle.pt_terms.proofs.TermSteps.{exact-two, all-push, bindings-goes, bindings-more}
use Rattle.pt_terms.proofs.elaborator.Elaborator.+term.Goals as goal

pub named-call-requires-clause-meaning : goal.named-call-requires-clause-meaning
named-call-requires-clause-meaning t c =
    meaning_more c.args.self.now c.arguments.new.self c.in_ok-parameters.meaning.now c.in_ok-arguments.ensures.grows (c.in_ok-parameters.ensures.range c.args.self.now c.requires.env).0

pub named-call-requires-clause-sorts : goal.named-call-requires-clause-sorts
named-call-requires-clause-sorts t c =
    have-more c.args.self.now c.arguments.new.self c.in_ok-parameters.parameters.now c.in_ok-parameters.sorts.now c.in_ok-arguments.ensures.grows (c.in_ok-parameters.ensures.range c.args.self.now c.requires.env).1

pub quantifier_parts-enter_variables-requires-clause-env : goal.quantifier_parts-enter_variables-requires-clause-env
quantifier_parts-enter_variables-requires-clause-env t c = env_more c.args.self.now c.variables.new.self c.args.env.now c.in_ok-variables.ensures.grows c.requires.env

pub binding-returns-in-Some-len2-clause-gives : goal.binding-returns-in-Some-len2-clause-gives
binding-returns-in-Some-len2-clause-gives t c =
    let two = exact-two c.in-Some-len2.field-0.now c.symbol-item.result c.term-item.result c.in-Some-len2.len_at_least c.in-Some-len2.len_below c.symbol-item.is c.term-item.is in
    let parts = sym c.items.ensures ∙ ap (option_map (λ s. s.now)) c.in-Some-len2.is ∙ ap (λ xs. Some xs) two in
    subst (λ step. Gives (λ b. (b.0.now, Standing b.1)) c.pair.result c.args.self.now c.pair.new.self step)
    (sym (binding_pair (term_within c.args.depth c.args.env.now) (map (λ b. b.0) c.args.found.now) c.args.e.now c.symbol-item.result c.term-item.result parts)) c.pair.ensures.gives

pub arguments-loop-e-preserved : goal.arguments-loop-e-preserved
arguments-loop-e-preserved t c =
    let ok = subst (λ (v : Env). argument (term_within c.args.depth v) c.e-item.result c.loop-e.self ≡ Ok (c.in_ok-a.a, c.argument.new.self)) c.loop-e.invariant.same c.in_ok-a.ensures.gives in
    let told = each_goes (argument (term_within c.args.depth c.args.env.now)) c.args.es.now c.loop-e.e-index c.e-item.result c.loop-e.found.items c.loop-e.self _ c.loop-e-test.true c.e-item.is c.loop-e.invariant.told c.in_ok-a.a c.argument.new.self ok in
    let grows = c.in_ok-a.ensures.grows in
    record {
      told = rw c.in_ok-push.ensures.items told;
      range = rw c.in_ok-push.ensures.items (all-push (λ (a : Argument). IsMeaningIn c.argument.new.self a.1) c.loop-e.found.items c.in_ok-a.a (arguments_more c.loop-e.self c.argument.new.self c.loop-e.found.items grows c.loop-e.invariant.range) c.in_ok-a.ensures.range);
      grows = grows_trans c.args.self.now c.loop-e.self c.argument.new.self c.loop-e.invariant.grows grows;
      same = c.in_ok-a.ensures.env ∙ c.loop-e.invariant.same;
      env = rw c.in_ok-a.ensures.env (env_more c.loop-e.self c.argument.new.self c.loop-e.env grows c.loop-e.invariant.env);
    }

pub bindings-loop-e-preserved : goal.bindings-loop-e-preserved
bindings-loop-e-preserved t c =
    let ok = subst (λ (v : Env). binding (term_within c.args.depth v) (map (λ b. b.0) c.loop-e.found) c.e-item.result c.loop-e.self ≡ Ok ((c.in_ok-name.name.now, Standing c.in_ok-name.m), c.binding.new.self)) c.loop-e.invariant.same c.in_ok-name.ensures.gives in
    let told = bindings-goes (term_within c.args.depth c.args.env.now) c.args.es.now c.loop-e.e-index c.e-item.result c.loop-e.found c.loop-e.self c.binding.new.self _ c.loop-e-test.true c.e-item.is c.loop-e.invariant.told (c.in_ok-name.name.now, Standing c.in_ok-name.m) ok in
    let grows = c.in_ok-name.ensures.grows in
    record {
      told = rw c.in_ok-push.ensures told;
      range = rw c.in_ok-push.ensures (c.in_ok-name.ensures.range, bindings-more c.loop-e.self c.binding.new.self c.loop-e.found grows c.loop-e.invariant.range);
      grows = grows_trans c.args.self.now c.loop-e.self c.binding.new.self c.loop-e.invariant.grows grows;
      same = c.in_ok-name.ensures.env ∙ c.loop-e.invariant.same;
      env = rw c.in_ok-name.ensures.env (env_more c.loop-e.self c.binding.new.self c.loop-e.env grows c.loop-e.invariant.env);
    }

pub bindings-returns-in_err-push-clause-grows : goal.bindings-returns-in_err-push-clause-grows
bindings-returns-in_err-push-clause-grows t c = grows_trans c.args.self.now c.loop-e.self c.binding.new.self c.loop-e.invariant.grows c.in_ok-name.ensures.grows

pub let_parts-enter-requires-clause-env : goal.let_parts-enter-requires-clause-env
let_parts-enter-requires-clause-env t c = rw c.in_ok-names.ensures.env (env_more c.args.self.now c.bindings.new.self c.args.env.now c.in_ok-names.ensures.grows c.requires.env)

pub let_parts-returns-clause-grows : goal.let_parts-returns-clause-grows
let_parts-returns-clause-grows t c = grows_trans c.args.self.now c.bindings.new.self c.body.new.self c.in_ok-names.ensures.grows c.body.ensures.grows
