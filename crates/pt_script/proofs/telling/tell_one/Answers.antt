use Rattle.std.proofs.Common.{ℕ, refl, sym, subst}
use Rattle.std.specs.Prelude.{IfOk}
use Rattle.std.specs.Global.{Vec}
use Rattle.pt_read.specs.declared.command.Predicate.{Predicate}
use Rattle.pt_read.specs.declared.command.CommandKind.{CommandKind}
use Rattle.pt_read.specs.declared.command.CommandKind.TheVariants as kind
use Rattle.pt_script.specs.Sets.{Tells}
use Rattle.pt_script.proofs.SetTellings.{about-one}
use Rattle.pt_script.proofs.telling.tell_one.Goals as goal

pub returns-in_ok-say_empty-in-SetEmpty-clause-ok : goal.returns-in_ok-say_empty-in-SetEmpty-clause-ok
returns-in_ok-say_empty-in-SetEmpty-clause-ok g c bound =
    let is = about-one kind.SetEmpty c.args.kind.now c.in-SetEmpty.field-0 c.args.p.now (λ x. refl) c.in-SetEmpty.is c.requires.about in
    subst (λ (k : CommandKind). Tells c.args.scope.now k bound c.in_ok-say_empty-in-SetEmpty.field-0.items) (sym is) (c.in_ok-say_empty-in-SetEmpty.ensures bound)

pub returns-in_ok-say_finite-in-SetFinite-clause-ok : goal.returns-in_ok-say_finite-in-SetFinite-clause-ok
returns-in_ok-say_finite-in-SetFinite-clause-ok g c bound =
    let is = about-one kind.SetFinite c.args.kind.now c.in-SetFinite.field-0 c.args.p.now (λ x. refl) c.in-SetFinite.is c.requires.about in
    subst (λ (k : CommandKind). Tells c.args.scope.now k bound c.in_ok-say_finite-in-SetFinite.field-0.items) (sym is) (c.in_ok-say_finite-in-SetFinite.ensures bound)

pub returns-in_ok-say_states-in-SetStates-clause-ok : goal.returns-in_ok-say_states-in-SetStates-clause-ok
returns-in_ok-say_states-in-SetStates-clause-ok g c bound =
    let is = about-one kind.SetStates c.args.kind.now c.in-SetStates.field-0 c.args.p.now (λ x. refl) c.in-SetStates.is c.requires.about in
    subst (λ (k : CommandKind). Tells c.args.scope.now k bound c.in_ok-say_states-in-SetStates.field-0.items) (sym is) (c.in_ok-say_states-in-SetStates.ensures bound)

pub returns-in-SetList-clause-ok : goal.returns-in-SetList-clause-ok
returns-in-SetList-clause-ok g c =
    let is = about-one (λ (x : Predicate). kind.SetList x c.in-SetList.k) c.args.kind.now c.in-SetList.field-0 c.args.p.now (λ x. refl) c.in-SetList.is c.requires.about in
    subst (λ (k : CommandKind). IfOk c.say_list.result (λ (reply : Vec ℕ). (bound : ℕ) → Tells c.args.scope.now k bound reply.items)) (sym is) c.say_list.ensures.ok
