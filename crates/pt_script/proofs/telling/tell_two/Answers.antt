use Rattle.std.proofs.Common.{ℕ, refl, sym, subst}
use Rattle.std.specs.Prelude.{IfOk}
use Rattle.std.specs.Global.{Vec}
use Rattle.pt_read.specs.declared.command.CommandKind.{CommandKind}
use Rattle.pt_read.specs.declared.command.CommandKind.TheVariants as kind
use Rattle.pt_read.specs.Fits.{FitsKind}
use Rattle.pt_script.specs.Sets.{Tells}
use Rattle.pt_script.proofs.SetTellings.{about-two, as-many, tells-equal}
use Rattle.pt_script.proofs.telling.tell_two.Goals as goal

pub returns-in_ok-truth_of-in-SetEqual-clause-ok : goal.returns-in_ok-truth_of-in-SetEqual-clause-ok
returns-in_ok-truth_of-in-SetEqual-clause-ok g c =
    let is = about-two kind.SetEqual c.args.kind.now c.in-SetEqual.field-0 c.in-SetEqual.field-1 c.args.p.now c.args.q.now (λ a b. refl) c.in-SetEqual.is c.requires.about in
    let fits = subst (λ (k : CommandKind). FitsKind k c.args.scope.now) is c.requires.fits in
    let size = as-many c.args.scope.now c.args.p.now c.args.q.now fits.0 fits.1 fits.2 in
    subst (λ (k : CommandKind). Tells c.args.scope.now k c.args.bound c.in_ok-truth_of-in-SetEqual.field-0.items) (sym is)
    (tells-equal g.P.Codes.home (g.P.Codes.lists c.args.pass.now) c.args.scope.now c.args.p.now c.args.q.now c.args.a c.args.b size c.requires.first c.requires.second c.same.result c.in_ok-truth_of-in-SetEqual.field-0.items
    c.same.ensures.sets c.in_ok-truth_of-in-SetEqual.ensures c.args.bound)

pub returns-in-SetSubset-clause-ok : goal.returns-in-SetSubset-clause-ok
returns-in-SetSubset-clause-ok g c =
    let is = about-two kind.SetSubset c.args.kind.now c.in-SetSubset.field-0 c.in-SetSubset.field-1 c.args.p.now c.args.q.now (λ a b. refl) c.in-SetSubset.is c.requires.about in
    subst (λ (k : CommandKind). IfOk c.say_subset.result (λ (reply : Vec ℕ). Tells c.args.scope.now k c.args.bound reply.items)) (sym is) c.say_subset.ensures.ok

pub say_subset-requires-clause-tracks : goal.say_subset-requires-clause-tracks
say_subset-requires-clause-tracks g c =
    let is = about-two kind.SetSubset c.args.kind.now c.in-SetSubset.field-0 c.in-SetSubset.field-1 c.args.p.now c.args.q.now (λ a b. refl) c.in-SetSubset.is c.requires.about in
    let fits = subst (λ (k : CommandKind). FitsKind k c.args.scope.now) is c.requires.fits in
    as-many c.args.scope.now c.args.p.now c.args.q.now fits.0 fits.1 fits.2
