use Rattle.std.proofs.Common.{◌≡◌, ℕ, map, List, [], ◌∷◌, ◌++◌, ap, sym, subst, ◌∙◌}
use Rattle.pt_read.specs.declared.command.CommandKind.TheVariants as kind
use Rattle.pt_terms.specs.Names.{Symbol, Constant_of, constants_in}
use Rattle.pt_read.specs.Scope.{with_symbol}
use Rattle.pt_read.specs.Kept.{shown, shown_assertion}
use Rattle.pt_read.specs.Lasting.{IsSound}
use Rattle.pt_read.specs.Fits.{IsNewConstant}
use Rattle.pt_read.proofs.KeptLaws.{on-ok, constants-append}
use Rattle.pt_read.proofs.SoundLaws.{sound-after}
use Rattle.pt_read.proofs.scope.Scope.declare.Goals as goal

pub invariant_of-self-else-is_err : goal.invariant_of-self-else-is_err
invariant_of-self-else-is_err c =
    let named : c.in_ok-key.key.items ≡ c.args.name.now = c.in_ok-key.ensures.items ∙ c.as_slice.ensures in
    let named' : c.in_ok-copy_of.field-0 ≡ c.args.name.now = c.in_ok-copy_of.ensures ∙ c.as_slice-2.ensures in
    let new : Symbol = record { name = c.args.name.now; stands_for = Constant_of c.args.variable c.args.sort; level = c.self.inside.depth } in
    let added : c.push-added.new.self ≡ c.self.inside.symbols ++ new ∷ [] = on-ok c.push-added.result _ (sym c.if-is_err.ensures.value) c.push-added.ensures.ok ∙ ap (λ (n : List ℕ). c.self.inside.symbols ++ record { name = n; stands_for = Constant_of c.args.variable c.args.sort; level = c.self.inside.depth } ∷ []) named in
    let pushed : c.push.new.self.items ≡ c.self.inside.constants.items ++ record { name = c.args.name.now; variable = c.args.variable; sort = c.args.sort } ∷ [] = c.in_ok-push.ensures.items ∙ ap (λ (n : List ℕ). c.self.inside.constants.items ++ record { name = n; variable = c.args.variable; sort = c.args.sort } ∷ []) named' in
    let fits : IsNewConstant (shown c.self.inside) c.args.name.now c.args.variable c.args.sort = rw c.self.view_is c.requires in
    let sound : IsSound (with_symbol c.args.name.now (Constant_of c.args.variable c.args.sort) (shown c.self.inside)) = sound-after (shown c.self.inside) (kind.Declare c.args.name.now c.args.variable c.args.sort) fits c.self.invariant.sound in
    record {
      constants = pushed ∙ ap (λ cs. cs ++ record { name = c.args.name.now; variable = c.args.variable; sort = c.args.sort } ∷ []) c.self.invariant.constants ∙ sym (ap constants_in added ∙ constants-append c.self.inside.symbols new);
      sound = subst (λ (ss : List Symbol). IsSound (record { formula = c.self.inside.work.formula; given = c.self.inside.work.given; depth = c.self.inside.depth; symbols = ss; assertions = map shown_assertion c.self.inside.assertions.items })) (sym added) sound;
    }
