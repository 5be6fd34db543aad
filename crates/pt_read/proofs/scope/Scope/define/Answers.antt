use Rattle.std.proofs.Common.{◌≡◌, inl, inr, map, List, [], ◌∷◌, ◌++◌, ap, sym, subst, ◌∙◌, append-nil}
use Rattle.pt_read.specs.declared.command.Definition.{Definition}
use Rattle.pt_read.specs.declared.command.CommandKind.TheVariants as kind
use Rattle.pt_terms.specs.Names.{Symbol, Defined, constants_in}
use Rattle.pt_read.specs.Kept.{shown, IsKept, shown_assertion}
use Rattle.pt_read.specs.Lasting.{IsSound}
use Rattle.pt_read.specs.Fits.{IsNewDefinition}
use Rattle.pt_read.proofs.KeptLaws.{by-result, constants-append}
use Rattle.pt_read.proofs.SoundLaws.{sound-after}
use Rattle.pt_read.proofs.scope.Scope.define.Goals as goal

-- the state with these symbols is kept
with-symbols : (c : goal.After-push) → (ss : List Symbol) → c.self.inside.constants.items ≡ constants_in ss → IsSound (record { formula = c.self.inside.work.formula; given = c.self.inside.work.given; depth = c.self.inside.depth; symbols = ss; assertions = map shown_assertion c.self.inside.assertions.items }) → c.push.new.self ≡ ss → IsKept (record { work = c.self.inside.work; depth = c.self.inside.depth; symbols = c.push.new.self; assertions = c.self.inside.assertions; constants = c.self.inside.constants })
with-symbols c ss constants sound same = record {
  constants = constants ∙ ap constants_in (sym same);
  sound = subst (λ (xs : List Symbol). IsSound (record { formula = c.self.inside.work.formula; given = c.self.inside.work.given; depth = c.self.inside.depth; symbols = xs; assertions = map shown_assertion c.self.inside.assertions.items })) (sym same) sound;
}

pub invariant_of-self : goal.invariant_of-self
invariant_of-self c =
    let d : Definition = c.args.definition.now in
    let new : Symbol = record { name = d.name; stands_for = Defined d.parameters d.sorts d.meaning; level = c.self.inside.depth } in
    let named : c.in_ok-key.key.items ≡ d.name = c.in_ok-key.ensures.items ∙ c.as_slice.ensures in
    let listed : c.in_ok-parameters.parameters ≡ d.parameters = c.in_ok-parameters.ensures ∙ c.as_slice-2.ensures in
    let sorted : c.in_ok-sorts.sorts ≡ d.sorts = c.in_ok-sorts.ensures ∙ c.as_slice-3.ensures in
    let fits : IsNewDefinition (shown c.self.inside) d = rw c.self.view_is c.requires in
    elim (by-result c.push.result _ _ c.push.ensures.ok c.push.ensures.err) [
      | inl added ↦ with-symbols c (c.self.inside.symbols ++ new ∷ [])
          (c.self.invariant.constants ∙ sym (constants-append c.self.inside.symbols new ∙ append-nil (constants_in c.self.inside.symbols)))
          (sound-after (shown c.self.inside) (kind.Define d) fits c.self.invariant.sound)
          (added ∙ (cc (named, listed, sorted, c.in_ok-meaning.ensures)))
      | inr kept ↦ with-symbols c c.self.inside.symbols c.self.invariant.constants c.self.invariant.sound kept
    ]
