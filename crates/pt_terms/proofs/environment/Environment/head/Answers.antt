use Rattle.std.proofs.Common.{inl, Some, map, ap, sym, subst, ◌∙◌}
use Rattle.std.specs.Prelude.{Err, Ok}
use Rattle.pt_terms.specs.Names.{find_symbol, Defined}
use Rattle.pt_terms.specs.Sorts.{HaveSorts}
use Rattle.pt_terms.specs.Sound.{IsMeaningIn}
use Rattle.pt_terms.specs.Symbols.{shown_use}
use Rattle.pt_terms.specs.Names.{Env, head_use}
use Rattle.pt_grammar.specs.Words.{is_among}
use Rattle.pt_terms.proofs.EnvLemmas.{head_bound, look_live, use_found, head_of_parameters}
use Rattle.pt_terms.proofs.environment.Environment.head.Goals as goal

pub returns-then-has-clause-says : goal.returns-then-has-clause-says
returns-then-has-clause-says c w =
    let bound = ap (λ (e : Env). e.bound) c.self.view_is in
    inl (head_bound c.args.self.now c.args.name.now c.args.at w (c.if-has.ensures ∙ ap (λ bs. is_among c.args.name.now (map (λ b. b.0) bs)) bound) ∙ ap Err (sym c.refused.ensures))

pub returns-in-None-clause-says : goal.returns-in-None-clause-says
returns-in-None-clause-says c w =
    let bound = ap (λ (e : Env). e.bound) c.self.view_is in
    let live = ap (λ (e : Env). e.live) c.self.view_is in
    let look = look_live c.args.self.now c.args.name.now (c.if-has.ensures ∙ ap (λ bs. is_among c.args.name.now (map (λ b. b.0) bs)) bound) in
    inl (ap (λ u. head_use c.args.at u w) (look ∙ sym (c.in-None.ensures ∙ ap (λ ss. find_symbol ss c.args.name.now) live)) ∙ ap Err (sym c.refused-in-None.ensures))

pub returns-else-is_empty-clause-says : goal.returns-else-is_empty-clause-says
returns-else-is_empty-clause-says c w =
    let bound = ap (λ (e : Env). e.bound) c.self.view_is in
    let live = ap (λ (e : Env). e.live) c.self.view_is in
    let look = look_live c.args.self.now c.args.name.now (c.if-has.ensures ∙ ap (λ bs. is_among c.args.name.now (map (λ b. b.0) bs)) bound) in
    ap (λ u. head_use c.args.at u w) (look ∙ sym (c.in-Some-Definition.ensures ∙ ap (λ ss. find_symbol ss c.args.name.now) live) ∙ ap (λ u. Some (shown_use u)) c.in-Some-Definition.field-0-is)
    ∙ head_of_parameters c.args.at c.in-Some-Definition.parameters c.in-Some-Definition.sorts c.in-Some-Definition.meaning w (λ e. c.if-is_empty.ensures.1 e)
    ∙ ap (λ ps. Ok ((ps, c.in-Some-Definition.sorts, c.in-Some-Definition.meaning), w)) (sym c.as_slice.ensures) ∙ ap (λ ss. Ok ((c.as_slice.result.now, ss, c.in-Some-Definition.meaning), w)) (sym c.as_slice-else-is_empty.ensures)

pub returns-else-is_empty-clause-range : goal.returns-else-is_empty-clause-range
returns-else-is_empty-clause-range c w h =
    let live = ap (λ (e : Env). e.live) c.self.view_is in
    let found = use_found w c.args.self.now.live c.args.name.now (Defined c.in-Some-Definition.parameters c.in-Some-Definition.sorts c.in-Some-Definition.meaning) h.live (sym (c.in-Some-Definition.ensures ∙ ap (λ ss. find_symbol ss c.args.name.now) live) ∙ ap (λ u. Some (shown_use u)) c.in-Some-Definition.field-0-is) in
    subst (λ ps. IsMeaningIn w c.in-Some-Definition.meaning × HaveSorts w.given ps c.as_slice-else-is_empty.result.now) (sym c.as_slice.ensures) (subst (λ ss. IsMeaningIn w c.in-Some-Definition.meaning × HaveSorts w.given c.in-Some-Definition.parameters ss) (sym c.as_slice-else-is_empty.ensures) found)
