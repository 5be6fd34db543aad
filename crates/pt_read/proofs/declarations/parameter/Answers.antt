use Rattle.std.proofs.Common.{ap, sym, ◌∙◌, map, option_map}
use Rattle.pt_read.proofs.ItemLemmas.{just_two}
use Rattle.pt_read.proofs.Defining.{variable_by, gives_as}
use Rattle.pt_read.proofs.declarations.parameter.Goals as goal

pub returns-in-Some-len2-clause-gives : goal.returns-in-Some-len2-clause-gives
returns-in-Some-len2-clause-gives c =
    gives_as _ c.parameter_named.result c.args.work.now c.parameter_named.new.work _ _
    (variable_by (map (λ b. b.0) c.args.earlier.now) c.args.e.now c.name-item.result c.sort-item.result c.in-Some-len2.field-0.now
    (sym c.items.ensures ∙ ap (option_map (λ s. s.now)) c.in-Some-len2.is)
    (just_two c.in-Some-len2.field-0.now _ _ c.in-Some-len2.len_at_least c.in-Some-len2.len_below c.name-item.is c.sort-item.is))
    c.parameter_named.ensures.gives
