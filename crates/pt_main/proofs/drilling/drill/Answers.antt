use Rattle.std.proofs.Common.{◌≡◌, ◌∙◌, ◌≤◌, ℕ, List, length, refl, inl, sym, subst, arith, true, false}
use Rattle.pt_drill.specs.Drill.{drill_text}
use Rattle.pt_main.specs.Wanted.{LackAsked, KnowAnswered, OffersWithin}
use Rattle.pt_main.proofs.Whole.{if_whole_any}
use Rattle.pt_main.proofs.Drills.{whole_output, summed, summed_of_text, summed_full, refused_drill, line_of_text, line_full, drills_nothing}
use Rattle.pt_main.proofs.drilling.drill.Goals as goal

pub returns-in_default-clause-answer : goal.returns-in_default-clause-answer
returns-in_default-clause-answer g c = drills_nothing c.args.given (drill_text c.args.given.seed c.args.given.size) (g.K.Sink.written c.args.sink.now)

pub answer-requires-clause-size : goal.answer-requires-clause-size
answer-requires-clause-size g c κs within =
    subst (λ (text : List ℕ). length text ≤ 4194304) (sym (c.as_slice.ensures.value ∙ c.in-Ok.ensures)) (c.scripts_are_short.ensures c.args.given.seed c.args.given.size c.requires.range.small)

-- ---- the script was answered

pub returns-in-Done-clause-of_text : goal.returns-in-Done-clause-of_text
returns-in-Done-clause-of_text g c = summed_of_text _ (g.K.Sink.written c.args.sink.now) (g.K.Sink.written c.sum_up.new.sink) c.sum_up.result c.sum_up.ensures.told

pub returns-in-Done-clause-store_full : goal.returns-in-Done-clause-store_full
returns-in-Done-clause-store_full g c = summed_full _ (g.K.Sink.written c.args.sink.now) (g.K.Sink.written c.sum_up.new.sink) c.sum_up.result _ c.sum_up.ensures.told

pub returns-in-Done-clause-lack : goal.returns-in-Done-clause-lack
returns-in-Done-clause-lack g c = summed_full _ (g.K.Sink.written c.args.sink.now) (g.K.Sink.written c.sum_up.new.sink) c.sum_up.result _ c.sum_up.ensures.told

pub returns-in-Done-clause-answer : goal.returns-in-Done-clause-answer
returns-in-Done-clause-answer g c =
    summed c.args.given (drill_text c.args.given.seed c.args.given.size) c.as_slice-in-Done.result.now (g.K.Sink.written c.args.sink.now) (g.K.Sink.written c.sum_up.new.sink) c.sum_up.result
    (whole_output c.in-Ok.script.items (drill_text c.args.given.seed c.args.given.size) c.as_slice.result.now c.args.given.states false c.new-output.result.bytes.items c.answer.new.sink.bytes.items c.as_slice-in-Done.result.now
    c.in-Ok.ensures c.as_slice.ensures.value c.new-output.ensures c.in-Done.ensures.answer c.as_slice-in-Done.ensures.value)
    c.sum_up.ensures.told

pub returns-in-Done-clause-known : goal.returns-in-Done-clause-known
returns-in-Done-clause-known g c =
    if_whole_any c.sum_up.result _ (subst (λ (text : List ℕ). KnowAnswered g.I.Pass.Codes.home (g.I.Pass.Codes.lists c.answer.new.pass) text c.args.given.states) (c.as_slice.ensures.value ∙ c.in-Ok.ensures) c.in-Done.ensures.known)

pub returns-in-Done-clause-offers : goal.returns-in-Done-clause-offers
returns-in-Done-clause-offers g c =
    subst (λ (text : List ℕ). OffersWithin text c.args.given.states (g.I.Pass.Codes.offered c.args.pass.now) (g.I.Pass.Codes.offered c.answer.new.pass)) (c.as_slice.ensures.value ∙ c.in-Ok.ensures) c.in-Done.ensures.offers

-- ---- it was refused

pub returns-in-Refused-clause-of_text : goal.returns-in-Refused-clause-of_text
returns-in-Refused-clause-of_text g c = line_of_text _ (g.K.Sink.written c.args.sink.now) (g.K.Sink.written c.end_with.new.sink) c.end_with.result c.end_with.ensures.told

pub returns-in-Refused-clause-store_full : goal.returns-in-Refused-clause-store_full
returns-in-Refused-clause-store_full g c = line_full _ (g.K.Sink.written c.args.sink.now) (g.K.Sink.written c.end_with.new.sink) c.end_with.result _ c.end_with.ensures.told

pub returns-in-Refused-clause-lack : goal.returns-in-Refused-clause-lack
returns-in-Refused-clause-lack g c = line_full _ (g.K.Sink.written c.args.sink.now) (g.K.Sink.written c.end_with.new.sink) c.end_with.result _ c.end_with.ensures.told

pub returns-in-Refused-clause-answer : goal.returns-in-Refused-clause-answer
returns-in-Refused-clause-answer g c =
    refused_drill c.args.given (drill_text c.args.given.seed c.args.given.size) c.as_slice-in-Refused.result.now c.last_line.result.now (g.K.Sink.written c.args.sink.now) (g.K.Sink.written c.end_with.new.sink) c.end_with.result
    (whole_output c.in-Ok.script.items (drill_text c.args.given.seed c.args.given.size) c.as_slice.result.now c.args.given.states true c.new-output.result.bytes.items c.answer.new.sink.bytes.items c.as_slice-in-Refused.result.now
    c.in-Ok.ensures c.as_slice.ensures.value c.new-output.ensures c.in-Refused.ensures.answer c.as_slice-in-Refused.ensures.value)
    c.last_line.ensures c.end_with.ensures.told

pub returns-in-Refused-clause-known : goal.returns-in-Refused-clause-known
returns-in-Refused-clause-known g c =
    if_whole_any c.end_with.result _ (subst (λ (text : List ℕ). KnowAnswered g.I.Pass.Codes.home (g.I.Pass.Codes.lists c.answer.new.pass) text c.args.given.states) (c.as_slice.ensures.value ∙ c.in-Ok.ensures) c.in-Refused.ensures.known)

pub returns-in-Refused-clause-offers : goal.returns-in-Refused-clause-offers
returns-in-Refused-clause-offers g c =
    subst (λ (text : List ℕ). OffersWithin text c.args.given.states (g.I.Pass.Codes.offered c.args.pass.now) (g.I.Pass.Codes.offered c.answer.new.pass)) (c.as_slice.ensures.value ∙ c.in-Ok.ensures) c.in-Refused.ensures.offers

-- ---- a shard is full

pub returns-in-StoreFull-clause-lack : goal.returns-in-StoreFull-clause-lack
returns-in-StoreFull-clause-lack g c =
    subst (λ (text : List ℕ). LackAsked g.I.Pass.Codes.home (g.I.Interner.limit_of c.args.store.now) (g.I.Pass.Codes.lists c.answer.new.pass) text c.args.given.states) (c.as_slice.ensures.value ∙ c.in-Ok.ensures) c.in-StoreFull.ensures.lack

pub returns-in-StoreFull-clause-answer : goal.returns-in-StoreFull-clause-answer
returns-in-StoreFull-clause-answer g c = drills_nothing c.args.given (drill_text c.args.given.seed c.args.given.size) (g.K.Sink.written c.args.sink.now)

pub returns-in-StoreFull-clause-offers : goal.returns-in-StoreFull-clause-offers
returns-in-StoreFull-clause-offers g c =
    subst (λ (text : List ℕ). OffersWithin text c.args.given.states (g.I.Pass.Codes.offered c.args.pass.now) (g.I.Pass.Codes.offered c.answer.new.pass)) (c.as_slice.ensures.value ∙ c.in-Ok.ensures) c.in-StoreFull.ensures.offers

-- ---- there is no memory

pub returns-clause-answer : goal.returns-clause-answer
returns-clause-answer g c = drills_nothing c.args.given (drill_text c.args.given.seed c.args.given.size) (g.K.Sink.written c.args.sink.now)

pub returns-clause-offers : goal.returns-clause-offers
returns-clause-offers g c =
    subst (λ (text : List ℕ). OffersWithin text c.args.given.states (g.I.Pass.Codes.offered c.args.pass.now) (g.I.Pass.Codes.offered c.answer.new.pass)) (c.as_slice.ensures.value ∙ c.in-Ok.ensures) c.answer.ensures.offers
