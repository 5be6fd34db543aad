use Rattle.std.proofs.Common.{◌≡◌, ℕ, suc, ◌+◌, ◌*◌, ◌^◌, ◌<◌, ◌≤◌, List, length, Some, slice_get, refl, ap, sym, ◌∙◌, subst, arith}
use Rattle.std.proofs.lemmas.Option.{slice_get_read}
use Rattle.std.proofs.lemmas.Result.{err_from_is_err_and}
use Rattle.pt_project.specs.Families.{IsStepFamily}
use Rattle.pt_project.proofs.FamilyVisits.{all-below, members-within, shown-by, full-above, visit-more, on-ok}
use Rattle.pt_project.proofs.search.visit_letter.Goals as goal

pub has_marked-answer-requires : goal.has_marked-answer-requires
has_marked-answer-requires c =
    let k = c.args.task in
    let task = c.requires.task in
    let size : c.args.table.now.tracks ≡ suc k.tracks = omega (arith, task.tracks) in
    let stands : slice_get c.args.closings.now c.args.letter ≡ Some c.index-closings-letter.result =
    slice_get_read c.args.closings.now (2 ^ k.tracks) c.args.letter c.index-closings-letter.result (sym c.requires.count) c.requires.letter c.index-closings-letter.is in
    let marks = c.requires.closings c.args.letter c.index-closings-letter.result c.requires.letter stands in
    let count = c.as_slice.ensures.len ∙ marks.count in
    let below = members-within c.args.table.now k.start k.tracks k.track task.valid size task.start task.track _ _ _ _ c.args.state c.family-family.result.now c.requires.progress.cells c.family-family.ensures in
    record { within = all-below (length c.as_slice.result.now) c.family-family.result.now (λ x in_f. subst (λ (m : ℕ). x < m) (sym count) (below x in_f)) }

pub step_family-requires-clause-within : goal.step_family-requires-clause-within
step_family-requires-clause-within c =
    let k = c.args.task in
    let task = c.requires.task in
    let size : c.args.table.now.tracks ≡ suc k.tracks = omega (arith, task.tracks) in
    all-below c.args.table.now.states c.family-family.result.now
    (members-within c.args.table.now k.start k.tracks k.track task.valid size task.start task.track _ _ _ _ c.args.state c.family-family.result.now c.requires.progress.cells c.family-family.ensures)

pub returns-in_err-number-clause-above : goal.returns-in_err-number-clause-above
returns-in_err-number-clause-above c =
    let k = c.args.task in
    let task = c.requires.task in
    let size : c.args.table.now.tracks ≡ suc k.tracks = omega (arith, task.tracks) in
    let from = err_from_is_err_and c.from_residual-in_err-number.result c.from_residual-in_err-number.ensures.1 in
    let step : IsStepFamily c.args.table.now k.track c.family-family.result.now c.args.letter c.as_slice-next.result.now =
    subst (λ (G : List ℕ). IsStepFamily c.args.table.now k.track c.family-family.result.now c.args.letter G) (sym c.as_slice-next.ensures.value) c.in_ok-step_family.ensures.step in
    rw (from.1, from.2)
    (full-above c.args.table.now k.start k.tracks k.track task.valid size task.start task.track task.reduced _ _ _ _ c.args.state c.args.letter k.bound c.family-family.result.now c.as_slice-next.result.now c.in_err-number.field-0.0
    c.requires.progress.cells c.family-family.ensures c.requires.letter step c.in_err-number.ensures.full)

pub returns-clause-progress : goal.returns-clause-progress
returns-clause-progress c =
    let k = c.args.task in
    let task = c.requires.task in
    let size : c.args.table.now.tracks ≡ suc k.tracks = omega (arith, task.tracks) in
    let stands : slice_get c.args.closings.now c.args.letter ≡ Some c.index-closings-letter.result =
    slice_get_read c.args.closings.now (2 ^ k.tracks) c.args.letter c.index-closings-letter.result (sym c.requires.count) c.requires.letter c.index-closings-letter.is in
    let marks = c.requires.closings c.args.letter c.index-closings-letter.result c.requires.letter stands in
    let below = members-within c.args.table.now k.start k.tracks k.track task.valid size task.start task.track _ _ _ _ c.args.state c.family-family.result.now c.requires.progress.cells c.family-family.ensures in
    let shows = shown-by c.args.table.now k.start k.tracks k.track task.valid size task.start task.track c.family-family.result.now c.args.letter c.index-closings-letter.result c.as_slice.result.now c.has_marked-answer.result below marks c.as_slice.ensures.value c.has_marked-answer.ensures in
    let step : IsStepFamily c.args.table.now k.track c.family-family.result.now c.args.letter c.as_slice-next.result.now =
    subst (λ (G : List ℕ). IsStepFamily c.args.table.now k.track c.family-family.result.now c.args.letter G) (sym c.as_slice-next.ensures.value) c.in_ok-step_family.ensures.step in
    let ok = c.in_ok-number.ensures in
    let room : length c.push_cell.new.search.families ≤ k.bound = subst (λ (n : ℕ). n ≤ k.bound) (sym (ap length c.push_cell.ensures.families)) ok.room in
    on-ok c.push_cell.result _ _ _ c.push_cell.ensures.outputs c.push_cell.ensures.edges
    (λ outputs edges. record {
      cells =
          visit-more c.args.table.now k.start k.tracks k.track task.valid size task.start task.track _ c.number_of.new.self _ _ c.args.state c.args.letter c.in_ok-number.number (c.args.state * 2 ^ k.tracks + c.args.letter)
          c.family-family.result.now c.as_slice-next.result.now c.has_marked-answer.result _ _ _ _ c.requires.progress.cells refl c.family-family.ensures c.requires.letter step shows ok.adds ok.found c.push_cell.ensures.families outputs edges (omega arith);
      room = room;
    })
