use Rattle.std.proofs.Common.{◌≡◌, ℕ, ◌+◌, ◌*◌, ◌<◌, ◌^◌, ◌≤◌, refl, ap, sym, subst, arith}
use Rattle.std.proofs.lemmas.Result.{err_from_is_err_and}
use Rattle.indexmap.specs.IndexSet.{index_set_len}
use Rattle.pt_sets.proofs.Numbered.{adds-longer}
use Rattle.pt_product.specs.Pairs.{task, IsStep}
use Rattle.pt_product.proofs.Visits.{pair-within, full-above, visit-more, on-ok, on-ok-always}
use Rattle.pt_product.proofs.search.visit_letter.Goals as goal

pub next_pair-next-requires : goal.next_pair-next-requires
next_pair-next-requires c =
    let within = pair-within _ _ _ _ _ c.args.state c.pair_at-pair.result c.requires.task c.requires.progress.cells c.pair_at-pair.ensures in
    let letter : c.args.letter < 2 ^ c.args.b.now.tracks = subst (λ (n : ℕ). c.args.letter < 2 ^ n) (sym c.requires.task.same) c.requires.letter in
    record { in_a = within.0; in_b = within.1; letter_a = c.requires.letter; letter_b = letter }

pub pair_answer-answer-requires : goal.pair_answer-answer-requires
pair_answer-answer-requires c =
    let within = pair-within _ _ _ _ _ c.args.state c.pair_at-pair.result c.requires.task c.requires.progress.cells c.pair_at-pair.ensures in
    let letter : c.args.letter < 2 ^ c.args.b.now.tracks = subst (λ (n : ℕ). c.args.letter < 2 ^ n) (sym c.requires.task.same) c.requires.letter in
    record { in_a = within.0; in_b = within.1; sign_a = c.requires.letter; sign_b = letter }

pub returns-in_err-number-clause-above : goal.returns-in_err-number-clause-above
returns-in_err-number-clause-above c =
    let k = task c.args.op c.args.a.now c.args.b.now in
    let from = err_from_is_err_and c.from_residual.result c.from_residual.ensures.1 in
    let step : IsStep k c.pair_at-pair.result c.args.letter c.next_pair-next.result = record { a = sym c.next_pair-next.ensures.a; b = sym c.next_pair-next.ensures.b } in
    rw (from.1, from.2)
    (full-above k _ _ _ _ c.args.state c.args.letter c.args.bound c.pair_at-pair.result c.next_pair-next.result c.in_err-number.field-0.0
    c.requires.task c.requires.progress.cells c.pair_at-pair.ensures c.requires.letter step c.in_err-number.ensures.full)

pub returns-clause-progress : goal.returns-clause-progress
returns-clause-progress c =
    let k = task c.args.op c.args.a.now c.args.b.now in
    let step : IsStep k c.pair_at-pair.result c.args.letter c.next_pair-next.result = record { a = sym c.next_pair-next.ensures.a; b = sym c.next_pair-next.ensures.b } in
    let ok = c.in_ok-number.ensures in
    let room : index_set_len c.push_cell.new.search.pairs ≤ c.args.bound = subst (λ (n : ℕ). n ≤ c.args.bound) (sym (ap index_set_len c.push_cell.ensures.pairs)) ok.room in
    on-ok c.push_cell.result _ _ _ c.push_cell.ensures.outputs c.push_cell.ensures.edges
    (λ outputs edges. record {
      cells =
          visit-more k _ c.number_of.new.pairs.keys _ _ c.args.state c.args.letter c.in_ok-number.number (c.args.state * 2 ^ c.args.a.now.tracks + c.args.letter) c.pair_at-pair.result c.next_pair-next.result c.pair_answer-answer.result _ _ _ _
          c.requires.task c.requires.progress.cells refl c.pair_at-pair.ensures c.requires.letter step ok.adds ok.found c.pair_answer-answer.ensures (ap (λ s. s.keys) c.push_cell.ensures.pairs) outputs edges (omega arith);
      room = room;
    })

pub returns-clause-grows : goal.returns-clause-grows
returns-clause-grows c =
    let longer = adds-longer c.next_pair-next.result c.args.search.now.pairs.keys c.number_of.new.pairs.keys c.in_ok-number.ensures.adds in
    let same = ap index_set_len c.push_cell.ensures.pairs in
    on-ok-always c.push_cell.result _ (omega (arith, longer, same))
