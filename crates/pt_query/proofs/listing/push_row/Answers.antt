use Rattle.std.proofs.Common.{◌≡◌, inl, inr, ℕ, ◌+◌, ◌<◌, Bool, List, [], ◌∷◌, ◌++◌, length, get_or, ap, sym, ◌∙◌, subst, arith, rules, length-append}
use Rattle.std.specs.Global.{Vec}
use Rattle.std.proofs.lemmas.Bool.{cases_lt}
use Rattle.std.proofs.lemmas.List.{get_or_append_left, get_or_push}
use Rattle.pt_query.specs.Fresh.{IsRow}
use Rattle.pt_query.proofs.listing.push_row.Goals.{then-count-eq0+in_ok-row, else-count-eq0+in_ok-row-2}
use Rattle.pt_query.proofs.listing.push_row.Goals as goal

pub returns-clause-rows : goal.returns-clause-rows
returns-clause-rows c i v inside at =
    let a = c.args.table.now in
    let rows = c.args.rows.now.items in
    let row = c.if-count-eq0.row in
    let n = length rows in
    let count : c.len-count.result ≡ n = search rules in
    let last : IsRow a (n + 1) row.items =
    elim c.if-count-eq0.branch [
      | then-count-eq0+in_ok-row w ↦
          let none : n ≡ 0 = omega (arith, count, w.if-count-eq0.true) in
          subst (λ (r : Vec Bool). IsRow a (n + 1) r.items) (sym w.row-is) (subst (λ (m : ℕ). IsRow a (m + 1) w.in_ok-row.row.items) (sym none) w.in_ok-row.ensures)
      | else-count-eq0+in_ok-row-2 w ↦
          let some : 0 < n = omega (arith, count, w.if-count-eq0.false) in
          let before : IsRow a n w.as_slice.result.now = search rules in
          subst (λ (r : Vec Bool). IsRow a (n + 1) r.items) (sym w.row-is) (w.in_ok-row-2.ensures n some before)
    ] in
    let items = c.in_ok-push.ensures.items in
    elim (cases_lt i n) [
      | inl old ↦ c.requires.rows i v old (sym (ap (λ (rs : List (Vec Bool)). get_or rs i v) items ∙ get_or_append_left rows (row ∷ []) v i old) ∙ at)
      | inr over ↦
          let size = ap (λ (rs : List (Vec Bool)). length rs) items ∙ length-append rows (row ∷ []) in
          let here : n ≡ i = omega (arith, inside, size, over) in
          let read : v ≡ row = sym at ∙ ap (λ (rs : List (Vec Bool)). get_or rs i v) items ∙ get_or_push rows row v i here in
          subst (λ (r : Vec Bool). IsRow a (i + 1) r.items) (sym read) (subst (λ (m : ℕ). IsRow a (m + 1) row.items) here last)
    ]
