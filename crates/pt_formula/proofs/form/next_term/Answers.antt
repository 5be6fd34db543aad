use Rattle.std.proofs.Common.{◌≡◌, ◌<◌, w64, FitsSigned, slice_index_or, pos, length, ◌∙◌, rules, arith}
use Rattle.pt_formula.specs.Forms.{Monomial}
use Rattle.pt_formula.proofs.Wide.{wide, wide_product, sum_handed}
use Rattle.pt_formula.proofs.TermSums.{read_again, renumbered, next_left, next_right, next_less, next_more, next_same}
use Rattle.pt_formula.proofs.form.next_term.Goals as goal

pub returns-then-j-b-clause-term : goal.returns-then-j-b-clause-term
returns-then-j-b-clause-term c =
    let a = c.args.a.now in
    let i = c.args.i in
    let t : Monomial = slice_index_or a i (0, pos 0) in
    let fits : FitsSigned w64 t.1 = search rules in
    let p : i < length a = search rules in
    next_left a c.args.b.now c.args.by i c.args.j t c.requires.a p (omega (arith, c.if-j-b.true)) (read_again a i (0, pos 0) t p)
    ∙ renumbered t.0 t.1 _ _ (wide t.1 c.from.result fits c.from.ensures)

pub returns-then-i-a-clause-term : goal.returns-then-i-a-clause-term
returns-then-i-a-clause-term c =
    let b = c.args.b.now in
    let j = c.args.j in
    let u : Monomial = slice_index_or b j (0, pos 0) in
    let fits : FitsSigned w64 u.1 = search rules in
    let q : j < length b = search rules in
    next_right c.args.a.now b c.args.by c.args.i j u (omega (arith, c.if-i-a.true)) q (read_again b j (0, pos 0) u q)
    ∙ renumbered u.0 _ _ _ (wide_product c.args.by u.1 c.from-2.result c.from-3.result c.ranges.by fits c.from-2.ensures c.from-3.ensures)

pub returns-in-Less-clause-term : goal.returns-in-Less-clause-term
returns-in-Less-clause-term c =
    let a = c.args.a.now in
    let b = c.args.b.now in
    let i = c.args.i in
    let j = c.args.j in
    let t : Monomial = slice_index_or a i (0, pos 0) in
    let u : Monomial = slice_index_or b j (0, pos 0) in
    let fits : FitsSigned w64 t.1 = search rules in
    let p : i < length a = search rules in
    let q : j < length b = search rules in
    let less : t.0 < u.0 = search rules in
    next_less a b c.args.by i j t u c.requires.a c.requires.b p q (read_again a i (0, pos 0) t p) (read_again b j (0, pos 0) u q) less
    ∙ renumbered t.0 t.1 _ _ (wide t.1 c.from-in-Less.result fits c.from-in-Less.ensures)

pub returns-in-Equal-clause-term : goal.returns-in-Equal-clause-term
returns-in-Equal-clause-term c =
    let a = c.args.a.now in
    let b = c.args.b.now in
    let i = c.args.i in
    let j = c.args.j in
    let t : Monomial = slice_index_or a i (0, pos 0) in
    let u : Monomial = slice_index_or b j (0, pos 0) in
    let fits : FitsSigned w64 t.1 = search rules in
    let fits_right : FitsSigned w64 u.1 = search rules in
    let p : i < length a = search rules in
    let q : j < length b = search rules in
    let same : t.0 ≡ u.0 = search rules in
    next_same a b c.args.by i j t u c.requires.a c.requires.b p q (read_again a i (0, pos 0) t p) (read_again b j (0, pos 0) u q) same
    ∙ renumbered t.0 _ _ _ (sum_handed t.1 c.args.by u.1 c.wide_sum.result fits c.ranges.by fits_right c.wide_sum.ensures)

pub returns-in-Greater-clause-term : goal.returns-in-Greater-clause-term
returns-in-Greater-clause-term c =
    let a = c.args.a.now in
    let b = c.args.b.now in
    let i = c.args.i in
    let j = c.args.j in
    let t : Monomial = slice_index_or a i (0, pos 0) in
    let u : Monomial = slice_index_or b j (0, pos 0) in
    let fits : FitsSigned w64 u.1 = search rules in
    let p : i < length a = search rules in
    let q : j < length b = search rules in
    let more : u.0 < t.0 = search rules in
    next_more a b c.args.by i j t u c.requires.a c.requires.b p q (read_again a i (0, pos 0) t p) (read_again b j (0, pos 0) u q) more
    ∙ renumbered u.0 _ _ _ (wide_product c.args.by u.1 c.from-2.result c.from-3.result c.ranges.by fits c.from-2.ensures c.from-3.ensures)
