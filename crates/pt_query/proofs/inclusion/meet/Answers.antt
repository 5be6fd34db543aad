use Rattle.std.proofs.Common.{◌≡◌, ℕ, List, Some, slice_get, ap, ◌∙◌, subst}
use Rattle.pt_sets.specs.Automata.{next_of}
use Rattle.pt_sets.specs.Numbering.{Adds}
use Rattle.pt_query.specs.declared.inclusion.Pair.{Pair}
use Rattle.pt_query.specs.Pairs.{pair_after, HasNoRoom}
use Rattle.pt_query.proofs.PairSteps.{pairs-more, pair-over}
use Rattle.pt_query.proofs.inclusion.meet.Goals as goal

pub returns-in-Err-clause-above : goal.returns-in-Err-clause-above
returns-in-Err-clause-above g c =
    let a = c.args.first.now in
    let b = c.args.second.now in
    let l = c.args.letter in
    let p = c.pair_at-pair.result in
    let with_first : ℕ → Pair = λ n. record { first = n; second = c.next-2.result } in
    let with_second : ℕ → Pair = λ n. record { first = next_of a p.first l; second = n } in
    let same : with_first c.next.result ≡ pair_after a b p l = ap with_first c.next.ensures ∙ ap with_second c.next-2.ensures in
    pair-over a b g.start c.args.pairs.now.keys c.args.place l p c.requires.1.1.1.1 c.pair_at-pair.ensures c.requires.1.1.0 c.args.bound c.in-Err.fault
    (subst (λ (q : Pair). HasNoRoom c.args.pairs.now.keys q c.args.bound c.in-Err.fault) same c.in-Err.ensures.full)

pub returns-clause-pairs : goal.returns-clause-pairs
returns-clause-pairs g c =
    let a = c.args.first.now in
    let b = c.args.second.now in
    let l = c.args.letter in
    let p = c.pair_at-pair.result in
    let old = c.args.pairs.now.keys in
    let new = c.add.new.pairs.keys in
    let with_first : ℕ → Pair = λ n. record { first = n; second = c.next-2.result } in
    let with_second : ℕ → Pair = λ n. record { first = next_of a p.first l; second = n } in
    let same : with_first c.next.result ≡ pair_after a b p l = ap with_first c.next.ensures ∙ ap with_second c.next-2.ensures in
    pairs-more a b g.start old c.args.place l p c.requires.1.1.1.1 c.pair_at-pair.ensures c.requires.1.1.0 c.is_automaton.ensures c.is_automaton-2.ensures c.requires.0 new
    (subst (λ (q : Pair). Adds q old new) same c.in_default.ensures.adds)
    (subst (λ (q : Pair). (k : ℕ) × (slice_get new k ≡ Some q)) same c.in_default.ensures.found)
