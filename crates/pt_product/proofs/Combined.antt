-- What the table of a finished search is to sets that are equal to those of its factors.
use Rattle.std.proofs.Common.{◌≡◌, ℕ, ◌*◌, ◌^◌, ◌<◌, ◌≤◌, List, length, refl, subst, arith}
use Rattle.indexmap.specs.IndexSet.{index_set_len}
use Rattle.pt_sets.specs.Words.{Vector}
use Rattle.pt_sets.specs.Sets.{SameSet}
use Rattle.pt_sets.specs.Automata.{Automaton, IsAutomaton, SetOfState}
use Rattle.pt_sets.specs.Costs.{SamePair, CostIs, CostWithin}
use Rattle.pt_sets.proofs.Counting.{SameSet-trans, is-within, within-monotone}
use Rattle.pt_product.specs.declared.search.Search.{Search}
use Rattle.pt_product.specs.Operations.{combined}
use Rattle.pt_product.specs.Pairs.{WideSet, Task, IsTask, same_pair}
use Rattle.pt_product.specs.Searching.{HasProgress}
use Rattle.pt_product.proofs.CombinedSets.{combined-same}
use Rattle.pt_product.proofs.Finished.{pairs-set, pairs-automaton, pairs-cost}
use Rattle.pt_product.proofs.Transfers.{cost-moved}

module _ (k : Task) (task : IsTask k) (t bound : ℕ) (tracks : k.a.tracks ≡ t) (few : bound ≤ 65536) (search : Search) (done : HasProgress k bound search (index_set_len search.pairs * 2 ^ k.a.tracks)) where
  abbrev pub made : ℕ → ℕ → Automaton
  made n m = record { tracks = n; states = m; outputs = search.outputs.items; edges = search.edges.items }

  abbrev count : ℕ
  count = length search.pairs.keys

  pub made-automaton : IsAutomaton (made t count)
  made-automaton = subst (λ (n : ℕ). IsAutomaton (made n count)) tracks (pairs-automaton k task search.pairs.keys search.outputs.items search.edges.items done.cells (omega (arith, done.room)))

  module _ (A B : Vector → Type 0) (is_a : SameSet t (WideSet k.a) A) (is_b : SameSet t (WideSet k.b) B) where
    pub made-set : SameSet t (SetOfState (made t count) 0) (combined k.op A B)
    made-set =
        SameSet-trans t (SetOfState (made t count) 0) (combined k.op (WideSet k.a) (WideSet k.b)) (combined k.op A B)
        (subst (λ (n : ℕ). SameSet n (SetOfState (made n count) 0) (combined k.op (WideSet k.a) (WideSet k.b))) tracks (pairs-set k task search.pairs.keys search.outputs.items search.edges.items done.cells))
        (combined-same t k.op (WideSet k.a) (WideSet k.b) A B is_a is_b)

    pub made-cost : CostIs (SamePair t A B) t count
    made-cost =
        cost-moved t (WideSet k.a) (WideSet k.b) A B is_a is_b count
        (subst (λ (n : ℕ). CostIs (SamePair n (WideSet k.a) (WideSet k.b)) n count) tracks (pairs-cost k task search.pairs.keys search.outputs.items search.edges.items done.cells))

    pub made-within : CostWithin (SamePair t A B) t bound
    made-within = within-monotone (SamePair t A B) t count bound done.room (is-within (SamePair t A B) t count made-cost)
