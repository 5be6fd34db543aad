use Rattle.std.proofs.Common.{◌≡◌, ℕ, List, length, refl, sym, ◌∙◌}
use Rattle.pt_sets.specs.Costs.{IsEquivalence}
use Rattle.pt_query.proofs.law_tests.lengths_have_one_cost.Goals as goal

-- to have one length is an equivalence
one-length : (t : ℕ) → IsEquivalence (λ (v w : List ℕ). length v ≡ length w) t
one-length t = record {
  reflexive = λ u letters. refl;
  symmetric = λ u v in_u in_v same. sym same;
  transitive = λ u v w in_u in_v in_w first second. first ∙ second;
}

pub returns-clause-unique : goal.returns-clause-unique
returns-clause-unique c t B C one two = c.a_cost_is_one_number.ensures.unique t (one-length t) B C one two

pub returns-clause-exclude : goal.returns-clause-exclude
returns-clause-exclude c t B above within = c.costs_exclude_each_other.ensures t B (one-length t) above within
