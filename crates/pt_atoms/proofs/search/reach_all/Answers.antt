use Rattle.std.proofs.Common.{◌∷◌, [], ℕ, Bool, List, subst, sym, arith}
use Rattle.pt_atoms.specs.Parameters.{parameter_of}
use Rattle.pt_atoms.specs.Searches.{IsSearch}
use Rattle.pt_atoms.specs.declared.parameter.Parameter.{Parameter}
use Rattle.pt_atoms.proofs.Stepping.{search_start}
use Rattle.pt_atoms.proofs.search.reach_all.Goals as goal

pub rows-init : goal.rows-init
rows-init c =
    let n = c.args.normal.now in
    let B = c.args.bound in
    let s = c.in_ok-search.search in (
      c.in_ok-search.ensures.sums,
      subst (λ (ps : List Parameter). IsSearch n B 0 ps s.edges.items s.outputs.items) (sym c.in_ok-search.ensures.found)
          (subst (λ (es : List ℕ). IsSearch n B 0 (parameter_of n ∷ []) es s.outputs.items) (sym c.in_ok-search.ensures.edges)
          (subst (λ (os : List Bool). IsSearch n B 0 (parameter_of n ∷ []) [] os) (sym c.in_ok-search.ensures.outputs) (search_start n B c.requires.normal_form c.requires.least))),
      omega arith,
    )
