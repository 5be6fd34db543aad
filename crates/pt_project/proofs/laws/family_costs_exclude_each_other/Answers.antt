use Rattle.std.proofs.Common.{◌-◌, ℕ, List}
use Rattle.pt_sets.specs.Costs.{RestrictsBy, SameFamily}
use Rattle.pt_sets.proofs.Counting.{costs-exclude, family-equivalence}
use Rattle.pt_handles.specs.Handles.{SetOfHandle}
use Rattle.pt_project.specs.Projecting.{without}
use Rattle.pt_project.proofs.laws.family_costs_exclude_each_other.Goals as goal

pub returns : goal.returns
returns g c a track B above within =
    let restricts : List ℕ → List ℕ → Type 0 = RestrictsBy a.tracks (without track) in
    let set = SetOfHandle (g.P.Codes.lists c.args.pass.now) a in
    costs-exclude (SameFamily restricts a.tracks set) (a.tracks - 1) (family-equivalence restricts a.tracks set (a.tracks - 1)) B above within
