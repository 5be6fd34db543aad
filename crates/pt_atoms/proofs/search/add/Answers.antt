use Rattle.pt_atoms.specs.contracts.parameter.ParameterPartialEq.TheImpl as parameter
use Rattle.pt_atoms.proofs.Adding.{inserted, place_past, place_below}
use Rattle.pt_atoms.proofs.Deciding.{parameters_decide}
use Rattle.pt_atoms.proofs.search.add.Goals as goal
use Rattle.std.proofs.Common.{refl, arith}

pub returns-then-bound-place-clause-full : goal.returns-then-bound-place-clause-full
returns-then-bound-place-clause-full c =
    let stored = c.in_ok-place.ensures.stored in
    let added = inserted parameter.ghosts.eq parameters_decide c.args.found.now.keys c.insert_full.new.self.keys c.args.parameter stored.0 c.in_ok-place.place c.in_ok-place.ensures.keys stored.1 stored.2 in
    let full = place_past c.args.parameter c.args.found.now.keys c.insert_full.new.self.keys c.in_ok-place.place c.args.bound added c.requires c.if-bound-place.true in
    (refl, full.0, full.1)

pub returns-clause-added : goal.returns-clause-added
returns-clause-added c =
    let stored = c.in_ok-place.ensures.stored in
    inserted parameter.ghosts.eq parameters_decide c.args.found.now.keys c.insert_full.new.self.keys c.args.parameter stored.0 c.in_ok-place.place c.in_ok-place.ensures.keys stored.1 stored.2

pub returns-clause-within : goal.returns-clause-within
returns-clause-within c =
    let stored = c.in_ok-place.ensures.stored in
    let added = inserted parameter.ghosts.eq parameters_decide c.args.found.now.keys c.insert_full.new.self.keys c.args.parameter stored.0 c.in_ok-place.place c.in_ok-place.ensures.keys stored.1 stored.2 in
    let below = c.if-bound-place.false in
    place_below c.args.parameter c.args.found.now.keys c.insert_full.new.self.keys c.in_ok-place.place c.args.bound added c.requires (omega (arith, below))
