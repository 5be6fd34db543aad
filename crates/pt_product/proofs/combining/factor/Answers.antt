use Rattle.std.proofs.Common.{◌≡◌, ℕ, List, ap, sym, ◌∙◌, subst}
use Rattle.pt_sets.specs.Sets.{SameSet}
use Rattle.pt_sets.specs.Automata.{SetOfState}
use Rattle.pt_sets.specs.Restricting.{IsTrackMap, widened}
use Rattle.pt_handles.specs.Handles.{SetOfHandle, state_of}
use Rattle.pt_product.specs.Pairs.{OneFactor, IsFactor, WideSet}
use Rattle.pt_product.proofs.Tracks.{known-tracks}
use Rattle.pt_product.proofs.Derivations.{widened-same-set}
use Rattle.pt_product.proofs.combining.factor.Goals as goal

pub new-requires-clause-few : goal.new-requires-clause-few
new-requires-clause-few g c = known-tracks g.P.Codes.home (g.P.Codes.lists c.args.pass.now) c.args.handle.tracks (state_of c.args.handle) c.requires.known

pub new-requires-2 : goal.new-requires-2
new-requires-2 g c =
    let e = c.in_ok-table.ensures in
    let side = c.in_ok-side.side in
    record {
      factor = record {
        valid = e.valid;
        reduced = e.reduced;
        start = e.in_range;
        map = subst (λ (m : List ℕ). IsTrackMap c.in_ok-table.table.tracks side.tracks m) (sym c.in_ok-side.ensures.map)
            (subst (λ (t : ℕ). IsTrackMap c.in_ok-table.table.tracks t c.args.map.now) (sym c.in_ok-side.ensures.tracks) (subst (λ (k : ℕ). IsTrackMap k c.args.tracks c.args.map.now) (sym e.tracks) c.requires.map));
      };
      tracks = ap (λ h. h.tracks) c.in_ok-side.ensures.handle ∙ sym e.tracks;
    }

pub returns-clause-set : goal.returns-clause-set
returns-clause-set g c =
    let e = c.in_ok-table.ensures in
    let X = SetOfHandle (g.P.Codes.lists c.args.pass.now) c.args.handle in
    let Y = SetOfState c.in_ok-table.table c.in_ok-table.start in
    let t = c.args.tracks in
    let same : SameSet t (widened c.args.map.now Y) (widened c.args.map.now X) = widened-same-set c.args.handle.tracks t c.args.map.now Y X c.requires.map.count e.set in
    subst (λ (f : OneFactor). SameSet t (WideSet f) (widened c.args.map.now X)) (sym c.new-2.ensures)
    (subst (λ (m : List ℕ). SameSet t (widened m Y) (widened c.args.map.now X)) (sym c.in_ok-side.ensures.map) same)
