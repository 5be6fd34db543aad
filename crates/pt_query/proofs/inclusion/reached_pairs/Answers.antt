use Rattle.std.proofs.Common.{◌≡◌, ℕ, ◌+◌, ◌<◌, ◌≤◌, List, [], ◌∷◌, length, sym, subst, arith, rules}
use Rattle.indexmap.specs.IndexSet.{index_set_len}
use Rattle.pt_query.specs.declared.inclusion.Pair.{Pair}
use Rattle.pt_query.specs.Pairs.{ArePairs, AreTooMany, front_of}
use Rattle.pt_query.proofs.PairSteps.{pairs-first}
use Rattle.pt_query.proofs.inclusion.reached_pairs.Goals as goal

pub loop-place-init : goal.loop-place-init
loop-place-init c =
    let a = c.args.first.now in
    let b = c.args.second.now in
    let keys : c.insert.new.self.keys ≡ c.args.start ∷ [] = search rules in
    record {
      pairs = subst (λ (ps : List Pair). ArePairs a b c.args.start ps 0 0) (sym keys) (pairs-first a b c.args.start c.requires.in_first c.requires.in_second);
      before = omega arith;
      room = subst (λ (ps : List Pair). length ps ≤ c.args.bound) (sym keys) (omega arith);
    }

pub meet_all-requires : goal.meet_all-requires
meet_all-requires c =
    let is = c.loop-place.invariant.pairs in
    let place : c.loop-place.place < index_set_len c.loop-place.pairs = search rules in
    let pairs = subst (λ (p : Pair). ArePairs c.args.first.now c.args.second.now p c.loop-place.pairs.keys c.loop-place.place 0) (sym is.begins) is in
    (c.requires.tracks, (place, (c.loop-place.invariant.room, pairs)))

pub returns-in-Err-clause-above : goal.returns-in-Err-clause-above
returns-in-Err-clause-above c =
    subst (λ (p : Pair). AreTooMany c.args.first.now c.args.second.now p c.args.bound c.in-Err.fault) c.loop-place.invariant.pairs.begins c.in-Err.ensures.above

pub loop-place-preserved : goal.loop-place-preserved
loop-place-preserved c =
    let grows = c.in_default.ensures.grows in
    let room = c.in_default.ensures.room in
    record {
      pairs = subst (λ (p : Pair). ArePairs c.args.first.now c.args.second.now p c.meet_all.new.pairs.keys (c.loop-place.place + 1) 0) c.loop-place.invariant.pairs.begins c.in_default.ensures.pairs;
      before = omega arith;
      room = room;
    }

pub returns-clause-pairs : goal.returns-clause-pairs
returns-clause-pairs c =
    let count = c.len.ensures.len in
    let before = c.loop-place.invariant.before in
    let past : index_set_len c.loop-place.pairs ≤ c.loop-place.place = omega (arith, c.loop-place-test.false, count) in
    let all : c.loop-place.place ≡ index_set_len c.loop-place.pairs = omega (arith, past, before) in
    subst (λ (n : ℕ). ArePairs c.args.first.now c.args.second.now c.args.start c.loop-place.pairs.keys n 0) all c.loop-place.invariant.pairs
