use Rattle.std.proofs.Common.{◌≡◌, ℕ, subst, sym, ◌∙◌, arith}
use Rattle.pt_handles.specs.Handles.{SetOfHandle}
use Rattle.pt_handles.specs.Expansion.{Expands}
use Rattle.pt_query.specs.declared.inclusion.Pair.{Pair}
use Rattle.pt_query.proofs.Included.{pairs-above, pairs-within, pairs-tell}
use Rattle.pt_query.proofs.inclusion.is_subset.Goals as goal

pub reached_pairs-requires-clause-tracks : goal.reached_pairs-requires-clause-tracks
reached_pairs-requires-clause-tracks g c = c.in_ok-second.ensures.tracks ∙ c.requires.tracks ∙ sym c.in_ok-first.ensures.tracks

pub are_included-requires-clause-tracks : goal.are_included-requires-clause-tracks
are_included-requires-clause-tracks g c = c.in_ok-second.ensures.tracks ∙ c.requires.tracks ∙ sym c.in_ok-first.ensures.tracks

pub returns-clause-ok : goal.returns-clause-ok
returns-clause-ok g c =
    let t = c.args.a.tracks in
    let lists = g.P.Codes.lists c.args.pass.now in
    let Y = SetOfHandle lists c.args.b in
    let start : Pair = record { first = c.in_ok-first.start; second = c.in_ok-second.other } in
    let eb : Expands t Y c.in_ok-second.second c.in_ok-second.other = subst (λ (n : ℕ). Expands n Y c.in_ok-second.second c.in_ok-second.other) c.requires.tracks c.in_ok-second.ensures in
    pairs-tell t (SetOfHandle lists c.args.a) Y c.in_ok-first.first c.in_ok-second.second start c.is_automaton.ensures c.is_automaton-2.ensures c.in_ok-first.ensures eb c.in-Ok.pairs.keys c.in-Ok.ensures.pairs c.are_included.result c.are_included.ensures

pub returns-clause-within : goal.returns-clause-within
returns-clause-within g c =
    let t = c.args.a.tracks in
    let lists = g.P.Codes.lists c.args.pass.now in
    let Y = SetOfHandle lists c.args.b in
    let start : Pair = record { first = c.in_ok-first.start; second = c.in_ok-second.other } in
    let eb : Expands t Y c.in_ok-second.second c.in_ok-second.other = subst (λ (n : ℕ). Expands n Y c.in_ok-second.second c.in_ok-second.other) c.requires.tracks c.in_ok-second.ensures in
    pairs-within t (SetOfHandle lists c.args.a) Y c.in_ok-first.first c.in_ok-second.second start c.is_automaton.ensures c.is_automaton-2.ensures c.in_ok-first.ensures eb c.in-Ok.pairs.keys c.in-Ok.ensures.pairs c.args.bound c.in-Ok.ensures.room

pub returns-in-Err-clause-above : goal.returns-in-Err-clause-above
returns-in-Err-clause-above g c =
    let t = c.args.a.tracks in
    let lists = g.P.Codes.lists c.args.pass.now in
    let Y = SetOfHandle lists c.args.b in
    let start : Pair = record { first = c.in_ok-first.start; second = c.in_ok-second.other } in
    let eb : Expands t Y c.in_ok-second.second c.in_ok-second.other = subst (λ (n : ℕ). Expands n Y c.in_ok-second.second c.in_ok-second.other) c.requires.tracks c.in_ok-second.ensures in
    pairs-above t (SetOfHandle lists c.args.a) Y c.in_ok-first.first c.in_ok-second.second start c.is_automaton.ensures c.is_automaton-2.ensures c.in_ok-first.ensures eb c.args.bound c.in-Err.fault c.in-Err.ensures.above
