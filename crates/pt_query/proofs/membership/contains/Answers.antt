use Rattle.std.proofs.Common.{◌≢◌, ℕ, ◌^◌, ◌<◌, ◌≤◌, refl, sym, ◌∙◌, subst, arith}
use Rattle.std.specs.Prelude.{◌↔◌, IsTrue}
use Rattle.pt_sets.specs.Words.{sign_vector}
use Rattle.pt_sets.specs.Sets.{SameSet, residual}
use Rattle.pt_handles.specs.Handles.{SetOfHandle, state_of}
use Rattle.pt_query.proofs.Shifts.{shifted-none}
use Rattle.pt_query.proofs.Members.{letter-at, member-step, member-last}
use Rattle.pt_query.proofs.Tracks.{known-tracks}
use Rattle.pt_query.proofs.membership.contains.Goals as goal

pub loop-reached-init : goal.loop-reached-init
loop-reached-init g c =
    let X = SetOfHandle (g.P.Codes.lists c.args.pass.now) c.args.a in
    let none = shifted-none c.args.z.now in
    record {
      position = omega arith;
      known = c.requires.known;
      tracks = refl;
      set = (λ h. subst X (sym none) h, λ h. subst X none h);
    }

pub letter_at-requires-clause-few : goal.letter_at-requires-clause-few
letter_at-requires-clause-few g c =
    subst (λ (n : ℕ). n ≤ 10) (sym c.requires.components) (known-tracks g.P.Codes.home (g.P.Codes.lists c.args.pass.now) c.args.a.tracks (state_of c.args.a) c.requires.known)

pub letter_at-requires-2-clause-few : goal.letter_at-requires-2-clause-few
letter_at-requires-2-clause-few g c =
    subst (λ (n : ℕ). n ≤ 10) (sym c.requires.components) (known-tracks g.P.Codes.home (g.P.Codes.lists c.args.pass.now) c.args.a.tracks (state_of c.args.a) c.requires.known)

pub step-reached-requires-clause-letter : goal.step-reached-requires-clause-letter
step-reached-requires-clause-letter g c =
    let t = c.loop-reached.reached.tracks in
    subst (λ (l : ℕ). l < 2 ^ t) (sym c.letter_at.ensures) (letter-at t c.loop-reached.k c.args.z.now (c.requires.components ∙ sym c.loop-reached.invariant.tracks))

pub output-requires-clause-sign : goal.output-requires-clause-sign
output-requires-clause-sign g c =
    let t = c.loop-reached.reached.tracks in
    subst (λ (l : ℕ). l < 2 ^ t) (sym c.letter_at-2.ensures) (letter-at t c.loop-reached.k c.args.z.now (c.requires.components ∙ sym c.loop-reached.invariant.tracks))

pub loop-reached-preserved : goal.loop-reached-preserved
loop-reached-preserved g c =
    let lists = g.P.Codes.lists c.args.pass.now in
    let z = c.args.z.now in
    let k = c.loop-reached.k in
    let h = c.loop-reached.reached in
    let i = c.loop-reached.invariant in
    let has = c.step-reached.ensures in
    let apart : k ≢ 127 = λ e. let yes = c.are_signs_behind.ensures.last e in let no = c.loop-reached-test.true in (cc) in
    record {
      position = let bound = i.position in omega arith;
      known = has.known;
      tracks = has.tracks ∙ i.tracks;
      set = member-step h.tracks k z (SetOfHandle lists c.args.a z) (SetOfHandle lists h) (SetOfHandle lists c.step-reached.result) (c.requires.components ∙ sym i.tracks)
          (subst (λ (l : ℕ). SameSet h.tracks (SetOfHandle lists c.step-reached.result) (residual (SetOfHandle lists h) l)) c.letter_at.ensures has.set) i.set;
    }

pub returns : goal.returns
returns g c =
    let lists = g.P.Codes.lists c.args.pass.now in
    let z = c.args.z.now in
    let k = c.loop-reached.k in
    let h = c.loop-reached.reached in
    let i = c.loop-reached.invariant in
    let yes = c.loop-reached-test.false in
    let signs = c.are_signs_behind.ensures.signs.0 (cc) in
    member-last h.tracks k z (SetOfHandle lists c.args.a z) (SetOfHandle lists h) c.output.result (c.requires.components ∙ sym i.tracks) signs i.set
    (subst (λ (l : ℕ). IsTrue c.output.result ↔ SetOfHandle lists h (sign_vector h.tracks l)) c.letter_at-2.ensures c.output.ensures)
