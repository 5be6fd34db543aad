use Rattle.std.proofs.Common.{rules, arith, ◌≡◌, ℕ, ◌<◌, ◌≤◌, length, get_or, subst}
use Rattle.pt_refine.proofs.classes.members.Goals as goal

pub returns : goal.returns
returns c =
    let done = c.loop-q.invariant in
    let all : length c.args.numbers.now ≤ c.loop-q.q = search rules in
    record {
      size = done.size;
      within = λ d d_in.
          let at = c.requires.numbers.used d d_in in
          let lt = at.1 in
          let P : ℕ → Type 0 = λ e. get_or c.loop-q.members.items e 0 < length c.args.numbers.now in
          subst P at.2 (done.within at.0 (omega arith));
      member = λ d d_in.
          let at = c.requires.numbers.used d d_in in
          let lt = at.1 in
          let P : ℕ → Type 0 = λ e. get_or c.args.numbers.now (get_or c.loop-q.members.items e 0) 0 ≡ e in
          subst P at.2 (done.member at.0 (omega arith));
    }
