use Rattle.std.proofs.Common.{rules, arith, ◌≡◌, ℕ, ◌+◌, ◌^◌, ◌<◌, ◌↔◌, List, length, get_or, sym, ap, ◌∙◌, subst}
use Rattle.std.specs.Global.{Vec}
use Rattle.std.specs.List.{Contains}
use Rattle.pt_sets.specs.Automata.{next_of}
use Rattle.pt_refine.specs.Halving.{SplitsBy, Owes}
use Rattle.pt_refine.specs.Dealing.{row_of}
use Rattle.pt_refine.proofs.Rows.{row-get}
use Rattle.pt_refine.proofs.HalvingSteps.{owes-begin, owes-split, owes-end, refines-split}
use Rattle.pt_refine.proofs.halves.split_by_class.Goals as goal

pub loop-letter-init : goal.loop-letter-init
loop-letter-init c = record {
  partition = c.requires.partition;
  unmarked = c.requires.unmarked;
  size = c.requires.size;
  grows = omega arith;
  refines = c.requires.refines;
  owes = owes-begin c.requires.pends;
}

pub split-requires-clause-row : goal.split-requires-clause-row
split-requires-clause-row c = λ q inside.
    let rows = c.deal.new.rows.items in
    let l = c.loop-letter.letter in
    let l_in : l < length rows = let e = c.deal.ensures.rows in let k = c.requires.rows in let n = c.letters-letters.ensures.letters in let lt = c.loop-letter-test.true in omega arith in
    let row_is : c.deref.result.now ≡ row_of rows l = c.deref.ensures.value ∙ ap (λ (v : Vec ℕ). v.items) c.index.ensures ∙ sym (row-get rows l c.index.result.now l_in) in
    let at = c.in_ok-deal.ensures.dealt.sound q l (subst (λ (xs : List ℕ). Contains xs q) row_is inside) in
    let lt = at.0 in
    let size = c.loop-letter.invariant.size in
    omega arith

pub loop-letter-preserved : goal.loop-letter-preserved
loop-letter-preserved c =
    let was = c.loop-letter.invariant in
    let made = c.in_ok-split.ensures in
    let a = c.args.table.now in
    let old = c.args.partition.now.class.items in
    let rows = c.deal.new.rows.items in
    let l = c.loop-letter.letter in
    let shape = c.letters-letters.ensures.valid in
    let letter : l < 2 ^ a.tracks = rw c.letters-letters.ensures.letters at c.loop-letter-test.true in
    let l_in : l < length rows = let e = c.deal.ensures.rows in let k = c.requires.rows in omega arith in
    let row_is : c.deref.result.now ≡ row_of rows l = c.deref.ensures.value ∙ ap (λ (v : Vec ℕ). v.items) c.index.ensures ∙ sym (row-get rows l c.index.result.now l_in) in
    let dealt : (q : ℕ) → q < a.states → Contains c.deref.result.now q ↔ (get_or old (next_of a q l) 0 ≡ c.args.class) = λ q q_in. (
      λ inside. (c.in_ok-deal.ensures.dealt.sound q l (subst (λ (xs : List ℕ). Contains xs q) row_is inside)).1,
      λ is. subst (λ (xs : List ℕ). Contains xs q) (sym row_is) (c.in_ok-deal.ensures.dealt.complete q l q_in letter is),
    ) in
    let splits = subst (λ (n : ℕ). SplitsBy n (length c.loop-letter.partition.starts.items) (Contains c.deref.result.now) (λ q. get_or c.loop-letter.partition.class.items q 0) (λ q. get_or c.split.new.self.class.items q 0)) was.size made.splits in
    let below : c.args.class < length c.loop-letter.partition.starts.items = let grows = was.grows in let lt = c.requires.class in omega arith in
    record {
      partition = made.partition;
      unmarked = made.unmarked;
      size = made.size ∙ was.size;
      grows = let first = was.grows in let then = made.grows in omega arith;
      refines = refines-split a (length c.loop-letter.partition.starts.items) c.args.class l (λ q. get_or old q 0) (λ q. get_or c.loop-letter.partition.class.items q 0) (λ q. get_or c.split.new.self.class.items q 0)
          (Contains c.deref.result.now) shape letter c.requires.refines was.refines splits dealt;
      owes = owes-split shape.closed was.owes splits below dealt;
    }

pub returns-clause-pends : goal.returns-clause-pends
returns-clause-pends c =
    let a = c.args.table.now in
    let all : c.loop-letter.letter ≡ 2 ^ a.tracks = search rules in
    owes-end (subst (λ (l : ℕ). Owes a.states (2 ^ a.tracks) (next_of a) (λ q. get_or c.args.partition.now.class.items q 0) (λ q. get_or c.loop-letter.partition.class.items q 0) c.args.class l) all c.loop-letter.invariant.owes)
