use Rattle.std.proofs.Common.{rules, arith, ◌≡◌, ◌⊎◌, ℕ, ◌<◌, List, length, get_or, refl, ap, ◌∙◌, subst}
use Rattle.std.specs.List.{Contains}
use Rattle.std.proofs.lemmas.List.Elements.{Contains-get_or}
use Rattle.pt_refine.specs.Partitions.{IsMarked}
use Rattle.pt_refine.proofs.Cutting.{before-all}
use Rattle.pt_refine.proofs.MarkedRows.{marked-none, marked-more}
use Rattle.pt_refine.proofs.partition.Partition.mark_all.Goals as goal

pub loop-state-init : goal.loop-state-init
loop-state-init c =
    let p = c.args.self.now in
    record {
      partition = c.requires.partition;
      keeps = record { class = refl; starts = refl };
      marked = marked-none (length p.class.items) (length p.starts.items) c.args.row.now c.clear.new.self.items (λ q. get_or p.class.items q 0) (IsMarked p) c.clear.ensures.items c.requires.unmarked;
    }

pub mark_listed-requires-clause-state : goal.mark_listed-requires-clause-state
mark_listed-requires-clause-state c =
    let row = c.args.row.now in
    let i = c.loop-state.state-index in
    let x_in = c.requires.row (get_or row i 0) (Contains-get_or row i 0 c.loop-state-test.true) in
    let size = ap length c.loop-state.invariant.keeps.class in
    omega arith

pub loop-state-preserved : goal.loop-state-preserved
loop-state-preserved c =
    let was = c.loop-state.invariant in
    let made = c.in_ok-mark_listed.ensures in
    let p = c.args.self.now in
    let mid = c.loop-state.self in
    let row = c.args.row.now in
    let x = get_or row c.loop-state.state-index 0 in
    let touched = c.loop-state.touched.items in
    let touched' = c.mark_listed.new.touched.items in
    let x_in : x < length p.class.items = c.requires.row x (Contains-get_or row c.loop-state.state-index 0 c.loop-state-test.true) in
    let size = ap length was.keeps.class in
    let only : (d : ℕ) → Contains touched' d → Contains touched d ⊎ (d ≡ get_or p.class.items x 0) =
    subst (λ (xs : List ℕ). (d : ℕ) → Contains touched' d → Contains touched d ⊎ (d ≡ get_or xs x 0)) was.keeps.class made.lists.only in
    let listed : Contains touched' (get_or p.class.items x 0) ⊎ ((r : ℕ) × (r < length p.class.items) × (get_or p.class.items r 0 ≡ get_or p.class.items x 0) × IsMarked mid r) =
    subst (λ (xs : List ℕ). Contains touched' (get_or xs x 0) ⊎ ((r : ℕ) × (r < length xs) × (get_or xs r 0 ≡ get_or xs x 0) × IsMarked mid r)) was.keeps.class made.lists.listed in
    record {
      partition = made.partition;
      keeps = record { class = made.marks.keeps.class ∙ was.keeps.class; starts = made.marks.keeps.starts ∙ was.keeps.starts };
      marked = marked-more was.marked touched' (IsMarked c.mark_listed.new.self) x_in (c.requires.partition.layout.class_in x x_in) made.marks.marked
          (λ r r_in ne. made.marks.others r (omega arith) ne) made.lists.kept only listed;
    }

pub returns-clause-marks : goal.returns-clause-marks
returns-clause-marks c =
    let was = c.loop-state.invariant in
    let row = c.args.row.now in
    let i = c.loop-state.state-index in
    let all : i ≡ length row = search rules in
    record {
      keeps = was.keeps;
      marked = λ q q_in.
          let before = before-all row i q all in
          let marked = was.marked.marked q q_in in
          (λ is. before.0 (marked.0 is), λ at. marked.1 (before.1 at));
      within = was.marked.within;
      listed = was.marked.listed;
    }
