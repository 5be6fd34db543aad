use Rattle.std.proofs.Common.{rules, arith, true, eqb, eq-eqb, ◌≡◌, ℕ, ◌+◌, ◌<◌, ◌≤◌, List, length, get_or, refl, ap, sym, ◌∙◌}
use Rattle.std.proofs.lemmas.List.{get_or_default, length-set}
use Rattle.pt_refine.proofs.Marking.{layout-mark, mark-here, mark-others, mark-first}
use Rattle.pt_refine.proofs.partition.Partition.mark.Goals as goal

-- what was read, at the default 0
read-is : (xs : List ℕ) (i x : ℕ) → i < length xs → x ≡ get_or xs i x → get_or xs i 0 ≡ x
read-is xs i x lt is = get_or_default xs i 0 x lt ∙ sym is

pub returns-clause-partition : goal.returns-clause-partition
returns-clause-partition c =
    let p = c.args.self.now in
    let old = c.requires.partition in
    let lay = old.layout in
    let q_in = c.requires.state in
    let place_in : c.args.state < length p.place.items = omega (arith, old.place_len) in
    let class_is = read-is p.class.items c.args.state c.index.result.now q_in c.index.ensures in
    let class_in : c.index.result.now < length p.marked.items = let lt = lay.class_in c.args.state q_in in omega (arith, old.marked_len) in
    let front_is = read-is p.marked.items c.index.result.now c.index-front.result.now class_in c.index-front.ensures in
    let at_is = read-is p.place.items c.args.state c.index-at.result.now place_in c.index-at.ensures in
    let front_in : c.index-front.result.now < length p.order.items = search rules in
    let other_is = read-is p.order.items c.index-front.result.now c.index-other.result.now front_in c.index-other.ensures in
    record {
      few = old.few;
      order_len = search (rules, length-set);
      place_len = search (rules, length-set);
      ends_len = old.ends_len;
      marked_len = search (rules, length-set);
      layout = layout-mark (length p.class.items) (length p.starts.items) p.order.items p.place.items p.class.items p.starts.items p.ends.items p.marked.items lay old.order_len old.place_len old.marked_len c.args.state c.index.result.now c.index-front.result.now c.index-at.result.now c.index-other.result.now q_in class_is front_is at_is other_is c.if-at-front.false;
    }

pub returns-clause-marks : goal.returns-clause-marks
returns-clause-marks c =
    let p = c.args.self.now in
    let old = c.requires.partition in
    let lay = old.layout in
    let q_in = c.requires.state in
    let place_in : c.args.state < length p.place.items = omega (arith, old.place_len) in
    let class_is = read-is p.class.items c.args.state c.index.result.now q_in c.index.ensures in
    let class_in : c.index.result.now < length p.marked.items = let lt = lay.class_in c.args.state q_in in omega (arith, old.marked_len) in
    let front_is = read-is p.marked.items c.index.result.now c.index-front.result.now class_in c.index-front.ensures in
    let at_is = read-is p.place.items c.args.state c.index-at.result.now place_in c.index-at.ensures in
    let front_in : c.index-front.result.now < length p.order.items = search rules in
    let other_is = read-is p.order.items c.index-front.result.now c.index-other.result.now front_in c.index-other.ensures in
    record {
      keeps = record { class = refl; starts = refl };
      marked = mark-here (length p.class.items) (length p.starts.items) p.order.items p.place.items p.class.items p.starts.items p.ends.items p.marked.items lay old.order_len old.place_len old.marked_len c.args.state c.index.result.now c.index-front.result.now c.index-at.result.now c.index-other.result.now q_in class_is front_is at_is other_is c.if-at-front.false;
      others = λ r r_in ne. mark-others (length p.class.items) (length p.starts.items) p.order.items p.place.items p.class.items p.starts.items p.ends.items p.marked.items lay old.order_len old.place_len old.marked_len c.args.state c.index.result.now c.index-front.result.now c.index-at.result.now c.index-other.result.now q_in class_is front_is at_is other_is c.if-at-front.false r r_in ne;
    }

pub returns-clause-first : goal.returns-clause-first
returns-clause-first c is =
    let p = c.args.self.now in
    let old = c.requires.partition in
    let lay = old.layout in
    let q_in = c.requires.state in
    let place_in : c.args.state < length p.place.items = omega (arith, old.place_len) in
    let class_is = read-is p.class.items c.args.state c.index.result.now q_in c.index.ensures in
    let class_in : c.index.result.now < length p.marked.items = let lt = lay.class_in c.args.state q_in in omega (arith, old.marked_len) in
    let front_is = read-is p.marked.items c.index.result.now c.index-front.result.now class_in c.index-front.ensures in
    let at_is = read-is p.place.items c.args.state c.index-at.result.now place_in c.index-at.ensures in
    let front_in : c.index-front.result.now < length p.order.items = search rules in
    let other_is = read-is p.order.items c.index-front.result.now c.index-other.result.now front_in c.index-other.ensures in
    mark-first (length p.class.items) (length p.starts.items) p.order.items p.place.items p.class.items p.starts.items p.ends.items p.marked.items lay old.order_len old.place_len old.marked_len c.args.state c.index.result.now c.index-front.result.now c.index-at.result.now c.index-other.result.now q_in class_is front_is at_is other_is c.if-at-front.false
    (λ e.
    let start_in : c.index.result.now < length p.starts.items = omega (arith, old.marked_len) in
    let start_is = read-is p.starts.items c.index.result.now c.index-2.result.now start_in c.index-2.ensures in
    let same : eqb c.index-front.result.now c.index-2.result.now ≡ true = eq-eqb c.index-front.result.now c.index-2.result.now (sym e ∙ start_is) in
    let none : ⊥ = cc (same, is) in
    none)
