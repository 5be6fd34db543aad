use Rattle.std.proofs.Common.{◌≡◌, ◌≢◌, ◌≤◌, ℕ, List, sym, subst}
use Rattle.std.specs.Global.{Vec}
use Rattle.pt_base.specs.Elements.{ContainsByRecursion}
use Rattle.pt_formula.specs.Costs.{IsReached}
use Rattle.pt_handles.specs.declared.handle.Handle.{Handle}
use Rattle.pt_eval.specs.declared.fault.EvalFault.{EvalFault}
use Rattle.pt_eval.specs.Evaluating.{RefusesRoots}
use Rattle.pt_eval.specs.Levels.{AreClosed, IsPlan, IsPlanned}
use Rattle.pt_eval.specs.Outcomes.{IsSettled, outcome_in, known, costly}
use Rattle.pt_eval.proofs.ReachLaws.{root-reached, reached-closed}
use Rattle.pt_eval.proofs.LevelLaws.{plan-ordered, planned-reached, reached-planned}
use Rattle.pt_eval.proofs.RunLaws.{where-moved, roots-refuse, refused-at, evaluated-at, none-refused, few-residuals, knows-reached, have-solutions, all-roots}
use Rattle.pt_eval.proofs.evaluation.evaluate.Goals as goal

pub level_rows-requires : goal.level_rows-requires
level_rows-requires g c = subst (λ (ns : List ℕ). AreClosed c.args.formula.now ns) (sym c.deref.ensures.value) (reached-closed c.args.formula.now c.args.roots.now c.in_ok-nodes.nodes.items c.in_ok-nodes.ensures)

pub evaluate_rows-requires-clause-ordered : goal.evaluate_rows-requires-clause-ordered
evaluate_rows-requires-clause-ordered g c κs within =
    let f = c.args.formula.now in
    let nodes = c.in_ok-nodes.nodes.items in
    let plan : IsPlan c.args.formula.now c.in_ok-nodes.nodes.items c.deref-2.result.now =
    subst (λ (rows : List (Vec ℕ)). IsPlan c.args.formula.now c.in_ok-nodes.nodes.items rows) (sym c.deref-2.ensures.value) (subst (λ (ns : List ℕ). IsPlan c.args.formula.now ns c.in_ok-rows.rows.items) c.deref.ensures.value c.in_ok-rows.ensures) in
    plan-ordered f c.is_formula.ensures nodes c.deref-2.result.now (reached-closed f c.args.roots.now nodes c.in_ok-nodes.ensures) plan

pub returns-in-Err-clause-err : goal.returns-in-Err-clause-err
returns-in-Err-clause-err g c =
    let f = c.args.formula.now in
    let nodes = c.in_ok-nodes.nodes.items in
    let plan : IsPlan c.args.formula.now c.in_ok-nodes.nodes.items c.deref-2.result.now =
    subst (λ (rows : List (Vec ℕ)). IsPlan c.args.formula.now c.in_ok-nodes.nodes.items rows) (sym c.deref-2.ensures.value) (subst (λ (ns : List ℕ). IsPlan c.args.formula.now ns c.in_ok-rows.rows.items) c.deref.ensures.value c.in_ok-rows.ensures) in
    let roots = c.args.roots.now in
    let home = g.I.Pass.Codes.home in
    let limit = g.I.Interner.limit_of c.args.store.now in
    let new = g.I.Pass.Codes.lists c.evaluate_rows.new.pass in
    let fault = c.in-Err.fault in
    subst (λ (e : EvalFault). RefusesRoots c.args.formula.now c.args.roots.now c.args.bound g.I.Pass.Codes.home (g.I.Interner.limit_of c.args.store.now) (g.I.Pass.Codes.lists c.evaluate_rows.new.pass) e) (sym c.from.ensures)
    (roots-refuse f roots c.args.bound home limit new fault
    (where-moved (λ (i : ℕ). IsPlanned c.deref-2.result.now i) (λ (i : ℕ). IsReached c.args.formula.now c.args.roots.now i) (planned-reached f roots nodes c.deref-2.result.now c.in_ok-nodes.ensures plan) f c.args.bound home limit new fault c.in-Err.ensures.err))

pub returns-in-Some-clause-err : goal.returns-in-Some-clause-err
returns-in-Some-clause-err g c =
    let f = c.args.formula.now in
    let nodes = c.in_ok-nodes.nodes.items in
    let plan : IsPlan c.args.formula.now c.in_ok-nodes.nodes.items c.deref-2.result.now =
    subst (λ (rows : List (Vec ℕ)). IsPlan c.args.formula.now c.in_ok-nodes.nodes.items rows) (sym c.deref-2.ensures.value) (subst (λ (ns : List ℕ). IsPlan c.args.formula.now ns c.in_ok-rows.rows.items) c.deref.ensures.value c.in_ok-rows.ensures) in
    let roots = c.args.roots.now in
    let home = g.I.Pass.Codes.home in
    let new = g.I.Pass.Codes.lists c.evaluate_rows.new.pass in
    let os = outcome_in c.in-Ok.outcomes in
    let are = c.in-Ok.ensures.outcomes in
    let settled : (i : ℕ) → IsReached c.args.formula.now c.args.roots.now i → IsSettled (outcome_in c.in-Ok.outcomes i) = λ i reached. (c.in-Ok.ensures.settled i).1 (reached-planned f roots nodes c.deref-2.result.now c.in_ok-nodes.ensures plan i reached) in
    let among = subst (λ (ns : List ℕ). ContainsByRecursion c.in-Some.node ns) c.deref-3.ensures.value c.in-Some.ensures.among in
    let first : (j : ℕ) → IsReached c.args.formula.now c.args.roots.now j → outcome_in c.in-Ok.outcomes j ≡ costly → c.in-Some.node ≤ j = λ j reached is. c.in-Some.ensures.first j (subst (λ (ns : List ℕ). ContainsByRecursion j ns) (sym c.deref-3.ensures.value) ((c.in_ok-nodes.ensures.each j).1 reached)) is in
    refused-at home new f roots c.args.bound os are settled c.in-Some.node c.in-Some.ensures.some first ((c.in_ok-nodes.ensures.each c.in-Some.node).0 among)

pub returns-in-Some-clause-node : goal.returns-in-Some-clause-node
returns-in-Some-clause-node g c = c.in_ok-nodes.ensures.within c.in-Some.node (subst (λ (ns : List ℕ). ContainsByRecursion c.in-Some.node ns) c.deref-3.ensures.value c.in-Some.ensures.among)

pub handles_of-requires : goal.handles_of-requires
handles_of-requires g c =
    let f = c.args.formula.now in
    let nodes = c.in_ok-nodes.nodes.items in
    let plan : IsPlan c.args.formula.now c.in_ok-nodes.nodes.items c.deref-2.result.now =
    subst (λ (rows : List (Vec ℕ)). IsPlan c.args.formula.now c.in_ok-nodes.nodes.items rows) (sym c.deref-2.ensures.value) (subst (λ (ns : List ℕ). IsPlan c.args.formula.now ns c.in_ok-rows.rows.items) c.deref.ensures.value c.in_ok-rows.ensures) in
    let roots = c.args.roots.now in
    let home = g.I.Pass.Codes.home in
    let new = g.I.Pass.Codes.lists c.evaluate_rows.new.pass in
    let os = outcome_in c.in-Ok.outcomes in
    let are = c.in-Ok.ensures.outcomes in
    let settled : (i : ℕ) → IsReached c.args.formula.now c.args.roots.now i → IsSettled (outcome_in c.in-Ok.outcomes i) = λ i reached. (c.in-Ok.ensures.settled i).1 (reached-planned f roots nodes c.deref-2.result.now c.in_ok-nodes.ensures plan i reached) in
    let none : (j : ℕ) → IsReached c.args.formula.now c.args.roots.now j → outcome_in c.in-Ok.outcomes j ≢ costly = λ j reached. c.in_default.ensures.none j (subst (λ (ns : List ℕ). ContainsByRecursion j ns) (sym c.deref-3.ensures.value) ((c.in_ok-nodes.ensures.each j).1 reached)) in
    all-roots (λ (root : ℕ). (h : Handle) × (outcome_in c.in-Ok.outcomes root ≡ known h)) roots (λ r found. (let (h, is, at) = evaluated-at home new f roots c.args.bound os are settled none r (root-reached f roots r found) in (h, is)))

pub returns-clause-ok : goal.returns-clause-ok
returns-clause-ok g c =
    let f = c.args.formula.now in
    let nodes = c.in_ok-nodes.nodes.items in
    let plan : IsPlan c.args.formula.now c.in_ok-nodes.nodes.items c.deref-2.result.now =
    subst (λ (rows : List (Vec ℕ)). IsPlan c.args.formula.now c.in_ok-nodes.nodes.items rows) (sym c.deref-2.ensures.value) (subst (λ (ns : List ℕ). IsPlan c.args.formula.now ns c.in_ok-rows.rows.items) c.deref.ensures.value c.in_ok-rows.ensures) in
    let roots = c.args.roots.now in
    let home = g.I.Pass.Codes.home in
    let new = g.I.Pass.Codes.lists c.evaluate_rows.new.pass in
    let os = outcome_in c.in-Ok.outcomes in
    let are = c.in-Ok.ensures.outcomes in
    let settled : (i : ℕ) → IsReached c.args.formula.now c.args.roots.now i → IsSettled (outcome_in c.in-Ok.outcomes i) = λ i reached. (c.in-Ok.ensures.settled i).1 (reached-planned f roots nodes c.deref-2.result.now c.in_ok-nodes.ensures plan i reached) in
    let none : (j : ℕ) → IsReached c.args.formula.now c.args.roots.now j → outcome_in c.in-Ok.outcomes j ≢ costly = λ j reached. c.in_default.ensures.none j (subst (λ (ns : List ℕ). ContainsByRecursion j ns) (sym c.deref-3.ensures.value) ((c.in_ok-nodes.ensures.each j).1 reached)) in
    have-solutions home new f roots c.args.bound os are settled none c.in_ok-handles.handles.items c.in_ok-handles.ensures.count c.in_ok-handles.ensures.each

pub returns-clause-reached : goal.returns-clause-reached
returns-clause-reached g c =
    let f = c.args.formula.now in
    let nodes = c.in_ok-nodes.nodes.items in
    let plan : IsPlan c.args.formula.now c.in_ok-nodes.nodes.items c.deref-2.result.now =
    subst (λ (rows : List (Vec ℕ)). IsPlan c.args.formula.now c.in_ok-nodes.nodes.items rows) (sym c.deref-2.ensures.value) (subst (λ (ns : List ℕ). IsPlan c.args.formula.now ns c.in_ok-rows.rows.items) c.deref.ensures.value c.in_ok-rows.ensures) in
    let roots = c.args.roots.now in
    let home = g.I.Pass.Codes.home in
    let new = g.I.Pass.Codes.lists c.evaluate_rows.new.pass in
    let os = outcome_in c.in-Ok.outcomes in
    let are = c.in-Ok.ensures.outcomes in
    let settled : (i : ℕ) → IsReached c.args.formula.now c.args.roots.now i → IsSettled (outcome_in c.in-Ok.outcomes i) = λ i reached. (c.in-Ok.ensures.settled i).1 (reached-planned f roots nodes c.deref-2.result.now c.in_ok-nodes.ensures plan i reached) in
    let none : (j : ℕ) → IsReached c.args.formula.now c.args.roots.now j → outcome_in c.in-Ok.outcomes j ≢ costly = λ j reached. c.in_default.ensures.none j (subst (λ (ns : List ℕ). ContainsByRecursion j ns) (sym c.deref-3.ensures.value) ((c.in_ok-nodes.ensures.each j).1 reached)) in
    knows-reached home new f roots c.args.bound os are settled none

pub returns-clause-within : goal.returns-clause-within
returns-clause-within g c =
    let f = c.args.formula.now in
    let nodes = c.in_ok-nodes.nodes.items in
    let plan : IsPlan c.args.formula.now c.in_ok-nodes.nodes.items c.deref-2.result.now =
    subst (λ (rows : List (Vec ℕ)). IsPlan c.args.formula.now c.in_ok-nodes.nodes.items rows) (sym c.deref-2.ensures.value) (subst (λ (ns : List ℕ). IsPlan c.args.formula.now ns c.in_ok-rows.rows.items) c.deref.ensures.value c.in_ok-rows.ensures) in
    let roots = c.args.roots.now in
    let home = g.I.Pass.Codes.home in
    let new = g.I.Pass.Codes.lists c.evaluate_rows.new.pass in
    let os = outcome_in c.in-Ok.outcomes in
    let are = c.in-Ok.ensures.outcomes in
    let settled : (i : ℕ) → IsReached c.args.formula.now c.args.roots.now i → IsSettled (outcome_in c.in-Ok.outcomes i) = λ i reached. (c.in-Ok.ensures.settled i).1 (reached-planned f roots nodes c.deref-2.result.now c.in_ok-nodes.ensures plan i reached) in
    let none : (j : ℕ) → IsReached c.args.formula.now c.args.roots.now j → outcome_in c.in-Ok.outcomes j ≢ costly = λ j reached. c.in_default.ensures.none j (subst (λ (ns : List ℕ). ContainsByRecursion j ns) (sym c.deref-3.ensures.value) ((c.in_ok-nodes.ensures.each j).1 reached)) in
    none-refused home new f roots c.args.bound os are settled none

pub returns-clause-residuals : goal.returns-clause-residuals
returns-clause-residuals g c =
    let f = c.args.formula.now in
    let nodes = c.in_ok-nodes.nodes.items in
    let plan : IsPlan c.args.formula.now c.in_ok-nodes.nodes.items c.deref-2.result.now =
    subst (λ (rows : List (Vec ℕ)). IsPlan c.args.formula.now c.in_ok-nodes.nodes.items rows) (sym c.deref-2.ensures.value) (subst (λ (ns : List ℕ). IsPlan c.args.formula.now ns c.in_ok-rows.rows.items) c.deref.ensures.value c.in_ok-rows.ensures) in
    let roots = c.args.roots.now in
    let home = g.I.Pass.Codes.home in
    let new = g.I.Pass.Codes.lists c.evaluate_rows.new.pass in
    let os = outcome_in c.in-Ok.outcomes in
    let are = c.in-Ok.ensures.outcomes in
    let settled : (i : ℕ) → IsReached c.args.formula.now c.args.roots.now i → IsSettled (outcome_in c.in-Ok.outcomes i) = λ i reached. (c.in-Ok.ensures.settled i).1 (reached-planned f roots nodes c.deref-2.result.now c.in_ok-nodes.ensures plan i reached) in
    let none : (j : ℕ) → IsReached c.args.formula.now c.args.roots.now j → outcome_in c.in-Ok.outcomes j ≢ costly = λ j reached. c.in_default.ensures.none j (subst (λ (ns : List ℕ). ContainsByRecursion j ns) (sym c.deref-3.ensures.value) ((c.in_ok-nodes.ensures.each j).1 reached)) in
    few-residuals home new f roots c.args.bound os are settled none
