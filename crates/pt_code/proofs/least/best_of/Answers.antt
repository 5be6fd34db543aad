use Rattle.std.proofs.Common.{◌≡◌, ◌≤◌, ℕ, subst, arith}
use Rattle.pt_code.specs.Component.{component}
use Rattle.pt_code.specs.Parts.{Leads}
use Rattle.pt_code.proofs.Bestness.{places-all}
use Rattle.pt_code.proofs.Leading.{leads-first}
use Rattle.pt_code.proofs.least.best_of.Goals as goal

pub loop-entry-init : goal.loop-entry-init
loop-entry-init c = record {
  leads = leads-first (component c.args.piece.now) _ c.set_best-best.ensures.entry;
  best = c.set_best-best.ensures.best;
  own_room = c.in_ok-order.ensures.room;
  room = c.in_ok-side.ensures.room;
  other_room = c.in_ok-other.ensures.room;
}

pub returns-clause-leads : goal.returns-clause-leads
returns-clause-leads c =
    let past : c.args.piece.now.states ≤ c.loop-entry.entry = c.loop-entry-test.false in
    let end : c.loop-entry.entry ≤ c.args.piece.now.states = c.loop-entry.auto.entry-end c.requires.component.some_state in
    let all : c.loop-entry.entry ≡ c.args.piece.now.states = omega (arith, past, end) in
    subst (λ (n : ℕ). Leads (component c.args.piece.now) n c.loop-entry.best.entry) all c.loop-entry.invariant.leads

pub returns-clause-places : goal.returns-clause-places
returns-clause-places c =
    let best = c.loop-entry.invariant.best in
    places-all (component c.args.piece.now) c.requires.component c.requires.connected c.loop-entry.best.entry best.within c.loop-entry.best.order.states.items c.loop-entry.best.order.places.items best.states best.numbered best.room
