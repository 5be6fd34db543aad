-- One command of a run: what was read, what stands after it.
use Rattle.std.proofs.Common.{◌≡◌, ℕ, suc, ◌<◌, ◌^◌, arith, List, refl, inl, inr, ap, sym, subst, ◌∙◌}
use Rattle.std.specs.Prelude.{Option, Some, None}
use Rattle.pt_syntax.specs.declared.kinds.ReadRefusal.{ReadRefusal}
use Rattle.pt_syntax.specs.Lists.{Script, Done, Stops, Command as Reads_list}
use Rattle.pt_syntax.specs.Rest.{lists_left}
use Rattle.pt_read.specs.declared.command.Command.{Command}
use Rattle.pt_read.specs.declared.command.CommandKind.{CommandKind}
use Rattle.pt_read.specs.declared.command.CommandKind.TheVariants as kind
use Rattle.pt_read.specs.Reader.{MayRefuse, IsRefusedWith, IsNext, left, unless_refused}
use Rattle.pt_read.specs.Rest.{Rest}
use Rattle.pt_read.specs.Scope.{State, after}
use Rattle.pt_script.specs.declared.fault.SessionFault.{SessionFault}
use Rattle.pt_script.specs.declared.fault.SessionFault.TheVariants as fault
use Rattle.pt_script.specs.State.{Standing}
use Rattle.pt_script.specs.Step.{IsAnswered, MayFail, StepFails}
use Rattle.pt_main.specs.Parts.{HasLine, HasReadLine}

-- nothing was left where no command is next
pub at_end : (script left : Script) (s new : State) → IsNext None script s left new → script ≡ Done
at_end Done left s new h = refl
at_end (Stops e) left s new h = absurd h
at_end (Reads_list p items rest) left s new h = absurd h

-- a refusal that has a line is the one of what is left
pub may_refuse : (r : Rest) (s : State) (e : ReadRefusal) → HasReadLine e.kind → MayRefuse r.refused (left r) s e → IsRefusedWith (left r) s e
may_refuse r s e line h = by_refused r.refused refl h
  where
    by_refused : (o : Option ReadRefusal) → r.refused ≡ o → MayRefuse o (left r) s e → IsRefusedWith (left r) s e
    by_refused None is h = elim h [ inl x ↦ x | inr m ↦ absurd (subst (λ (f : ReadRefusal). HasReadLine f.kind) m line) ]
    by_refused (Some f) is h = subst (λ (o : Option ReadRefusal). IsRefusedWith (unless_refused o (lists_left r.lists)) s e) (sym is) h

-- a fault that has a line is one of the command's own
pub may_fail : (s : Standing) (c : Command) (bound : ℕ) (f : SessionFault) → HasLine f → s.fault ≡ None → MayFail s.fault s c bound f → StepFails s c bound f
may_fail s c bound f line going h = at_none f line (subst (λ (o : Option SessionFault). MayFail o s c bound f) going h)
  where
    at_none : (f : SessionFault) → HasLine f → MayFail None s c bound f → StepFails s c bound f
    at_none fault.NoMemory line h = absurd line
    at_none (fault.Full shard count) line h = absurd line
    at_none (fault.States p) line h = h
    at_none (fault.NoModel p) line h = h
    at_none (fault.WideValue p letters) line h = h
    at_none (fault.PopTooFar p) line h = h

-- an answered command leaves no fault
pub keeps_fault : (s new : Standing) (k : CommandKind) (reply : List ℕ) → IsAnswered s k reply new → new.fault ≡ s.fault
keeps_fault s new kind.CheckSat reply h = elim h [ inl x ↦ ap (λ (t : Standing). t.fault) x.3 | inr y ↦ ap (λ (t : Standing). t.fault) y.2 ]
keeps_fault s new _ reply h = ap (λ (t : Standing). t.fault) h.1

-- a command that is answered adds no nodes
after_keeps_nodes : (k : CommandKind) (s : State) → (after k s).formula ≡ s.formula
after_keeps_nodes (kind.Declare name v t) s = refl
after_keeps_nodes (kind.Define d) s = refl
after_keeps_nodes (kind.Assert t c) s = refl
after_keeps_nodes (kind.Push n) s = refl
after_keeps_nodes (kind.Pop n) s = refl
after_keeps_nodes kind.Reset s = refl
after_keeps_nodes _ s = refl

pub keeps_nodes : (s new : Standing) (k : CommandKind) (reply : List ℕ) → IsAnswered s k reply new → new.scope.formula ≡ s.scope.formula
keeps_nodes s new kind.CheckSat reply h = elim h [ inl x ↦ ap (λ (t : Standing). t.scope.formula) x.3 | inr y ↦ ap (λ (t : Standing). t.scope.formula) y.2 ]
keeps_nodes s new k reply h = ap (λ (t : Standing). t.scope.formula) h.1 ∙ after_keeps_nodes k s.scope

-- reading pushes no level
pub depth_kept : (c : Command) (script left : Script) (s new : State) → IsNext (Some c) script s left new → new.depth ≡ s.depth
depth_kept c Done left s new h = absurd h
depth_kept c (Stops e) left s new h = absurd h
depth_kept c (Reads_list p items rest) left s new h = ap (λ (t : State). t.depth) h.3

-- how many commands are left
abbrev pub commands_in : Script → ℕ
commands_in Done = 0
commands_in (Stops e) = 0
commands_in (Reads_list p items rest) = suc (commands_in rest)

pub one_less : (c : Command) (script left : Script) (s new : State) → IsNext (Some c) script s left new → commands_in left < commands_in script
one_less c Done left s new next = absurd next
one_less c (Stops e) left s new next = absurd next
one_less c (Reads_list p items rest) left s new next = omega (arith, ap commands_in next.2)
