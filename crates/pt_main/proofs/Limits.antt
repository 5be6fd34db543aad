-- A run gives out few variable numbers, and pushes few levels.
use Rattle.std.proofs.Common.{◌≡◌, inl, inr, ℕ, ◌+◌, ◌*◌, ◌<◌, ◌≤◌, ◌^◌, List, length, arith, ap, subst, sym}
use Rattle.std.specs.Prelude.{Some}
use Rattle.pt_syntax.specs.Lists.{Script, script}
use Rattle.pt_read.specs.declared.command.Command.{Command}
use Rattle.pt_read.specs.declared.command.CommandKind.{CommandKind}
use Rattle.pt_read.specs.declared.command.CommandKind.TheVariants as kind
use Rattle.pt_read.specs.Scope.{State, after}
use Rattle.pt_read.specs.Reader.{IsNext, left}
use Rattle.pt_read.specs.Rest.{Rest, at_start}
use Rattle.pt_read.specs.Numbers.{numbers_in}
use Rattle.pt_script.specs.State.{Standing, initial}
use Rattle.pt_script.specs.Step.{Step, IsAnswered, in_scope}
use Rattle.pt_main.proofs.Stepping.{depth_kept}

-- what the commands that are left may still add stays within the bytes of a text
pub record IsLow (s : State) (commands : Script) : Type 0 where
  pub given : length s.given + numbers_in commands ≤ 4194304
  pub depth : s.depth + 2 ^ 63 * numbers_in commands ≤ 2 ^ 63 * 4194304

begins_low : ((text : List ℕ) → numbers_in (script text) ≤ length text) → (text : List ℕ) → length text ≤ 4194304 → IsLow initial.scope (script text)
begins_low few text size = record { given = omega (arith, few text, size); depth = omega (arith, few text, size) }

pub low_first : ((text : List ℕ) → numbers_in (script text) ≤ length text) → (text : List ℕ) (s : Standing) (r : Rest) → s ≡ initial → r ≡ at_start text → length text ≤ 4194304 → IsLow s.scope (left r)
low_first few text s r first reader size =
    subst (λ (t : Standing). IsLow t.scope (left r)) (sym first) (subst (λ (q : Rest). IsLow initial.scope (left q)) (sym reader) (begins_low few text size))

-- the scope after a command that was answered
answered_scope : (s new : Standing) (k : CommandKind) (reply : List ℕ) → IsAnswered s k reply new → new.scope ≡ after k s.scope
answered_scope s new kind.CheckSat reply h = elim h [ inl x ↦ ap (λ (t : Standing). t.scope) x.3 | inr y ↦ ap (λ (t : Standing). t.scope) y.2 ]
answered_scope s new k reply h = ap (λ (t : Standing). t.scope) h.1

pub low_next : ((c : Command) (old rest : Script) (s t : State) → IsNext (Some c) old s rest t → length (after c.kind t).given + numbers_in rest < length s.given + numbers_in old)
    → ((c : Command) (old rest : Script) (s t : State) → IsNext (Some c) old s rest t → numbers_in rest < numbers_in old)
    → ((c : Command) (old rest : Script) (s t : State) → IsNext (Some c) old s rest t → (after c.kind t).depth < s.depth + 2 ^ 63)
    → (c : Command) (commands rest : Script) (s new : Standing) (scope : State) (bound : ℕ) (reply : List ℕ) → IsLow s.scope commands → IsNext (Some c) commands s.scope rest scope → Step (in_scope scope s) c bound reply new → IsLow new.scope rest
low_next given fewer levels c commands rest s new scope bound reply low next step =
    let is : new.scope ≡ after c.kind scope = answered_scope (in_scope scope s) new c.kind reply step.answer in
    record {
      given = omega (arith, given c commands rest s.scope scope next, ap (λ (t : State). length t.given) is, low.given);
      depth = omega (arith, levels c commands rest s.scope scope next, fewer c commands rest s.scope scope next, ap (λ (t : State). t.depth) is, low.depth);
    }

pub few_numbers : (s : State) (commands : Script) → IsLow s commands → length s.given ≤ 2 ^ 31
few_numbers s commands low = omega (arith, low.given)

pub few_levels : (c : Command) (commands rest : Script) (s scope : State) → IsNext (Some c) commands s rest scope → IsLow s commands → scope.depth < 2 ^ 127
few_levels c commands rest s scope next low = omega (arith, depth_kept c commands rest s scope next, low.depth)
