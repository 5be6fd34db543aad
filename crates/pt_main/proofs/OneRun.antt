-- A text has one run under a bound, and so one output.
use Rattle.std.proofs.Common.{◌≡◌, ◌⊎◌, inl, inr, ℕ, ◌<◌, ◌≤◌, Bool, true, false, List, [], ◌∷◌, ◌++◌, length, refl, ap, sym, subst, ◌∙◌, arith}
use Rattle.std.specs.Prelude.{Some, Result, Ok, Err}
use Rattle.std.proofs.lemmas.Bool.{cases_lt}
use Rattle.pt_eval.specs.Laws.{RefusalsHaveACause}
use Rattle.pt_syntax.specs.declared.kinds.ReadRefusal.{ReadRefusal}
use Rattle.pt_syntax.specs.Lists.{Script, Done, Stops, Command as Reads_list}
use Rattle.pt_read.specs.declared.command.Command.{Command}
use Rattle.pt_terms.specs.Elaboration.{Work}
use Rattle.pt_read.specs.Scope.{State}
use Rattle.pt_read.specs.Commands.{elaborate}
use Rattle.pt_read.specs.Reader.{IsNext, IsRefusedWith, with_work}
use Rattle.pt_script.specs.declared.fault.SessionFault.{SessionFault}
use Rattle.pt_script.specs.State.{Standing}
use Rattle.pt_script.specs.Step.{Step, StepFails, in_scope}
use Rattle.pt_script.specs.Texts.{refusal_line, fault_line, too_long}
use Rattle.pt_main.specs.Runs.{Turn, GoesOn, HasExited, HasRun}
use Rattle.pt_main.specs.Output.{Ends, IsOutput, replies}
use Rattle.pt_main.proofs.OneStep.{one_step, one_fault, answered_not_refused}

-- ---- commands are read in one way

abbrev Reading : Type 0
Reading = Result (Command × Work) ReadRefusal

one_command : (c d : Command) (v w : Work) → ◌≡◌ {A = Reading} (Ok (c, v)) (Ok (d, w)) → (c ≡ d) × (v ≡ w)
one_command c d v w e =
    let pair : ◌≡◌ {A = Command × Work} (c, v) (d, w) = cc in
    (ap (λ (q : Command × Work). q.0) pair, ap (λ (q : Command × Work). q.1) pair)

pub one_next : (c d : Command) (commands l m : Script) (s new now : State) → IsNext (Some c) commands s l new → IsNext (Some d) commands s m now → (c ≡ d) × (l ≡ m) × (new ≡ now)
one_next c d Done l m s new now first second = absurd first
one_next c d (Stops e) l m s new now first second = absurd first
one_next c d (Reads_list p items rest) l m s new now (v, reads, left, is) (w, reads', left', is') =
    let (command, work) = one_command c d v w (sym reads ∙ reads') in
    (command, left ∙ sym left', is ∙ ap (λ (u : Work). with_work u s) work ∙ sym is')

-- ---- runs of one length are equal

-- one more command, after which this stands and these are left
abbrev OneMore : ℕ → Turn → Standing → Script → Standing → Script → Type 0
OneMore bound turn before commands s left =
    IsNext (Some turn.command) commands before.scope left turn.scope × Step (in_scope turn.scope before) turn.command bound turn.reply s

one_more : (bound : ℕ) (x y : Turn) (before s t : Standing) (commands l m : Script) → OneMore bound x before commands s l → OneMore bound y before commands t m → (x ≡ y) × (s ≡ t) × (l ≡ m)
one_more bound x y before s t commands l m (next, step) (next', step') =
    let (command, left, scope) = one_next x.command y.command commands l m before.scope x.scope y.scope next next' in
    let there : Step (in_scope y.scope before) y.command bound x.reply s =
    subst (λ (c : Command). Step (in_scope y.scope before) c bound x.reply s) command
    (subst (λ (scope : State). Step (in_scope scope before) x.command bound x.reply s) scope step) in
    let (reply, stands) = one_step (in_scope y.scope before) y.command bound x.reply y.reply s t there step' in
    let turns : x ≡ y =
    ap (λ (c : Command). record { command = c; scope = x.scope; reply = x.reply }) command
    ∙ ap (λ (scope : State). record { command = y.command; scope = scope; reply = x.reply }) scope
    ∙ ap (λ (bytes : List ℕ). record { command = y.command; scope = y.scope; reply = bytes }) reply in
    (turns, stands, left)

one_more_at : (bound : ℕ) (x : Turn) (a b s : Standing) (commands lists l : Script) → a ≡ b → commands ≡ lists → OneMore bound x a commands s l → OneMore bound x b lists s l
one_more_at bound x a b s commands lists l stands same more =
    subst (λ (u : Standing). OneMore bound x u lists s l) stands (subst (λ (c : Script). OneMore bound x a c s l) same more)

module _ (text : List ℕ) (bound : ℕ) where
  pub one_run : (xs ys : List Turn) (s t : Standing) (l m : Script) → length xs ≡ length ys → HasRun text bound xs s l → HasRun text bound ys t m → (xs ≡ ys) × (s ≡ t) × (l ≡ m)
  one_run [] [] s t l m long (size, first, script) (size', first', script') = (refl, first ∙ sym first', script ∙ sym script')
  one_run [] (y ∷ ys) s t l m long run run' = absurd (omega arith)
  one_run (x ∷ xs) [] s t l m long run run' = absurd (omega arith)
  one_run (x ∷ xs) (y ∷ ys) s t l m long (a, commands, run, going, next, step) (b, lists, run', going', next', step') =
      let (turns, stands, same) = one_run xs ys a b commands lists (omega arith) run run' in
      let (turn, after, left) = one_more bound x y b s t lists l m (one_more_at bound x a b s commands lists l stands same (next, step)) (next', step') in
      (ap (λ (u : Turn). u ∷ xs) turn ∙ ap (λ (us : List Turn). y ∷ us) turns, after, left)

  -- a text that has a run is not too long
  pub run_size : (turns : List Turn) (s : Standing) (left : Script) → HasRun text bound turns s left → length text ≤ 4194304
  run_size [] s left run = run.0
  run_size (turn ∷ earlier) s left (before, commands, run, going, next, step) = run_size earlier before commands run

-- ---- how a run ends

-- at a command that was read, or cannot be
abbrev AtCommand : ℕ → Standing → Reading → List ℕ → Bool → Type 0
AtCommand bound s (Err e) line refused = (line ≡ refusal_line e) × (refused ≡ true)
AtCommand bound s (Ok (c, w)) line refused =
    (fault : SessionFault) × StepFails (in_scope (with_work w s.scope) s) c bound fault × (line ≡ fault_line bound fault) × (refused ≡ true)

-- at what is left
abbrev AtLeft : ℕ → Standing → Script → List ℕ → Bool → Type 0
AtLeft bound s Done line refused = (line ≡ []) × (refused ≡ false)
AtLeft bound s (Stops e) line refused = (line ≡ refusal_line e) × (refused ≡ true)
AtLeft bound s (Reads_list p items rest) line refused = AtCommand bound s (elaborate s.scope p items) line refused

-- after these commands
abbrev StopsAfter : ℕ → List Turn → Standing → Script → List ℕ → Bool → Type 0
StopsAfter bound turns s left line refused = (HasExited turns × (line ≡ []) × (refused ≡ false)) ⊎ (GoesOn turns × AtLeft bound s left line refused)

abbrev SameEnd : List ℕ → List ℕ → Bool → Bool → Type 0
SameEnd line text refused status = (line ≡ text) × (refused ≡ status)

module _ (law : RefusalsHaveACause) (bound : ℕ) (s : Standing) where
  at_command_one : (r : Reading) (one two : List ℕ) (first second : Bool) → AtCommand bound s r one first → AtCommand bound s r two second → SameEnd one two first second
  at_command_one (Err e) one two first second (line, status) (line', status') = (line ∙ sym line', status ∙ sym status')
  at_command_one (Ok (c, w)) one two first second (fault, fails, line, status) (fault', fails', line', status') =
      let same = one_fault law (in_scope (with_work w s.scope) s) c bound fault fault' fails fails' in
      (line ∙ ap (λ (f : SessionFault). fault_line bound f) same ∙ sym line', status ∙ sym status')

  at_left_one : (left : Script) (one two : List ℕ) (first second : Bool) → AtLeft bound s left one first → AtLeft bound s left two second → SameEnd one two first second
  at_left_one Done one two first second (line, status) (line', status') = (line ∙ sym line', status ∙ sym status')
  at_left_one (Stops e) one two first second (line, status) (line', status') = (line ∙ sym line', status ∙ sym status')
  at_left_one (Reads_list p items rest) one two first second h k = at_command_one (elaborate s.scope p items) one two first second h k

  -- at a refused command no command is answered
  at_command_last : (r : Reading) (line reply : List ℕ) (refused : Bool) (c : Command) (w : Work) (new : Standing) → r ≡ Ok (c, w) → AtCommand bound s r line refused → Step (in_scope (with_work w s.scope) s) c bound reply new → ⊥
  at_command_last r line reply refused c w new is at step =
      let (fault, fails, words, status) = subst (λ (q : Reading). AtCommand bound s q line refused) is at in
      answered_not_refused law (in_scope (with_work w s.scope) s) c bound reply new fault step fails

  at_left_last : (left rest : Script) (line : List ℕ) (refused : Bool) (turn : Turn) (new : Standing) → AtLeft bound s left line refused → OneMore bound turn s left new rest → ⊥
  at_left_last Done rest line refused turn new at (next, step) = next
  at_left_last (Stops e) rest line refused turn new at (next, step) = next
  at_left_last (Reads_list p items more) rest line refused turn new at ((w, reads, left, is), step) =
      at_command_last (elaborate s.scope p items) line turn.reply refused turn.command w new reads at
      (subst (λ (scope : State). Step (in_scope scope s) turn.command bound turn.reply new) is step)

  at_refusal : (left : Script) (e : ReadRefusal) (line : List ℕ) (refused : Bool) → IsRefusedWith left s.scope e → line ≡ refusal_line e → refused ≡ true → AtLeft bound s left line refused
  at_refusal Done e line refused h is status = absurd h
  at_refusal (Stops f) e line refused same is status = (is ∙ ap refusal_line same, status)
  at_refusal (Reads_list p items rest) e line refused same is status = subst (λ (q : Reading). AtCommand bound s q line refused) (sym same) (is, status)

  at_fault : (left rest : Script) (c : Command) (scope : State) (fault : SessionFault) (line : List ℕ) (refused : Bool) → IsNext (Some c) left s.scope rest scope → StepFails (in_scope scope s) c bound fault →
      line ≡ fault_line bound fault → refused ≡ true → AtLeft bound s left line refused
  at_fault Done rest c scope fault line refused next fails is status = absurd next
  at_fault (Stops f) rest c scope fault line refused next fails is status = absurd next
  at_fault (Reads_list p items more) rest c scope fault line refused (w, reads, left, at) fails is status =
      subst (λ (q : Reading). AtCommand bound s q line refused) (sym reads)
      (fault, subst (λ (there : State). StepFails (in_scope there s) c bound fault) at fails, is, status)

exited_or_goes_on : (turns : List Turn) → HasExited turns → GoesOn turns → ⊥
exited_or_goes_on [] exited going = exited
exited_or_goes_on (turn ∷ earlier) exited going = let wrong : true ≡ false = sym exited ∙ going in absurd cc

stops_one : RefusalsHaveACause → (bound : ℕ) (turns : List Turn) (s : Standing) (left : Script) (one two : List ℕ) (first second : Bool) → StopsAfter bound turns s left one first → StopsAfter bound turns s left two second → SameEnd one two first second
stops_one law bound turns s left one two first second (inl (exited, line, status)) (inl (exited', line', status')) = (line ∙ sym line', status ∙ sym status')
stops_one law bound turns s left one two first second (inl (exited, line, status)) (inr (going, at)) = absurd (exited_or_goes_on turns exited going)
stops_one law bound turns s left one two first second (inr (going, at)) (inl (exited, line, status)) = absurd (exited_or_goes_on turns exited going)
stops_one law bound turns s left one two first second (inr (going, at)) (inr (going', at')) = at_left_one law bound s left one two first second at at'

-- a run that has ended has no command more
stops_last : RefusalsHaveACause → (bound : ℕ) (turns : List Turn) (s new : Standing) (left rest : Script) (line : List ℕ) (refused : Bool) (turn : Turn) → StopsAfter bound turns s left line refused → GoesOn turns → OneMore bound turn s left new rest → ⊥
stops_last law bound turns s new left rest line refused turn (inl (exited, is, status)) going more = exited_or_goes_on turns exited going
stops_last law bound turns s new left rest line refused turn (inr (going', at)) going more = at_left_last law bound s left rest line refused turn new at more

-- ---- a text has one end

module _ (law : RefusalsHaveACause) (text : List ℕ) (bound : ℕ) where
  -- the run and its end; or the text is too long
  abbrev EndsAfter : List Turn → List ℕ → Bool → Type 0
  EndsAfter turns line refused = (s : Standing) × (left : Script) × HasRun text bound turns s left × StopsAfter bound turns s left line refused

  abbrev EndsTooLong : List Turn → List ℕ → Bool → Type 0
  EndsTooLong turns line refused = (4194304 < length text) × (turns ≡ []) × (line ≡ too_long) × (refused ≡ true)

  pub ends_after : (turns : List Turn) (line : List ℕ) (refused : Bool) → Ends text bound turns line refused → EndsAfter turns line refused ⊎ EndsTooLong turns line refused
  ends_after turns line refused (inl ((s, left, run, inl exited), is, status)) = inl (s, left, run, inl (exited, is, status))
  ends_after turns line refused (inl ((s, left, run, inr (going, done)), is, status)) =
      inl (s, left, run, inr (going, subst (λ (commands : Script). AtLeft bound s commands line refused) (sym done) (is, status)))
  ends_after turns line refused (inr (inl (s, left, e, run, going, unreadable, is), status)) = inl (s, left, run, inr (going, at_refusal law bound s left e line refused unreadable is status))
  ends_after turns line refused (inr (inr (inl (s, scope, c, fault, comes, fails, is)), status)) =
      inl (s, comes.commands, comes.run, inr (comes.going, at_fault law bound s comes.commands comes.left c scope fault line refused comes.read fails is status))
  ends_after turns line refused (inr (inr (inr (long, none, is)), status)) = inr (long, none, is, status)

  -- a run that has ended has no longer one
  pub none_longer : (xs ys : List Turn) (line : List ℕ) (refused : Bool) (t : Standing) (rest : Script) → length xs < length ys → EndsAfter xs line refused → HasRun text bound ys t rest → ⊥
  none_longer xs [] line refused t rest longer ends run = omega arith
  none_longer xs (y ∷ ys) line refused t rest longer (s, left, run, stops) (before, commands, run', going, next, step) =
      elim (cases_lt (length xs) (length ys)) [
        | inl still ↦ none_longer xs ys line refused before commands still (s, left, run, stops) run'
        | inr le ↦
            let (turns, stands, same) = one_run text bound xs ys s before left commands (omega arith) run run' in
            let here = one_more_at bound y before s t commands left rest (sym stands) (sym same) (next, step) in
            stops_last law bound xs s t left rest line refused y stops (subst (λ (us : List Turn). GoesOn us) (sym turns) going) here
      ]

  abbrev SameOutput : List Turn → List Turn → List ℕ → List ℕ → Bool → Bool → Type 0
  SameOutput xs ys one two first second = (xs ≡ ys) × SameEnd one two first second

  ends_one : (xs ys : List Turn) (one two : List ℕ) (first second : Bool) → EndsAfter xs one first → EndsAfter ys two second → SameOutput xs ys one two first second
  ends_one xs ys one two first second (s, left, run, stops) (t, rest, run', stops') =
      elim (cases_lt (length xs) (length ys)) [
        | inl longer ↦ absurd (none_longer xs ys one first t rest longer (s, left, run, stops) run')
        | inr ge ↦ elim (cases_lt (length ys) (length xs)) [
          | inl longer ↦ absurd (none_longer ys xs two second s left longer (t, rest, run', stops') run)
          | inr le ↦
              let (turns, stands, same) = one_run text bound xs ys s t left rest (omega arith) run run' in
              let there : StopsAfter bound ys t rest one first =
              subst (λ (us : List Turn). StopsAfter bound us t rest one first) turns
              (subst (λ (u : Standing). StopsAfter bound xs u rest one first) stands
              (subst (λ (commands : Script). StopsAfter bound xs s commands one first) same stops)) in
              (turns, stops_one law bound ys t rest one two first second there stops')
        ]
      ]

  run_not_too_long : (xs ys : List Turn) (one two : List ℕ) (first second : Bool) → EndsAfter xs one first → EndsTooLong ys two second → ⊥
  run_not_too_long xs ys one two first second (s, left, run, stops) (long, none, is, status) = omega (arith, run_size text bound xs s left run, long)

  one_end : (xs ys : List Turn) (one two : List ℕ) (first second : Bool) → EndsAfter xs one first ⊎ EndsTooLong xs one first → EndsAfter ys two second ⊎ EndsTooLong ys two second → SameOutput xs ys one two first second
  one_end xs ys one two first second (inl a) (inl b) = ends_one xs ys one two first second a b
  one_end xs ys one two first second (inl a) (inr b) = absurd (run_not_too_long xs ys one two first second a b)
  one_end xs ys one two first second (inr a) (inl b) = absurd (run_not_too_long ys xs two one second first b a)
  one_end xs ys one two first second (inr (long, none, is, status)) (inr (long', none', is', status')) = (none ∙ sym none', (is ∙ sym is', status ∙ sym status'))

  -- and so one output and one status
  pub one_output : (one two : List ℕ) (first second : Bool) → IsOutput text bound one first → IsOutput text bound two second → (one ≡ two) × (first ≡ second)
  one_output one two first second (xs, line, ends, is) (ys, words, ends', is') =
      let (turns, (last, status)) = one_end xs ys line words first second (ends_after xs line first ends) (ends_after ys words second ends') in
      (is ∙ ap (λ (us : List Turn). replies us ++ line) turns ∙ ap (λ (bytes : List ℕ). replies ys ++ bytes) last ∙ sym is', status)
