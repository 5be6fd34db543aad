-- What is left of a text has one answer in each scope, and sound scopes stay sound.
use Rattle.std.proofs.Common.{◌≡◌, inl, inr, ℕ, zero, suc, ◌<◌, true, [], length, arith, refl, sym, ap, subst, ◌∙◌}
use Rattle.std.specs.Prelude.{Result, Ok, Err, Option, Some, None}
use Rattle.pt_formula.specs.declared.node.Node.TheVariants as node
use Rattle.pt_formula.specs.Formulas.{start as start_formula, node_at, variables_of, contains, IsNode, IsFormula}
use Rattle.pt_syntax.specs.declared.kinds.ReadRefusal.{ReadRefusal}
use Rattle.pt_syntax.specs.Lists.{Script, Done, Stops, Command as Reads_list}
use Rattle.pt_terms.specs.Elaboration.{Work}
use Rattle.pt_terms.specs.Free.{Nodes, IsWhole, AreTermsOver}
use Rattle.pt_terms.specs.Sorts.{IsSorted, AreSorted}
use Rattle.pt_terms.specs.Sound.{AreBelow}
use Rattle.pt_terms.specs.Keeps.{TermsKeep, ConjunctionsKeep}
use Rattle.pt_read.specs.declared.command.Command.{Command}
use Rattle.pt_read.specs.declared.command.CommandKind.{CommandKind}
use Rattle.pt_read.specs.declared.command.CommandKind.TheVariants as kind
use Rattle.pt_read.specs.Scope.{State, initial, after}
use Rattle.pt_read.specs.Fits.{FitsKind}
use Rattle.pt_read.specs.Commands.{elaborate}
use Rattle.pt_read.specs.Reader.{IsNext, IsRefusedWith, OnlyAdds, with_work}
use Rattle.pt_read.specs.Sound.{IsSoundScope, HasAnswer}
use Rattle.pt_read.proofs.Fitting.{IsStep}
use Rattle.pt_read.proofs.FittingWhole.{fits-elaborated}
use Rattle.pt_read.proofs.Elaborating.{scope-names, scope-conjunction}
use Rattle.pt_read.proofs.SoundLaws.{sound-grown, sound-after}
use Rattle.pt_read.proofs.Keeping.{NamesLast, keeps-command}

-- ---- one answer

pub has-answer : (left : Script) (s : State) → HasAnswer left s
has-answer Done s = inl (None, Done, s, (refl, refl))
has-answer (Stops e) s = inr (e, refl)
has-answer (Reads_list p items rest) s = by-elaboration (elaborate s p items) refl
  where
    by-elaboration : (r : Result (Command × Work) ReadRefusal) → elaborate s p items ≡ r → HasAnswer (Reads_list p items rest) s
    by-elaboration (Ok (c, w)) e = inl (Some c, rest, with_work w s, (w, e, refl, refl))
    by-elaboration (Err f) e = inr (f, e)

one-pair : (c d : Command) (v w : Work) → ◌≡◌ {A = Result (Command × Work) ReadRefusal} (Ok (c, v)) (Ok (d, w)) → (c ≡ d) × (v ≡ w)
one-pair c d v w e =
    let pair : ◌≡◌ {A = Command × Work} (c, v) (d, w) = cc in
    (ap (λ (q : Command × Work). q.0) pair, ap (λ (q : Command × Work). q.1) pair)

pub one-next : (left rest other : Script) (s new now : State) (c d : Option Command) → IsNext c left s rest new → IsNext d left s other now → (c ≡ d) × (rest ≡ other) × (new ≡ now)
one-next Done rest other s new now None None h k = (refl, h.0 ∙ sym k.0, h.1 ∙ sym k.1)
one-next Done rest other s new now None (Some d) h k = absurd k
one-next Done rest other s new now (Some c) d h k = absurd h
one-next (Stops e) rest other s new now None d h k = absurd h
one-next (Stops e) rest other s new now (Some c) d h k = absurd h
one-next (Reads_list p items more) rest other s new now None d h k = absurd h
one-next (Reads_list p items more) rest other s new now (Some c) None h k = absurd k
one-next (Reads_list p items more) rest other s new now (Some c) (Some d) (v, reads, left, is) (w, reads', left', is') =
    let same = one-pair c d v w (sym reads ∙ reads') in
    (ap Some same.0, left ∙ sym left', is ∙ ap (λ (u : Work). with_work u s) same.1 ∙ sym is')

pub one-refusal : (left : Script) (s : State) (e f : ReadRefusal) → IsRefusedWith left s e → IsRefusedWith left s f → e ≡ f
one-refusal Done s e f h k = absurd h
one-refusal (Stops x) s e f h k = h ∙ sym k
one-refusal (Reads_list p items rest) s e f h k = let same : ◌≡◌ {A = Result (Command × Work) ReadRefusal} (Err e) (Err f) = sym h ∙ k in cc

pub read-not-refused : (left rest : Script) (s new : State) (c : Option Command) (e : ReadRefusal) → IsNext c left s rest new → IsRefusedWith left s e → ⊥
read-not-refused Done rest s new c e h k = absurd k
read-not-refused (Stops x) rest s new None e h k = absurd h
read-not-refused (Stops x) rest s new (Some c) e h k = absurd h
read-not-refused (Reads_list p items more) rest s new None e h k = absurd h
read-not-refused (Reads_list p items more) rest s new (Some c) e (w, reads, left, is) k = let same : ◌≡◌ {A = Result (Command × Work) ReadRefusal} (Ok (c, w)) (Err e) = sym reads ∙ k in absurd cc

-- ---- commands that fit

pub read-fits : ((f : Nodes) → IsFormula f → IsWhole f) → ((f : Nodes) → IsFormula f → AreTermsOver f) → TermsKeep → ConjunctionsKeep → NamesLast → (left rest : Script) (s new : State) (c : Command) → IsSoundScope s → IsNext (Some c) left s rest new → IsSoundScope new × OnlyAdds s new × FitsKind c.kind new
read-fits whole over terms conjunctions names Done rest s new c h next = absurd next
read-fits whole over terms conjunctions names (Stops e) rest s new c h next = absurd next
read-fits whole over terms conjunctions names (Reads_list p items more) rest s new c h (w, reads, left, is) =
    let kept = keeps-command terms conjunctions names s p items (scope-conjunction s h.sound h.formula) (scope-names s h.sound) (record { formula = h.formula; below = h.below; sorted = h.sorted }) c w reads in
    let whole' : IsWhole w.formula = whole w.formula kept.0.formula in
    let step : IsStep s w = record { whole = whole'; terms = over w.formula kept.0.formula; front = kept.1.nodes; sorts = kept.1.sorts; given = kept.1.given; below = h.below; sound = h.sound } in
    subst (λ (t : State). IsSoundScope t × OnlyAdds s t × FitsKind c.kind t) (sym is) (
      record { formula = kept.0.formula; below = kept.0.below; sorted = kept.0.sorted; sound = sound-grown s w whole' kept.1.nodes kept.1.sorts h.sound },
      record { nodes = kept.1.nodes; sorts = kept.1.sorts; given = kept.1.given; depth = refl; symbols = refl; assertions = refl },
      fits-elaborated s p items c w step kept.2 reads,
    )

-- ---- scopes

start-node : (i : ℕ) → i < 1 → IsNode start_formula i
start-node zero lt = record { earlier = tt; terms = tt; few = omega arith }
start-node (suc i) lt = absurd (omega arith)

pub initial-sound : IsSoundScope initial
initial-sound = record {
  formula = record { first = refl; few_nodes = omega arith; each = λ i lt. start-node i lt };
  below = record { free = λ i v lt e. free i v lt e; bound = λ i v a e. bound i v a e };
  sorted = λ i. sorted i;
  sound = record { symbols = tt; order = tt; assertions = tt };
}
  where
    free : (i v : ℕ) → i < 1 → contains v (variables_of start_formula i) ≡ true → v < 0
    free zero v lt e = absurd cc
    free (suc i) v lt e = absurd (omega arith)

    sorted : (i : ℕ) → IsSorted [] (node_at start_formula i)
    sorted zero = tt
    sorted (suc i) = tt

    bound : (i v a : ℕ) → node_at start_formula i ≡ node.Exists v a → v < 0
    bound zero v a e = absurd cc
    bound (suc i) v a e = absurd cc

after-formula : (k : CommandKind) (s : State) → ((after k s).formula ≡ s.formula) × ((after k s).given ≡ s.given)
after-formula (kind.Declare name v t) s = (refl, refl)
after-formula (kind.Define d) s = (refl, refl)
after-formula (kind.Assert term c) s = (refl, refl)
after-formula (kind.Push n) s = (refl, refl)
after-formula (kind.Pop n) s = (refl, refl)
after-formula kind.Reset s = (refl, refl)
after-formula kind.SetLogic s = (refl, refl)
after-formula kind.SetInfo s = (refl, refl)
after-formula (kind.SetOption o) s = (refl, refl)
after-formula kind.CheckSat s = (refl, refl)
after-formula (kind.GetValue cs) s = (refl, refl)
after-formula kind.GetModel s = (refl, refl)
after-formula (kind.Echo literal) s = (refl, refl)
after-formula kind.Exit s = (refl, refl)
after-formula (kind.SetEqual p q) s = (refl, refl)
after-formula (kind.SetSubset p q) s = (refl, refl)
after-formula (kind.SetEmpty p) s = (refl, refl)
after-formula (kind.SetFinite p) s = (refl, refl)
after-formula (kind.SetStates p) s = (refl, refl)
after-formula (kind.SetMember p zs) s = (refl, refl)
after-formula (kind.SetList p k) s = (refl, refl)

pub after-sound : (k : CommandKind) (s : State) → FitsKind k s → IsSoundScope s → IsSoundScope (after k s)
after-sound k s fits h =
    let same = after-formula k s in
    record {
      formula = subst IsFormula (sym same.0) h.formula;
      below = subst (λ f. AreBelow f (length (after k s).given)) (sym same.0) (subst (λ given. AreBelow s.formula (length given)) (sym same.1) h.below);
      sorted = subst (λ f. AreSorted f (after k s).given) (sym same.0) (subst (AreSorted s.formula) (sym same.1) h.sorted);
      sound = sound-after s k fits h.sound;
    }

pub sound-conjunction : (s : State) → IsSoundScope s → Rattle.pt_read.specs.Scope.conjunction s < length s.formula
sound-conjunction s h = scope-conjunction s h.sound h.formula
