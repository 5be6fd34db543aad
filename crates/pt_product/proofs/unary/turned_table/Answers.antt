use Rattle.std.proofs.Common.{◌≡◌, ℕ, List, Bool, map, ap, sym, ◌∙◌, subst}
use Rattle.std.specs.Prelude.{not}
use Rattle.pt_sets.specs.Automata.{Automaton, IsAutomaton}
use Rattle.pt_product.specs.Derived.{turned}
use Rattle.pt_product.proofs.Turned.{turned-automaton}
use Rattle.pt_product.proofs.unary.turned_table.Goals as goal

pub from_parts-requires : goal.from_parts-requires
from_parts-requires c =
    let a = c.args.table.now in
    let rows : ℕ → ℕ → List Bool → List ℕ → Automaton = λ t s o e. record { tracks = t; states = s; outputs = o; edges = e } in
    let outputs : c.in_ok-outputs.outputs.items ≡ map not a.outputs = c.in_ok-outputs.ensures ∙ ap (map not) c.outputs.ensures.value in
    let edges : c.in_ok-edges.edges.items ≡ a.edges = c.in_ok-edges.ensures.items ∙ c.edges.ensures.value in
    let same : rows c.tracks.result c.states.result c.in_ok-outputs.outputs.items c.in_ok-edges.edges.items ≡ turned a =
    ap (λ (t : ℕ). rows t c.states.result c.in_ok-outputs.outputs.items c.in_ok-edges.edges.items) c.tracks.ensures.tracks
    ∙ ap (λ (s : ℕ). rows a.tracks s c.in_ok-outputs.outputs.items c.in_ok-edges.edges.items) c.states.ensures.states
    ∙ ap (λ (o : List Bool). rows a.tracks a.states o c.in_ok-edges.edges.items) outputs
    ∙ ap (rows a.tracks a.states (map not a.outputs)) edges in
    subst IsAutomaton (sym same) (turned-automaton a c.tracks.ensures.valid)
