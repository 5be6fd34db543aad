use Rattle.std.proofs.Common.{◌≡◌, ◌∙◌, ◌∷◌, ◌++◌, [], List, length-append, ap, arith}
use Rattle.std.proofs.lemmas.List.{map-append, replicate-append-replicate}
use Rattle.std.proofs.lemmas.List.Elements.{All-push}
use Rattle.pt_cells.specs.Seeing.{Cells, Seen, IsOf}
use Rattle.pt_store.specs.Shared.{lists_of}
use Rattle.pt_store.proofs.Each.{AtEach-push}
use Rattle.pt_store.proofs.shared.SharedStore.new.Goals as goal

pub loop-preserved : goal.loop-preserved
loop-preserved g c =
    let inv = c.loop.invariant in
    let shard = c.new-shard.result in
    let pass = c.in_ok-pass.pass in
    let passes : List Seen = c.loop.passes.items in
    rw (c.in_ok-push.ensures.items, c.in_ok-push-2.ensures.items) (record {
      count = omega (arith, length-append c.loop.cells.items (shard ∷ []), inv.count);
      limits = All-push (λ (s : Cells). s.limit ≡ c.args.limit) c.loop.cells.items shard inv.limits c.new-shard.ensures;
      each = AtEach-push IsOf c.loop.cells.items passes shard pass inv.each c.in_ok-pass.ensures.of;
      empty = map-append (λ (p : Seen). p.codes) passes (pass ∷ [])
          ∙ ap (λ codes. lists_of passes ++ codes ∷ []) c.in_ok-pass.ensures.empty
          ∙ ap (λ lists. lists ++ [] ∷ []) inv.empty
          ∙ replicate-append-replicate c.loop.counter 1 [];
    })
