use Rattle.std.proofs.Common.{◌*◌, ◌^◌, ◌%◌}
use Rattle.pt_handles.proofs.Tested.{letters-is, successor-cell}
use Rattle.pt_handles.proofs.exploring.state_keeps_sign.Goals as goal

pub bounds-outputs-next : goal.bounds-outputs-next
bounds-outputs-next c =
    let t = c.args.tracks in
    let letters = letters-is t c.requires.closed.tracks in
    successor-cell t c.args.states c.args.outputs.now c.args.edges.now c.requires.closed c.args.state c.loop-sign.sign (1 * 2 ^ t % 18446744073709551616) letters c.requires.state c.loop-sign-test.true
