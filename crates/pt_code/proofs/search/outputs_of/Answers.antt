use Rattle.std.proofs.Common.{◌^◌, false}
use Rattle.pt_code.proofs.Queue.{slice-is}
use Rattle.pt_code.proofs.search.outputs_of.Goals as goal

pub returns : goal.returns
returns c =
    slice-is c.args.piece.now.outputs false c.args.state (2 ^ c.args.piece.now.tracks) c.args.piece.now.states c.letter_count-letters.result c.as_slice-outputs.result.now
    c.as_slice-outputs.ensures c.letter_count-letters.ensures c.requires.component.outputs c.requires.state
