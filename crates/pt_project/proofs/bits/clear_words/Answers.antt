use Rattle.std.proofs.Common.{ℕ}
use Rattle.std.specs.Global.{Vec}
use Rattle.pt_project.specs.Bits.{IsClear}
use Rattle.pt_project.proofs.BitLaws.{if-ok, zeros-clear}
use Rattle.pt_project.proofs.bits.clear_words.Goals as goal

pub returns : goal.returns
returns c =
    if-ok c.vec.result _ (λ (words : Vec ℕ). IsClear c.args.numbers words.items)
    (λ words zeros. zeros-clear c.args.numbers c.div_ceil-count.result words.items c.requires c.div_ceil-count.ensures (zeros (λ y h. h))) c.vec.ensures.items_if_clones_equal
