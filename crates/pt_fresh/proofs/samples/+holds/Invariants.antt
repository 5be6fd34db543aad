use Rattle.pt_fresh.proofs.samples.+holds.Given as goal

-- Children come before their node.
abbrev pub decreases-holds : goal.decreases-holds
decreases-holds l = l.id
