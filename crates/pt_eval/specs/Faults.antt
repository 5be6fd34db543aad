-- A store's refusals as those of an evaluation.
use Rattle.pt_store.specs.declared.fault.StoreFault.{StoreFault}
use Rattle.pt_store.specs.declared.fault.StoreFault.TheVariants as store
use Rattle.pt_eval.specs.declared.fault.EvalFault.{EvalFault}
use Rattle.pt_eval.specs.declared.fault.EvalFault.TheVariants.{Full, NoMemory}

abbrev pub of_store : StoreFault → EvalFault
of_store (store.Full shard count) = Full shard count
of_store store.NoMemory = NoMemory

-- want of memory
abbrev pub no_memory : EvalFault
no_memory = NoMemory
