use Rattle.pt_store.specs.declared.fault.StoreFault.{StoreFault}
use Rattle.pt_store.specs.declared.fault.StoreFault.TheVariants as store
use Rattle.pt_script.specs.declared.fault.SessionFault.{SessionFault}
use Rattle.pt_script.specs.declared.fault.SessionFault.TheVariants.{Full, NoMemory}

abbrev pub no_memory : SessionFault
no_memory = NoMemory

-- a store's refusal as that of a session
abbrev pub of_store : StoreFault → SessionFault
of_store (store.Full shard count) = Full shard count
of_store store.NoMemory = NoMemory
