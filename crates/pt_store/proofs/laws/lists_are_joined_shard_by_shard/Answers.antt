use Rattle.pt_store.proofs.laws.lists_are_joined_shard_by_shard.Goals as goal

pub returns : goal.returns
returns c first second new same_first same_second each = record {
  extends_first = record { shards = same_first; prefix = λ shard within. (each shard).begins_first };
  extends_second = record { shards = same_second; prefix = λ shard within. (each shard).begins_second };
  longer = λ shard. (each shard).longer;
}
