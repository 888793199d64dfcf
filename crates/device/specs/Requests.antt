-- The calls of a device, with what they are given. Assumes nothing.
use Rattle.std.specs.Prelude.{ℕ, List}
use Rattle.conversion.specs.declared.bindings.DeviceBinding.{DeviceBinding}
use Rattle.device.specs.declared.records.PoolSize.{PoolSize}
use Rattle.device.specs.declared.records.Write.{Write}
use Rattle.device.specs.Writes.{Lists}

-- One call.
pub data Request : Type 0 where
  create_layout : List DeviceBinding → ℕ → Request
  destroy_layout : ℕ → Request
  create_pool : ℕ → List PoolSize → ℕ → Request
  destroy_pool : ℕ → Request
  allocate_set : ℕ → ℕ → Request
  free_set : ℕ → ℕ → Request
  update_sets : List Write → Lists → Request
