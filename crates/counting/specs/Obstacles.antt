-- What stands in the way of a making call, in Vulkan's result numbers. Assumes nothing.
use Rattle.std.specs.Prelude.{ℤ}
use Rattle.device.specs.Results.{no_host_memory, no_device_memory, unknown, out_of_pool}
use Rattle.counting.specs.declared.calls.Obstacle.{Obstacle}
use Rattle.counting.specs.declared.calls.Obstacle.TheVariants as obstacle

-- the result number of each
abbrev pub result_of : Obstacle → ℤ
result_of obstacle.NoHostMemory = no_host_memory
result_of obstacle.NoDeviceMemory = no_device_memory
result_of obstacle.Unknown = unknown
result_of obstacle.OutOfPool = out_of_pool
