-- Bindings as a list. Assumes nothing.
use Rattle.std.specs.Prelude.{List, take}
use Rattle.conversion.specs.declared.bindings.DeviceBinding.{DeviceBinding}
use Rattle.rows.specs.declared.bindings.Bindings.{Bindings}

abbrev pub list_of : Bindings → List DeviceBinding
list_of b = take b.used b.rows
