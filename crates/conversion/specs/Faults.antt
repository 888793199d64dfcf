-- Faults by their numbers. Assumes nothing.
use Rattle.std.specs.Prelude.{ℕ}
use Rattle.conversion.specs.declared.faults.Layer.{Layer}
use Rattle.conversion.specs.declared.faults.Layer.TheVariants as layer
use Rattle.conversion.specs.declared.faults.LayoutFault.{LayoutFault}
use Rattle.conversion.specs.declared.faults.LayoutFault.TheVariants as fault
use Rattle.conversion.specs.declared.faults.FaultReport.{FaultReport}

-- the number of each layer
abbrev pub layer_number : Layer → ℕ
layer_number layer.Group = 1
layer_number layer.Allocator = 2
layer_number layer.Device = 3

-- refusal n of a layout or group, naming entry i
abbrev pub reported : ℕ → ℕ → FaultReport
reported n i = record { number = n; layer = layer.Group; entry = i }

-- every fault of a layout's entries in numbers
abbrev pub report_of : LayoutFault → FaultReport
report_of fault.TooManyEntries = reported 1 32
report_of (fault.BindingOrder i) = reported 2 i
report_of (fault.ExternalTexture i) = reported 3 i
report_of (fault.TooManyDescriptors i) = reported 4 i
