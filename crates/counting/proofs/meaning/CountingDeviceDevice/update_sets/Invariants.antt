use Rattle.std.proofs.Common.{◌≡◌, ◌||◌, drop}
use Rattle.device.specs.Writes.{lists_in, after_writes, some_invalid}
use Rattle.counting.specs.Counting.{sets_of}
use Rattle.counting.proofs.meaning.CountingDeviceDevice.update_sets.Given as goal

abbrev pub invariant-loop-write : goal.invariant-loop-write
invariant-loop-write l =
    (l.self.holdings ≡ l.initial.self.holdings) × (l.self.last ≡ l.initial.self.last)
    × (after_writes (lists_in l.records) l.writes (sets_of l.initial.self.holdings l.initial.self.records) ≡ after_writes (lists_in l.records) (drop l.write-index l.writes) (sets_of l.self.holdings l.self.records))
    × ((l.initial.self.mark || some_invalid (lists_in l.records) l.writes (sets_of l.initial.self.holdings l.initial.self.records)) ≡ (l.self.mark || some_invalid (lists_in l.records) (drop l.write-index l.writes) (sets_of l.self.holdings l.self.records)))
