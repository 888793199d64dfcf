-- A pool's row as what the device holds. Assumes nothing.
use Rattle.device.specs.Meaning.{LivePool}
use Rattle.rows.specs.declared.pools.PoolRow.{PoolRow}

abbrev pub live_pool : PoolRow → LivePool
live_pool p = record { most = p.most; sizes = p.sizes; updatable = p.updatable; first_counts = p.first; differed = p.differed }
