use Rattle.std.proofs.Common.{◌+◌, sym, subst}
use Rattle.counting.proofs.Places.{Through, through_cleared, through_kept}
use Rattle.counting.proofs.counting.CountingDevice.remove_sets_of.Goals as goal
use Rattle.counting.proofs.counting.CountingDevice.remove_sets_of.Goals.{then-is_in_pool, else-is_in_pool}

pub loop-row-preserved : goal.loop-row-preserved
loop-row-preserved c =
    let d = c.args.self.now in
    let p = c.args.pool in
    let row = c.loop-row.row in
    elim c.if-is_in_pool.branch [
      | then-is_in_pool w ↦ subst (Through d p (row + 1)) (sym w.self-is) (through_cleared d p row c.loop-row.self c.loop-row.invariant w.remove_set.new.self w.remove_set.ensures w.if-is_in_pool.ensures)
      | else-is_in_pool w ↦ subst (Through d p (row + 1)) (sym w.self-is) (through_kept d p row c.loop-row.self c.loop-row.invariant w.if-is_in_pool.ensures)
    ]
