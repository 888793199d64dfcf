use Rattle.std.proofs.Common.{get_or, sym, refl, ap, ◌∙◌, arith}
use Rattle.std.specs.Option.{option_map}
use Rattle.rows.specs.Lists.{list_of}
use Rattle.rows.specs.Holdings.{layout_in, pool_in, set_at, held_total, no_bindings}
use Rattle.counting.specs.Counting.{live_in}
use Rattle.counting.proofs.Opening.{empty_row, empty_given, empty_found}
use Rattle.counting.proofs.counting.CountingDevice.open.Goals as goal

pub invariant_of-result : goal.invariant_of-result
invariant_of-result c =
    let h = c.new-2.result in
    let new = c.new-2.ensures in
    record {
      layouts = empty_given h.layouts new.layouts;
      pools = empty_given h.pools new.pools;
      sets = empty_given h.sets new.sets;
      sized = λ i. ap (λ f. f i) c.in_ok-records.ensures.lengths ∙ sym (ap (λ o. held_total (option_map (λ s. record { pool = s.value.pool; bindings = list_of (get_or h.bindings s.value.layout no_bindings) }) o)) (empty_row h.sets new.sets i));
      word = omega arith;
    }

pub returns : goal.returns
returns c =
    let h = c.new-2.result in
    let new = c.new-2.ensures in
    record {
      empty =
          record {
            layouts = empty_found h.layouts new.layouts (layout_in h.bindings h.layouts);
            pools = empty_found h.pools new.pools (pool_in h.pools);
            sets = empty_found h.sets new.sets (live_in (set_at h) c.in_ok-records.records);
            mark = refl;
          };
      size = c.in_ok-records.ensures.size;
      last = refl;
    }
