-- `report_line`: the first numbers of the row are the stations, and 257 numbers are never too few. Assumes nothing.
use mathlib.Core.Path.{sym}
use Prim.Native.Nat.{ℕ}
use lib.ListN.{length-replicate}
use lib.Seq.{length-take-le}
use Rattle.station_report.proofs.Texts.{counted_within, refused_text}
use Rattle.station_report.proofs.report_line.Goals as goal

pub slice_bounds-station_list-end : goal.slice_bounds-station_list-end
slice_bounds-station_list-end c =
    sym (length-take-le c.in-Ok.count c.stations.new.row (counted_within _ _ c.in-Ok.ensures.memory (sym c.in-Ok.ensures.answer)))

pub returns-in-Err : goal.returns-in-Err
returns-in-Err c =
    let refused = refused_text _ _ c.in-Err.ensures.memory (length-replicate {A = ℕ} 257 0) (sym c.in-Err.ensures.answer) in record {
      answer = rw refused c.refusal_line.ensures.answer;
      memory = rw refused c.refusal_line.ensures.memory;
    }
