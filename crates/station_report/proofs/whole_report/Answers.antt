-- `whole_report`: 5,417 bytes are never refused. Assumes nothing.
use mathlib.Core.Path.{sym, ◌∙◌}
use Prim.Native.Nat.{◌≤◌}
use native.Mathlib.Omega.{arith}
use lib.ListN.{length}
use lib.Seq.{length-take-le}
use Rattle.station_report.proofs.Fits.{fits, whole_length, whole_buffer}
use Rattle.station_report.proofs.whole_report.Goals as goal

pub invariant_of-result : goal.invariant_of-result
invariant_of-result c =
    let sheet = c.args.sheet.now in
    let length_is = whole_length sheet c.report_sheet.result c.report_sheet.ensures.answer in
    let within : c.unwrap_or-length.result ≤ length c.report_sheet.new.text = omega (arith, fits sheet) in
    record { within = (within, sym (length-take-le _ _ within)) }

pub returns : goal.returns
returns c =
    let sheet = c.args.sheet.now in record {
      text = c.report_sheet.ensures.memory ∙ whole_buffer sheet;
      size = c.unwrap_or-length.ensures ∙ whole_length sheet c.report_sheet.result c.report_sheet.ensures.answer;
    }
