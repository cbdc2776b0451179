-- `write_numbers`: refusals 2 and 3, or the writer's answer for the line of the numbers. Assumes nothing.
use mathlib.Core.Path.{refl, sym}
use borrow.Author.Rules.{rules}
use Rattle.refusals.proofs.Joining.{join}
use Rattle.pokyandi.proofs.Replies.{refused_told, write_reply}
use Rattle.pokyandi.proofs.lines.write_numbers.Goals as goal

pub returns-in_err-check_edition : goal.returns-in_err-check_edition
returns-in_err-check_edition c =
    let met = refused_told c.args.edition c.args.numbers.now c.args.bytes.now (join (sym c.in_err-check_edition.ensures) refl) in
    record { result_value = search rules; bytes_after = met.1 }

pub returns-in_err-check_count : goal.returns-in_err-check_count
returns-in_err-check_count c =
    let met = refused_told c.args.edition c.args.numbers.now c.args.bytes.now (join (sym c.in_ok-check_edition.ensures) (sym c.in_err-check_count.ensures)) in
    record { result_value = search rules; bytes_after = met.1 }

pub returns : goal.returns
returns c =
    let both = join (sym c.in_ok-check_edition.ensures) (sym c.in_ok-check_count.ensures) in
    let met = write_reply c.args.edition c.args.numbers.now c.args.bytes.now both c.read.ensures (c.write.ensures.answer, c.write.ensures.memory) in
    record { result_value = met.0; bytes_after = met.1 }
