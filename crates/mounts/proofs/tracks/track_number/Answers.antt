use Rattle.std.proofs.Common.{◌≡◌, arith, sym}
use Rattle.mounts.proofs.Controls.{control_read, read_control, short_decimal}
use Rattle.mounts.proofs.tracks.track_number.Goals as goal
use Rattle.std.specs.Fmt.{decimal}

pub returns-in_default-clause-none : goal.returns-in_default-clause-none
returns-in_default-clause-none c number below e = c.in_default.ensures.none (decimal number) (short_decimal number (omega arith)) e

pub returns-in_default-read_number-clause-none : goal.returns-in_default-read_number-clause-none
returns-in_default-read_number-clause-none c number below e =
    let digits = c.in-Some.ensures.some in
    let read = control_read c.args.rest.now c.in-Some.digits.now number (omega arith) digits.1 e in
    let none = c.in_default-read_number.ensures in
    absurd (cc)

pub returns-then-number-count-clause-some : goal.returns-then-number-count-clause-some
returns-then-number-count-clause-some c =
    let digits = c.in-Some.ensures.some in
    read_control c.args.rest.now c.in-Some.digits.now c.in-Some-read_number.number digits.0 digits.1 (sym c.in-Some-read_number.ensures)

pub returns-else-number-count-clause-none : goal.returns-else-number-count-clause-none
returns-else-number-count-clause-none c number below e =
    let digits = c.in-Some.ensures.some in
    let read = control_read c.args.rest.now c.in-Some.digits.now number (omega arith) digits.1 e in
    let also = c.in-Some-read_number.ensures in
    let same : number ≡ c.in-Some-read_number.number = cc in
    omega arith
