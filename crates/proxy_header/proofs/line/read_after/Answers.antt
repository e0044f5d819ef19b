use Rattle.std.proofs.Common.{ℕ, ◌+◌, ◌≤◌, ◌++◌, length, take, sym, ap, subst, arith}
use Rattle.proxy_header.specs.Lines.{IsLine, words}
use Rattle.proxy_header.proofs.Breaks.{first_break, none_anywhere}
use Rattle.proxy_header.proofs.Lines.{bad_text, is_line, need_text, no_room, too_long}
use Rattle.proxy_header.proofs.line.read_after.Goals as goal

pub returns-then-before-rest-lt-MOST_LINE : goal.returns-then-before-rest-lt-MOST_LINE
returns-then-before-rest-lt-MOST_LINE c =
    need_text c.args.protocol c.args.rest.now (none_anywhere c.args.rest.now c.in_default.ensures) (omega (arith, ap length c.words-before.ensures, c.if-before-rest-lt-MOST_LINE.true))

pub returns-in_default : goal.returns-in_default
returns-in_default c =
    no_room c.args.protocol c.args.rest.now (none_anywhere c.args.rest.now c.in_default.ensures) (omega (arith, ap length c.words-before.ensures, c.if-before-rest-lt-MOST_LINE.false))

pub returns-then-len-gt-MOST_LINE : goal.returns-then-len-gt-MOST_LINE
returns-then-len-gt-MOST_LINE c =
    too_long c.args.protocol c.args.rest.now c.in-Some.end (first_break c.args.rest.now c.in-Some.end c.in-Some.ensures.0 c.in-Some.ensures.1) (omega (arith, ap length c.words-before.ensures, c.if-len-gt-MOST_LINE.true))

pub returns-in-Some-client_of : goal.returns-in-Some-client_of
returns-in-Some-client_of c =
    let before = ap length c.words-before.ensures in
    let whole = words c.args.protocol ++ c.args.rest.now in
    let end : ℕ = c.in-Some.end in
    let first = first_break c.args.rest.now end c.in-Some.ensures.0 c.in-Some.ensures.1 in
    subst (λ (n : ℕ). (n + end + 2 ≤ length whole) × IsLine (take (n + end + 2) whole) c.in-Some-client_of.client) (sym before)
    (is_line c.args.protocol c.args.rest.now end _ first (omega (arith, before, c.if-len-gt-MOST_LINE.false)) c.in-Some-client_of.ensures)

pub returns-in-None : goal.returns-in-None
returns-in-None c = bad_text c.args.protocol c.args.rest.now c.in-Some.end (first_break c.args.rest.now c.in-Some.end c.in-Some.ensures.0 c.in-Some.ensures.1) c.in-None.ensures
