use Rattle.std.proofs.Common.{sym, subst, ◌∙◌, inl, arith}
use Rattle.proxy_header.specs.Headers.{Begins}
use Rattle.proxy_header.proofs.Headers.{bad_block, bad_line, none_begins, none_yet}
use Rattle.proxy_header.proofs.Lists.{is_empty}
use Rattle.proxy_header.proofs.header.read_header.Goals as goal

pub returns-in-None-clause-need_more : goal.returns-in-None-clause-need_more
returns-in-None-clause-need_more c waits = subst Begins (sym (is_empty c.args.bytes.now (omega (arith, c.in-None.ensures.item.3)))) (inl none_begins)

pub returns-in-Some-eq80-clause-bad : goal.returns-in-Some-eq80-clause-bad
returns-in-Some-eq80-clause-bad c =
    let first = c.in-Some-eq80.ensures.item.3 in
    bad_line c.args.bytes.now c.read_line.result first.0 (sym (first.1 0) ∙ c.in-Some-eq80.field-0-test) c.read_line.ensures

pub returns-in-Some-clause-bad : goal.returns-in-Some-clause-bad
returns-in-Some-clause-bad c =
    let first = c.in-Some.ensures.item.3 in
    bad_block c.args.bytes.now c.read_block.result first.0 (λ same. c.in-Some.field-0-test.1 (first.1 0 ∙ same)) c.read_block.ensures

pub returns-in-Some-clause-none_yet : goal.returns-in-Some-clause-none_yet
returns-in-Some-clause-none_yet c =
    let first = c.in-Some.ensures.item.3 in
    none_yet c.args.bytes.now c.read_block.result (λ same. c.in-Some.field-0-test.1 (first.1 0 ∙ same)) c.read_block.ensures
