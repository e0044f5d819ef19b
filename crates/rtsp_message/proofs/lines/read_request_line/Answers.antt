use Rattle.std.proofs.Common.{refl}
use Rattle.rtsp_message.specs.declared.byte_class.ByteClass.TheVariants.{Token, Visible, Space, Blank}
use Rattle.rtsp_message.proofs.Runs.{no_run, not_each}
use Rattle.rtsp_message.proofs.RequestLines.{after_method, after_first_gap, after_uri, after_second_gap, method_cut, first_gap_cut, uri_cut, second_gap_cut, version_cut, same_cut}
use Rattle.rtsp_message.proofs.lines.read_request_line.Goals as goal

pub returns-in_err-method-clause-none : goal.returns-in_err-method-clause-none
returns-in_err-method-clause-none c = rw c.from_residual.ensures (λ m u v q.
    no_run Token c.args.line.now m (after_method q) c.in_err-method.ensures.none q.method_bytes q.whole)

pub returns-in_err-rest-clause-none : goal.returns-in_err-rest-clause-none
returns-in_err-rest-clause-none c = rw c.from_residual-in_err-rest.ensures (λ m u v q.
    let method = same_cut refl c.in_ok-method.ensures.some (method_cut q) in
    no_run Space c.in_ok-method.rest.now q.first_gap (after_first_gap q) c.in_err-rest.ensures.none q.first_spaces method.1)

pub returns-in_err-uri-clause-none : goal.returns-in_err-uri-clause-none
returns-in_err-uri-clause-none c = rw c.from_residual-in_err-uri.ensures (λ m u v q.
    let method = same_cut refl c.in_ok-method.ensures.some (method_cut q) in
    let gap = same_cut method.1 c.in_ok-rest.ensures.some (first_gap_cut q) in
    no_run Visible c.in_ok-rest.rest.now u (after_uri q) c.in_err-uri.ensures.none q.uri_bytes gap.1)

pub returns-in_err-rest-2-clause-none : goal.returns-in_err-rest-2-clause-none
returns-in_err-rest-2-clause-none c = rw c.from_residual-in_err-rest-2.ensures (λ m u v q.
    let method = same_cut refl c.in_ok-method.ensures.some (method_cut q) in
    let gap = same_cut method.1 c.in_ok-rest.ensures.some (first_gap_cut q) in
    let uri = same_cut gap.1 c.in_ok-uri.ensures.some (uri_cut q) in
    no_run Space c.in_ok-uri.rest.now q.second_gap (after_second_gap q) c.in_err-rest-2.ensures.none q.second_spaces uri.1)

pub returns-in_err-version-clause-none : goal.returns-in_err-version-clause-none
returns-in_err-version-clause-none c = rw c.from_residual-in_err-version.ensures (λ m u v q.
    let method = same_cut refl c.in_ok-method.ensures.some (method_cut q) in
    let gap = same_cut method.1 c.in_ok-rest.ensures.some (first_gap_cut q) in
    let uri = same_cut gap.1 c.in_ok-uri.ensures.some (uri_cut q) in
    let second = same_cut uri.1 c.in_ok-rest-2.ensures.some (second_gap_cut q) in
    no_run Visible c.in_ok-rest-2.rest.now v q.tail c.in_err-version.ensures.none q.version_bytes second.1)

pub returns-then-leading-tail-clause-none : goal.returns-then-leading-tail-clause-none
returns-then-leading-tail-clause-none c m u v q =
    let method = same_cut refl c.in_ok-method.ensures.some (method_cut q) in
    let gap = same_cut method.1 c.in_ok-rest.ensures.some (first_gap_cut q) in
    let uri = same_cut gap.1 c.in_ok-uri.ensures.some (uri_cut q) in
    let second = same_cut uri.1 c.in_ok-rest-2.ensures.some (second_gap_cut q) in
    let version = same_cut second.1 c.in_ok-version.ensures.some (version_cut q) in
    not_each Blank c.in_ok-version.tail.now c.leading.result c.if-leading-tail.true (c.leading.ensures.stop c.if-leading-tail.true) (rw version.1 q.tail_blank)
