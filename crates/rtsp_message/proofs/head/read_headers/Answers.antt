use Rattle.std.proofs.Common.{subst, MatchResult, None, ◌≡◌, length, sym}
use Rattle.std.proofs.lemmas.Bool.{eqb-true}
use Rattle.std.proofs.lemmas.List.{nil_from_length}
use Rattle.rtsp_message.specs.Lines.{IsHeaderLine}
use Rattle.rtsp_message.specs.Heads.{IsBadHeader}
use Rattle.rtsp_message.specs.Lengths.{field_fault}
use Rattle.rtsp_message.proofs.Blocks.{fields_more, fields_end, fields_break}
use Rattle.rtsp_message.proofs.head.read_headers.Goals as goal

pub returns-then-is_empty : goal.returns-then-is_empty
returns-then-is_empty c =
    fields_end c.loop-line.invariant c.in-Some.ensures.some (nil_from_length c.in-Some.line.now (eqb-true (length c.in-Some.line.now) 0 (sym c.if-is_empty.ensures)))

pub returns-in-Err : goal.returns-in-Err
returns-in-Err c = fields_break c.loop-line.invariant c.in-Some.ensures.some (subst (λ read. MatchResult read (λ header. IsHeaderLine c.in-Some.line.now header × (field_fault c.loop-line.headers header ≡ None)) (IsBadHeader c.loop-line.headers c.in-Some.line.now)) c.in-Err.is c.in_ok-header.ensures)

pub loop-line-preserved : goal.loop-line-preserved
loop-line-preserved c =
    let read = subst (λ read. MatchResult read (λ header. IsHeaderLine c.in-Some.line.now header × (field_fault c.loop-line.headers header ≡ None)) (IsBadHeader c.loop-line.headers c.in-Some.line.now)) c.in-Ok.is c.in_ok-header.ensures in
    rw c.in_ok-push-in-Ok.ensures.ok (fields_more c.loop-line.invariant c.in-Some.ensures.some read.0 read.1)
