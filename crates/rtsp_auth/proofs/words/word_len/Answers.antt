use Rattle.std.proofs.Common.{arith, sym, ◌∙◌}
use Rattle.std.proofs.lemmas.List.Sums.{prefix_len_is}
use Rattle.rtsp_auth.specs.Words.{is_token_byte}
use Rattle.rtsp_auth.proofs.words.word_len.Goals as goal

pub returns-then-not-is_token_byte-clause-count : goal.returns-then-not-is_token_byte-clause-count
returns-then-not-is_token_byte-clause-count c =
    sym (prefix_len_is is_token_byte c.args.text.now c.loop-i.i 0 (omega arith) c.loop-i.invariant (λ _. sym c.is_token_byte.ensures ∙ c.if-not-is_token_byte.true))

pub returns-clause-count : goal.returns-clause-count
returns-clause-count c =
    sym (prefix_len_is is_token_byte c.args.text.now _ 0 (omega arith) (λ k below. c.loop-i.invariant k (omega arith)) (λ less. absurd (omega arith)))
