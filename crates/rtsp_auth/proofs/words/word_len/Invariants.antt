use Rattle.std.proofs.Common.{◌≡◌, ◌<◌, ℕ, get_or, true}
use Rattle.rtsp_auth.specs.Words.{is_token_byte}
use Rattle.rtsp_auth.proofs.words.word_len.Given as goal

-- each byte so far may be in a token
abbrev pub invariant-loop-i : goal.invariant-loop-i
invariant-loop-i l = (k : ℕ) → k < l.i → is_token_byte (get_or l.text k 0) ≡ true
