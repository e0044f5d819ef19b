-- Tokens (RFC 7230, 3.2.6: token; RFC 2326, 15.1 has the same characters).
use Rattle.std.specs.Prelude.{ℕ, ◌==◌, ◌||◌, Bool, List, take, drop, codes}
use Rattle.std.specs.Char.{is_ascii_alphanumeric}
use Rattle.std.specs.List.{list_any, prefix_len}
use Rattle.base_syntax.specs.Blanks.{trimmed}

-- tchar: a letter, a digit, or one of these marks
unfoldable pub token_marks : List ℕ
token_marks = codes "!#$%&'*+-.^_`|~"

abbrev pub is_token_byte : ℕ → Bool
is_token_byte byte = is_ascii_alphanumeric byte || list_any (λ mark. mark == byte) token_marks

-- the token at the start of a text, which can be empty, and what is after it, without blanks at its ends
abbrev pub word_of : List ℕ → List ℕ
word_of text = take (prefix_len is_token_byte text) text

abbrev pub behind_word : List ℕ → List ℕ
behind_word text = trimmed (drop (prefix_len is_token_byte text) text)
