-- The words in session identifiers, as the command line writes them, and how a talk without words is told.
use Rattle.std.specs.Prelude.{◌≡◌, ℕ, List, Ok, IsErr, codes}
use Rattle.std.specs.Int.{from_be_bytes, w32}
use Rattle.hex.specs.Hex.{decode_sized}
use Rattle.session_words.specs.declared.words.NoWords.{NoWords}
use Rattle.session_words.specs.declared.words.NoWords.TheVariants.{BadWord, NoRandomSource}

-- eight hexadecimal digits of either case are a word
abbrev pub IsWord : List ℕ → ℕ → Type 0
IsWord text word = (bytes : List ℕ) × (decode_sized text 4 ≡ Ok bytes) × (word ≡ from_be_bytes w32 bytes)

abbrev pub IsNoWord : List ℕ → Type 0
IsNoWord text = IsErr (decode_sized text 4)

-- the exit status of a talk without words
abbrev pub no_words_status : NoWords → ℕ
no_words_status BadWord = 2
no_words_status NoRandomSource = 1

-- the line on standard error after it
abbrev pub no_words_line : NoWords → List ℕ
no_words_line BadWord = codes "relay: bad word"
no_words_line NoRandomSource = codes "relay: no random source"
