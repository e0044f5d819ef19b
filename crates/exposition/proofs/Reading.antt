-- What is written reads back, and has no line feed.
use Rattle.std.proofs.Common.{◌≡◌, ◌≢◌, ℕ, false, List, [], ◌∷◌, ◌++◌, Option, None, Some, All, IsUtf8, refl, sym, ap, subst, ◌∙◌, ⊎_elim, append_assoc, arith, eq-eqb}
use Rattle.std.proofs.lemmas.Bool.{cond-true}
use Rattle.std.proofs.lemmas.Bool.Decides.{eqb_tells}
use Rattle.std.proofs.lemmas.List.Elements.{All-nil, All-cons, All-append}
use Rattle.std.proofs.lemmas.Str.{utf8_lossy-IsUtf8}
use Rattle.std.specs.List.{flat_map}
use Rattle.std.specs.Option.{option_map}
use Rattle.std.specs.Str.Lossy.{utf8_lossy}
use Rattle.exposition.specs.Exposition.{line_feed, double_quote, backslash, help_byte, help_text, value_byte, label_text}
use Rattle.exposition.specs.Reading.{Read, after_byte, read_from, read_until, IsInLine}

-- a byte of a help text is read as itself
help_read : (byte : ℕ) (bytes : List ℕ) → read_from line_feed false (help_byte byte ++ bytes) ≡ option_map (after_byte byte) (read_from line_feed false bytes)
help_read byte bytes =
    let P : ℕ → Type 0 = λ b. read_from line_feed false (help_byte b ++ bytes) ≡ option_map (after_byte b) (read_from line_feed false bytes) in
    ⊎_elim
    (λ slash. subst P (sym slash.1) refl)
    (λ no_slash. ⊎_elim
    (λ feed. subst P (sym feed.1) refl)
    (λ no_feed. simp (no_slash.0, no_feed.0) refl)
    (eqb_tells byte line_feed))
    (eqb_tells byte backslash)

-- a byte of a label's value is read as itself
value_read : (byte : ℕ) (bytes : List ℕ) → read_from double_quote false (value_byte byte ++ bytes) ≡ option_map (after_byte byte) (read_from double_quote false bytes)
value_read byte bytes =
    let P : ℕ → Type 0 = λ b. read_from double_quote false (value_byte b ++ bytes) ≡ option_map (after_byte b) (read_from double_quote false bytes) in
    ⊎_elim
    (λ quote. subst P (sym quote.1) refl)
    (λ no_quote. ⊎_elim
    (λ slash. subst P (sym slash.1) refl)
    (λ no_slash. ⊎_elim
    (λ feed. subst P (sym feed.1) refl)
    (λ no_feed. simp (no_quote.0, no_slash.0, no_feed.0) refl)
    (eqb_tells byte line_feed))
    (eqb_tells byte backslash))
    (eqb_tells byte double_quote)

-- a text whose bytes are read as themselves is read up to the byte that ends it
text_reads : (end : ℕ) (write : ℕ → List ℕ)
    → ((byte : ℕ) (bytes : List ℕ) → read_from end false (write byte ++ bytes) ≡ option_map (after_byte byte) (read_from end false bytes))
    → (text rest : List ℕ) → read_from end false (flat_map write text ++ end ∷ rest) ≡ Some (record { text = text; rest = rest })
text_reads end write each [] rest = cond-true _ _ _ (eq-eqb end end refl)
text_reads end write each (byte ∷ bytes) rest =
    ap (read_from end false) (append_assoc (write byte) (flat_map write bytes) (end ∷ rest))
    ∙ each byte (flat_map write bytes ++ end ∷ rest)
    ∙ ap (option_map (after_byte byte)) (text_reads end write each bytes rest)

pub value_reads : (value rest : List ℕ) → read_until double_quote (label_text value ++ double_quote ∷ rest) ≡ Some (record { text = utf8_lossy value; rest = rest })
value_reads value rest = text_reads double_quote value_byte value_read (utf8_lossy value) rest

pub help_reads : (help rest : List ℕ) → read_until line_feed (help_text help ++ line_feed ∷ rest) ≡ Some (record { text = help; rest = rest })
help_reads help rest = text_reads line_feed help_byte help_read help rest

-- the text that was read
abbrev pub text_of : Option Read → List ℕ
text_of None = []
text_of (Some read) = read.text

pub same_text : (a b : List ℕ) → label_text a ≡ label_text b → utf8_lossy a ≡ utf8_lossy b
same_text a b same =
    ap text_of (sym (value_reads a []) ∙ ap (λ (t : List ℕ). read_until double_quote (t ++ double_quote ∷ [])) same ∙ value_reads b [])

pub same_value : (a b : List ℕ) → IsUtf8 a → IsUtf8 b → label_text a ≡ label_text b → a ≡ b
same_value a b one other same = sym (utf8_lossy-IsUtf8 a one) ∙ same_text a b same ∙ utf8_lossy-IsUtf8 b other

-- the bytes after a text that was read
abbrev pub rest_of : Option Read → List ℕ
rest_of None = []
rest_of (Some read) = read.rest

abbrev IsNoFeed : ℕ → Type 0
IsNoFeed byte = byte ≢ line_feed

-- a backslash and one more byte
escape_line : (byte : ℕ) → IsNoFeed byte → All IsNoFeed (92 ∷ byte ∷ [])
escape_line byte other = All-cons IsNoFeed 92 (byte ∷ []) (λ e. omega arith) (All-cons IsNoFeed byte [] other (All-nil IsNoFeed))

help_byte_line : (byte : ℕ) → All IsNoFeed (help_byte byte)
help_byte_line byte =
    let P : ℕ → Type 0 = λ b. All IsNoFeed (help_byte b) in
    ⊎_elim
    (λ slash. subst P (sym slash.1) (escape_line 92 (λ e. omega arith)))
    (λ no_slash. ⊎_elim
    (λ feed. subst P (sym feed.1) (escape_line 110 (λ e. omega arith)))
    (λ no_feed. simp (no_slash.0, no_feed.0) (All-cons IsNoFeed byte [] no_feed.1 (All-nil IsNoFeed)))
    (eqb_tells byte line_feed))
    (eqb_tells byte backslash)

value_byte_line : (byte : ℕ) → All IsNoFeed (value_byte byte)
value_byte_line byte =
    let P : ℕ → Type 0 = λ b. All IsNoFeed (value_byte b) in
    ⊎_elim
    (λ quote. subst P (sym quote.1) (escape_line 34 (λ e. omega arith)))
    (λ no_quote. rw no_quote.0 (help_byte_line byte))
    (eqb_tells byte double_quote)

text_line : (write : ℕ → List ℕ) → ((byte : ℕ) → All IsNoFeed (write byte)) → (text : List ℕ) → All IsNoFeed (flat_map write text)
text_line write each [] = All-nil IsNoFeed
text_line write each (byte ∷ bytes) = All-append IsNoFeed (write byte) (flat_map write bytes) (each byte) (text_line write each bytes)

pub value_in_line : (value : List ℕ) → IsInLine (label_text value)
value_in_line value = text_line value_byte value_byte_line (utf8_lossy value)

pub help_in_line : (help : List ℕ) → IsInLine (help_text help)
help_in_line help = text_line help_byte help_byte_line help
