use Rattle.std.proofs.Common.{◌≡◌, ℕ, List, codes, IsUtf8, refl, ap}
use Rattle.std.proofs.lemmas.Str.{utf8_lossy-IsUtf8}
use Rattle.std.specs.Fmt.{digits}
use Rattle.std.specs.List.{flat_map}
use Rattle.std.specs.Str.{chars, is_utf8}
use Rattle.std.specs.Str.Lossy.{utf8_lossy, utf8_valid_len, utf8_error_len}
use lib.Utf8.{encode}
use Rattle.exposition.specs.Exposition.{label_text, value_byte}
use Rattle.exposition.proofs.laws.rows.Goals as goal

-- a text of UTF-8 stays as it is
plain : (text : List ℕ) → IsUtf8 text → label_text text ≡ flat_map value_byte text
plain text utf8 = ap (flat_map value_byte) (utf8_lossy-IsUtf8 text utf8)

pub returns-clause-backslash : goal.returns-clause-backslash
unfolding encode
returns-clause-backslash c = plain (codes "a\\b") (codes "a\\b", (refl, refl))

pub returns-clause-quote : goal.returns-clause-quote
unfolding encode
returns-clause-quote c = plain (codes "cam\"1") (codes "cam\"1", (refl, refl))

pub returns-clause-line_feed : goal.returns-clause-line_feed
unfolding encode
returns-clause-line_feed c = plain (codes "a\nb") (codes "a\nb", (refl, refl))

pub returns-clause-not_utf8 : goal.returns-clause-not_utf8
unfolding chars is_utf8 utf8_lossy utf8_valid_len utf8_error_len
returns-clause-not_utf8 c = refl

pub returns-clause-cut_short : goal.returns-clause-cut_short
unfolding chars is_utf8 utf8_lossy utf8_valid_len utf8_error_len
returns-clause-cut_short c = refl

pub returns-clause-zero : goal.returns-clause-zero
unfolding digits
returns-clause-zero c = refl

pub returns-clause-most : goal.returns-clause-most
unfolding digits
returns-clause-most c = refl

pub returns-clause-seconds : goal.returns-clause-seconds
unfolding digits
returns-clause-seconds c = refl

pub returns-clause-whole : goal.returns-clause-whole
unfolding digits
returns-clause-whole c = refl

pub returns-clause-labels : goal.returns-clause-labels
unfolding digits encode
returns-clause-labels c =
    let mount : utf8_lossy (codes "cam\"1") ≡ codes "cam\"1" = utf8_lossy-IsUtf8 _ (codes "cam\"1", (refl, refl)) in
    let kind : utf8_lossy (codes "a\\b") ≡ codes "a\\b" = utf8_lossy-IsUtf8 _ (codes "a\\b", (refl, refl)) in
    rw (mount, kind) refl

pub returns-clause-head : goal.returns-clause-head
returns-clause-head c = refl
