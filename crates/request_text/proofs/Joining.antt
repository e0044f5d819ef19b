-- The text of fields, part after part.
use Rattle.std.proofs.Common.{◌≡◌, ℕ, List, [], ◌∷◌, ◌++◌, Some, codes, decimal, ap, append-nil}
use Rattle.std.specs.List.{flat_map}
use Rattle.std.proofs.lemmas.List.Concat.{flat_map-append}
use Rattle.rtsp_message.specs.declared.headers.Header.{Header}
use Rattle.request_text.specs.declared.request_text.RequestText.{RequestText}
use Rattle.request_text.specs.Fields.{field_text, general_fields, header, type_field}

pub fields_append : (front back : List Header) → flat_map field_text (front ++ back) ≡ flat_map field_text front ++ flat_map field_text back
fields_append front back = flat_map-append field_text front back

pub one_field : (field : Header) → flat_map field_text (field ∷ []) ≡ field_text field
one_field field = append-nil (field_text field)

pub general_text : (request : RequestText) → flat_map field_text (general_fields request) ≡ field_text (header (codes "CSeq") (decimal request.number)) ++ field_text (header (codes "User-Agent") (codes "Vasklun/0.1"))
unfolding general_fields
general_text request =
    ap (λ (l : List ℕ). field_text (header (codes "CSeq") (decimal request.number)) ++ l) (append-nil (field_text (header (codes "User-Agent") (codes "Vasklun/0.1"))))

pub type_text : (description : List ℕ) → flat_map field_text (type_field (Some description)) ≡ field_text (header (codes "Content-Type") (codes "application/sdp"))
type_text description = append-nil (field_text (header (codes "Content-Type") (codes "application/sdp")))
