-- What the fields of a client's request tell a server.
use Rattle.std.proofs.Common.{◌≡◌, ℕ, List, [], ◌∷◌, ◌++◌, Option, None, Some, codes, decimal, refl}
use Rattle.std.specs.Option.{option_copied, option_map}
use Rattle.rtsp_message.specs.declared.headers.Header.{Header}
use Rattle.rtsp_message.specs.Headers.{value_of}
use Rattle.request_text.specs.declared.asked.Asked.{Asked}
use Rattle.request_text.specs.declared.asked.Asked.TheVariants as asks
use Rattle.request_text.specs.declared.request_text.RequestText.{RequestText}
use Rattle.request_text.specs.Fields.{accept_field, general_fields, given_field, header, length_field, range_field, type_field}
use Rattle.request_text.specs.Methods.{description_of, transport_of}
use Rattle.request_text.specs.Texts.{request_of}

-- the fields of a request, of what it is made of
abbrev fields : Asked → (number : ℕ) → (session authorization : Option (List ℕ)) → List Header
fields asked number session authorization =
    (((header (codes "CSeq") (decimal number) ∷ header (codes "User-Agent") (codes "Vasklun/0.1") ∷ []) ++ (accept_field asked ++ given_field (codes "Transport") (transport_of asked)))
    ++ (given_field (codes "Session") session ++ (range_field asked ++ (given_field (codes "Authorization") authorization ++ type_field (description_of asked)))))
    ++ length_field (description_of asked)

-- The values of the fields that a server looks up: no Require, and as Content-Type that of a description, if there is one.
pub record Tell (headers : List Header) (asked : Asked) (session : Option (List ℕ)) : Type 0 where
  pub require : value_of headers (codes "Require") ≡ None
  pub session_is : value_of headers (codes "Session") ≡ session
  pub transport_is : value_of headers (codes "Transport") ≡ transport_of asked
  pub type_is : value_of headers (codes "Content-Type") ≡ option_map (λ (description : List ℕ). codes "application/sdp") (description_of asked)

told : (asked : Asked) (number : ℕ) (session authorization : Option (List ℕ)) → Tell (fields asked number session authorization) asked session
told asks.Options number None None = record { require = refl; session_is = refl; transport_is = refl; type_is = refl }
told asks.Options number None (Some authorization) = record { require = refl; session_is = refl; transport_is = refl; type_is = refl }
told asks.Options number (Some session) None = record { require = refl; session_is = refl; transport_is = refl; type_is = refl }
told asks.Options number (Some session) (Some authorization) = record { require = refl; session_is = refl; transport_is = refl; type_is = refl }
told asks.Describe number None None = record { require = refl; session_is = refl; transport_is = refl; type_is = refl }
told asks.Describe number None (Some authorization) = record { require = refl; session_is = refl; transport_is = refl; type_is = refl }
told asks.Describe number (Some session) None = record { require = refl; session_is = refl; transport_is = refl; type_is = refl }
told asks.Describe number (Some session) (Some authorization) = record { require = refl; session_is = refl; transport_is = refl; type_is = refl }
told (asks.Announce description) number None None = record { require = refl; session_is = refl; transport_is = refl; type_is = refl }
told (asks.Announce description) number None (Some authorization) = record { require = refl; session_is = refl; transport_is = refl; type_is = refl }
told (asks.Announce description) number (Some session) None = record { require = refl; session_is = refl; transport_is = refl; type_is = refl }
told (asks.Announce description) number (Some session) (Some authorization) = record { require = refl; session_is = refl; transport_is = refl; type_is = refl }
told (asks.Setup transport) number None None = record { require = refl; session_is = refl; transport_is = refl; type_is = refl }
told (asks.Setup transport) number None (Some authorization) = record { require = refl; session_is = refl; transport_is = refl; type_is = refl }
told (asks.Setup transport) number (Some session) None = record { require = refl; session_is = refl; transport_is = refl; type_is = refl }
told (asks.Setup transport) number (Some session) (Some authorization) = record { require = refl; session_is = refl; transport_is = refl; type_is = refl }
told asks.Record number None None = record { require = refl; session_is = refl; transport_is = refl; type_is = refl }
told asks.Record number None (Some authorization) = record { require = refl; session_is = refl; transport_is = refl; type_is = refl }
told asks.Record number (Some session) None = record { require = refl; session_is = refl; transport_is = refl; type_is = refl }
told asks.Record number (Some session) (Some authorization) = record { require = refl; session_is = refl; transport_is = refl; type_is = refl }
told asks.Play number None None = record { require = refl; session_is = refl; transport_is = refl; type_is = refl }
told asks.Play number None (Some authorization) = record { require = refl; session_is = refl; transport_is = refl; type_is = refl }
told asks.Play number (Some session) None = record { require = refl; session_is = refl; transport_is = refl; type_is = refl }
told asks.Play number (Some session) (Some authorization) = record { require = refl; session_is = refl; transport_is = refl; type_is = refl }
told asks.GetParameter number None None = record { require = refl; session_is = refl; transport_is = refl; type_is = refl }
told asks.GetParameter number None (Some authorization) = record { require = refl; session_is = refl; transport_is = refl; type_is = refl }
told asks.GetParameter number (Some session) None = record { require = refl; session_is = refl; transport_is = refl; type_is = refl }
told asks.GetParameter number (Some session) (Some authorization) = record { require = refl; session_is = refl; transport_is = refl; type_is = refl }
told asks.Teardown number None None = record { require = refl; session_is = refl; transport_is = refl; type_is = refl }
told asks.Teardown number None (Some authorization) = record { require = refl; session_is = refl; transport_is = refl; type_is = refl }
told asks.Teardown number (Some session) None = record { require = refl; session_is = refl; transport_is = refl; type_is = refl }
told asks.Teardown number (Some session) (Some authorization) = record { require = refl; session_is = refl; transport_is = refl; type_is = refl }

pub fields_tell : (request : RequestText) → Tell (request_of request).headers request.asked (option_copied request.session)
unfolding general_fields
fields_tell request = told request.asked request.number (option_copied request.session) (option_copied request.authorization)
