-- What a request is answered (RFC 9110).
use Rattle.std.specs.Prelude.{◌≡◌, ◌≤◌, ◌⊎◌, ℕ, Bool, List, [], ◌∷◌, ◌++◌, codes, if◌then◌else◌}
use Rattle.http.specs.declared.request.Request.{Request}
use Rattle.http.specs.Request.{head_of}
use Rattle.http_uri.specs.Uri.{uri_path}
use Rattle.http1.specs.Fields.{Header}
use Rattle.http_server.specs.declared.response.Response.{Response}
use Rattle.http_header.specs.FieldValue.{FieldValue}
use Rattle.http_server.specs.Response.{fields_of}
use Rattle.httpdate.specs.declared.date.HttpDate.{HttpDate}
use Rattle.httpdate.specs.Date.{date_text, unix_secs}
use Rattle.status_answers.specs.declared.page.Page.{Page}
use Rattle.status_answers.specs.declared.page.Text.{Text}
use Rattle.status_answers.specs.declared.asked.Asked.{Asked}
use Rattle.status_answers.specs.declared.asked.Asked.TheVariants as asks
use Rattle.status_answers.specs.declared.answers.Answers.{Answers}
use Rattle.status_answers.specs.Pages.{asked_for, content_type_of}
use Rattle.status_answers.specs.Policies.{loads_nothing}

-- fields, and behind them those of each answer: nobody keeps it (9111, 5.2.2.5), nobody guesses its type, and the connection ends with
-- it (9112, 9.6)
abbrev pub with_common : List Header → List Header
with_common own =
    ((own ++ (codes "cache-control", codes "no-store") ∷ [])
    ++ (codes "x-content-type-options", codes "nosniff") ∷ [])
    ++ (codes "connection", codes "close") ∷ []

-- a value that is the text of this moment, in seconds since the beginning of 1970 (5.6.7)
abbrev pub IsDateAt : (now : ℕ) → FieldValue → Type 0
IsDateAt now value = (date : HttpDate) × (unix_secs date ≡ now) × (value.bytes ≡ date_text date)

-- the fields are these, and behind them the moment (6.6.1), but none after the year 9999
abbrev pub AddsDated : (now : ℕ) → (before fields : List Header) → Type 0
AddsDated now before fields =
    ((value : FieldValue) × IsDateAt now value × (fields ≡ before ++ (codes "date", value.bytes) ∷ []))
    ⊎ ((253402300800 ≤ now) × (fields ≡ before))

-- an answer with this status, these fields of its own and this body, at this moment
pub record Says (now status : ℕ) (own : List Header) (body : List ℕ) (response : Response) : Type 0 where
  pub status_line : response.status ≡ status
  pub fields : AddsDated now (with_common own) (fields_of response)
  pub content : response.body.items ≡ body

-- the type of a body, and what a browser may load and run for it
abbrev pub typed : (kind policy : List ℕ) → List Header
typed kind policy = (codes "content-type", kind) ∷ (codes "content-security-policy", policy) ∷ []

-- the same of a body that isn't a page
abbrev pub plain : List Header
plain = typed (codes "text/plain; charset=utf-8") loads_nothing

-- a page that says that the server works, or that it doesn't (15.6.4)
abbrev pub status_of : (is_well : Bool) → ℕ
status_of is_well = if is_well then 200 else 503

-- what is answered to what was asked for; `shows` says what the text of a page may be
abbrev pub Answered : {P : Type 0} → (P → Page → Text → Type 0) → Answers P → Asked → Response → Type 0
Answered shows answers (asks.Page page) response =
    (text : Text) × shows answers.pages page text
    × Says answers.moment (status_of text.is_well) (typed (content_type_of page) text.policy.now) text.body response
Answered shows answers asks.NoPage response =
    Says answers.moment 404 plain (codes "there is no such page\n") response
Answered shows answers asks.OtherMethod response =
    Says answers.moment 405 ((codes "allow", codes "GET, HEAD") ∷ plain) (codes "a page is asked for by GET or HEAD\n") response

-- what a request is answered, which changes nothing
abbrev pub IsAnswer : {P : Type 0} → (P → Page → Text → Type 0) → Answers P → Request (List ℕ) → Response → Answers P → Type 0
IsAnswer shows old request response new =
    (new ≡ old) × Answered shows old (asked_for (head_of request).method (uri_path (head_of request).uri)) response
