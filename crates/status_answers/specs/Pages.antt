-- The pages of a status listener, and what a request asks for (RFC 9110).
use Rattle.std.specs.Prelude.{ℕ, Bool, ◌||◌, List, Option, None, Some, codes, if◌then◌else◌}
use Rattle.std.specs.Str.{bytes_eq}
use Rattle.status_answers.specs.declared.page.Page.{Page}
use Rattle.status_answers.specs.declared.page.Page.TheVariants.{Overview, Metrics, Figures, Health}
use Rattle.status_answers.specs.declared.asked.Asked.{Asked}
use Rattle.status_answers.specs.declared.asked.Asked.TheVariants as asks

-- the media type of a page (RFC 9110, 8.3)
abbrev pub content_type_of : Page → List ℕ
content_type_of Overview = codes "text/html; charset=utf-8"
content_type_of Metrics = codes "text/plain; version=0.0.4; charset=utf-8"
content_type_of Figures = codes "application/json"
content_type_of Health = codes "text/plain; charset=utf-8"

-- the page at a path
abbrev pub page_at : (path : List ℕ) → Option Page
page_at path =
    if bytes_eq path (codes "/") then Some Overview
    else if bytes_eq path (codes "/metrics") then Some Metrics
    else if bytes_eq path (codes "/status.json") then Some Figures
    else if bytes_eq path (codes "/health") then Some Health
    else None

-- the methods that read (RFC 9110, 9.3)
abbrev pub reads : (method : List ℕ) → Bool
reads method = bytes_eq method (codes "GET") || bytes_eq method (codes "HEAD")

-- what a method asks for at a path where this page is, or none
abbrev pub asked_of : (method : List ℕ) → Option Page → Asked
asked_of method None = asks.NoPage
asked_of method (Some page) = if reads method then asks.Page page else asks.OtherMethod

-- what a request asks for
abbrev pub asked_for : (method path : List ℕ) → Asked
asked_for method path = asked_of method (page_at path)
