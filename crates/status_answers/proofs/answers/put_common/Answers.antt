use Rattle.std.proofs.Common.{◌≡◌, ◌∙◌, ◌∷◌, [], ◌++◌, ap, subst}
use Rattle.std.proofs.lemmas.Result.{on_ok_weaker}
use Rattle.std.specs.Prelude.{codes}
use Rattle.http_server.specs.Response.{fields_of}
use Rattle.status_answers.specs.Answers.{AddsDated, with_common}
use Rattle.status_answers.proofs.answers.put_common.Goals as goal

pub returns-clause-fields : goal.returns-clause-fields
returns-clause-fields c =
    let first : fields_of c.add_header.new.self ≡ fields_of c.args.response.now ++ (codes "cache-control", codes "no-store") ∷ [] =
    c.in_ok-add_header.ensures.headers
    ∙ ap (λ value. fields_of c.args.response.now ++ (codes "cache-control", value.bytes) ∷ []) c.from_static-no_store.ensures in
    let second : fields_of c.add_header-2.new.self ≡ fields_of c.add_header.new.self ++ (codes "x-content-type-options", codes "nosniff") ∷ [] =
    c.in_ok-add_header-2.ensures.headers
    ∙ ap (λ value. fields_of c.add_header.new.self ++ (codes "x-content-type-options", value.bytes) ∷ []) c.from_static-no_sniff.ensures in
    let third : fields_of c.add_header-3.new.self ≡ fields_of c.add_header-2.new.self ++ (codes "connection", codes "close") ∷ [] =
    c.in_ok-add_header-3.ensures.headers
    ∙ ap (λ value. fields_of c.add_header-2.new.self ++ (codes "connection", value.bytes) ∷ []) c.from_static.ensures in
    let all : fields_of c.add_header-3.new.self ≡ with_common (fields_of c.args.response.now) =
    third
    ∙ ap (λ before. before ++ (codes "connection", codes "close") ∷ [])
    (second ∙ ap (λ before. before ++ (codes "x-content-type-options", codes "nosniff") ∷ []) first) in
    on_ok_weaker _ (λ dated. subst (λ before. AddsDated c.args.now before (fields_of c.put_date.new.response)) all dated) c.put_date.ensures.fields
