use Rattle.std.proofs.Common.{◌≡◌, ◌∙◌, ◌++◌, ap, subst}
use Rattle.std.proofs.lemmas.Result.{on_ok_weaker}
use Rattle.http_server.specs.Response.{fields_of}
use Rattle.status_answers.specs.declared.asked.Asked.TheVariants as asks
use Rattle.status_answers.specs.Pages.{content_type_of}
use Rattle.status_answers.specs.Answers.{AddsDated, Answered, typed, with_common}
use Rattle.status_answers.proofs.answers.Answers.put_page.Goals as goal

pub returns : goal.returns
returns g c =
    let text = c.in_ok-text.text in
    let own : fields_of c.put_typed.new.response ≡ typed (content_type_of c.args.page) text.policy.now =
    c.in_ok-put_typed.ensures.fields
    ∙ ap (λ before. before ++ typed c.content_type.result.now text.policy.now) c.requires.headers
    ∙ ap (λ kind. typed kind text.policy.now) c.content_type.ensures in
    on_ok_weaker
    {Q = Answered g.P.Pages.shows c.args.self.now (asks.Page c.args.page)
    (record { status = c.status_of-response.result; headers = c.put_common.new.response.headers; body = c.push.new.self })}
    _
    (λ pushed. (
      text,
      c.in_ok-text.ensures,
      record {
        status_line = c.status_of-response.ensures;
        fields = subst (λ before. AddsDated c.args.self.now.moment (with_common before) (fields_of c.put_common.new.response)) own c.in_ok-put_common.ensures.fields;
        content = pushed
            ∙ ap (λ before. before.items ++ text.body) (c.put_common.ensures.body ∙ c.put_typed.ensures.body)
            ∙ ap (λ before. before ++ text.body) c.requires.body;
      },
    ))
    c.push.ensures
