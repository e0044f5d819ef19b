use Rattle.std.proofs.Common.{sym, ◌∙◌, subst, ◌≡◌, ◌++◌, ◌∷◌, [], None}
use Rattle.rtsp_message.specs.declared.headers.Header.{Header}
use Rattle.rtsp_message.specs.Knowns.{Tell}
use Rattle.rtsp_message.specs.Lengths.{field_fault}
use Rattle.rtsp_message.proofs.Told.{tell_other, tell_length}
use Rattle.rtsp_message.proofs.judging.judge_line.Goals as goal

pub returns-then-not-is_same_name : goal.returns-then-not-is_same_name
returns-then-not-is_same_name c =
    let header : Header = record { name = c.in-Some.parts.name.now; value = c.in-Some.parts.value.now } in
    (header, c.in-Some.ensures.some, λ before p. tell_other before header c.args.told (sym c.is_same_name.ensures ∙ c.if-not-is_same_name.true) p)

pub returns-in-None : goal.returns-in-None
returns-in-None c =
    let header : Header = record { name = c.in-Some.parts.name.now; value = c.in-Some.parts.value.now } in (
      header,
      c.in-Some.ensures.some,
      λ before p. subst (λ told. (field_fault before header ≡ None) × Tell (before ++ header ∷ []) told) (sym c.read_number.ensures)
          (tell_length before header c.args.told (sym c.is_same_name.ensures ∙ c.if-not-is_same_name.false) (sym c.length_fault.ensures ∙ c.in-None.is) p),
    )
