use Rattle.std.proofs.Common.{ℕ, length, drop, sym, ap, ◌∙◌}
use Rattle.std.proofs.lemmas.List.{drop-drop}
use Rattle.outgoing.proofs.buffer.put_both.Goals as goal

pub returns-clause-back : goal.returns-clause-back
returns-clause-back c =
    let middle = c.put_at-middle.result in
    let more = length c.args.tail.now in
    let between = c.put_at-middle.new.block in
    c.put_at.ensures.back ∙ ap (λ (n : ℕ). drop n between) c.put_at.ensures.end ∙ sym (drop-drop more middle between)
    ∙ ap (drop more) c.put_at-middle.ensures.back ∙ drop-drop more middle c.args.block.now
    ∙ ap (λ (n : ℕ). drop n c.args.block.now) (sym c.put_at.ensures.end)
