use Rattle.std.proofs.Common.{ℕ, List, ◌+◌, ◌≤◌, ◌∷◌, ◌++◌, length, take, get_or, ap, sym, subst, ◌∙◌, arith}
use Rattle.proxy_header.specs.Blocks.{IsBlock, signature}
use Rattle.proxy_header.specs.Readings.{IsReadBlock}
use Rattle.proxy_header.specs.declared.header.Reading.TheVariants.{NeedMore}
use Rattle.proxy_header.proofs.Blocks.{is_block, need_body, need_high, need_low, too_short}
use Rattle.proxy_header.proofs.Lists.{others, uncons_two}
use Rattle.proxy_header.proofs.block.read_body.Goals as goal

pub returns-in_default : goal.returns-in_default
returns-in_default c command family contains = need_high command family c.args.rest.now c.args.content contains c.in_default.len_below

pub returns-in_default-rest : goal.returns-in_default-rest
returns-in_default-rest c command family contains =
    need_low command family c.args.rest.now c.args.content contains c.in-len1-up.len_at_least c.in_default-rest.len_below (omega (arith, c.if-from-gt-MOST_HEADER.false, c.from.ensures))

pub returns-then-len-least : goal.returns-then-len-least
returns-then-len-least c command family contains more front after client e p =
    let rest = c.args.rest.now in
    let whole = uncons_two rest c.in-len1-up.len_at_least c.in-len1-up-rest.len_at_least in
    too_short command family (get_or rest 0 0) (get_or (others rest) 0 0) _ c.args.content contains (omega (arith, c.if-len-least.true, c.least.ensures, c.from-len.ensures, c.from_be_bytes.ensures))
    front after client (ap (λ (l : List ℕ). signature ++ command ∷ family ∷ (l ++ more)) (sym whole) ∙ e) p

pub returns-then-body-len : goal.returns-then-body-len
returns-then-body-len c command family contains =
    let rest = c.args.rest.now in
    let whole = uncons_two rest c.in-len1-up.len_at_least c.in-len1-up-rest.len_at_least in
    subst (λ (l : List ℕ). IsReadBlock (signature ++ command ∷ family ∷ l) NeedMore) (sym whole)
    (need_body command family (get_or rest 0 0) (get_or (others rest) 0 0) _ c.args.content contains (omega (arith, c.from-len.ensures, c.from_be_bytes.ensures))
    (omega (arith, c.if-len-least.false, c.least.ensures, c.from-len.ensures, c.from_be_bytes.ensures)) (omega (arith, c.from-len.ensures, c.from_be_bytes.ensures)))

pub returns : goal.returns
returns c command family contains =
    let rest = c.args.rest.now in
    let whole = uncons_two rest c.in-len1-up.len_at_least c.in-len1-up-rest.len_at_least in
    let len : ℕ = c.from-len.result in
    subst (λ (l : List ℕ). (16 + len ≤ length (signature ++ command ∷ family ∷ l)) × IsBlock (take (16 + len) (signature ++ command ∷ family ∷ l)) c.client_of.result) (sym whole)
    (is_block command family (get_or rest 0 0) (get_or (others rest) 0 0) len _ c.args.content c.client_of.result contains (omega (arith, c.from-len.ensures, c.from_be_bytes.ensures))
    (omega arith) (omega (arith, c.if-len-least.false, c.least.ensures)) (omega arith) c.client_of.ensures)
