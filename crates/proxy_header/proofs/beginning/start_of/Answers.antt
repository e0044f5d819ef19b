use Rattle.std.proofs.Common.{None, Some, sym, ◌∙◌}
use Rattle.std.proofs.lemmas.Bool.{false≢true}
use Rattle.std.proofs.lemmas.Bool.Decides.{Decides-eqb}
use Rattle.std.proofs.lemmas.Slice.Eq.{strip_prefix_is, starts_is}
use Rattle.proxy_header.proofs.Beginnings.{is_begun, is_other}
use Rattle.proxy_header.proofs.beginning.start_of.Goals as goal

pub returns-in-Some : goal.returns-in-Some
returns-in-Some c = strip_prefix_is Decides-eqb c.args.bytes.now c.args.text.now (Some c.in-Some.rest) c.in-Some.ensures.cases

pub returns-then-starts_with : goal.returns-then-starts_with
returns-then-starts_with c =
    let past = strip_prefix_is Decides-eqb c.args.bytes.now c.args.text.now None c.in_default.ensures.cases in
    let begins = starts_is Decides-eqb c.args.text.now c.args.bytes.now c.starts_with.result c.starts_with.ensures.value in
    is_begun _ _ _ past (begins.0 c.if-starts_with.true)

pub returns-else-starts_with : goal.returns-else-starts_with
returns-else-starts_with c =
    let past = strip_prefix_is Decides-eqb c.args.bytes.now c.args.text.now None c.in_default.ensures.cases in
    let begins = starts_is Decides-eqb c.args.text.now c.args.bytes.now c.starts_with.result c.starts_with.ensures.value in
    is_other _ _ past (λ more e. false≢true (sym c.if-starts_with.false ∙ begins.1 more e))
