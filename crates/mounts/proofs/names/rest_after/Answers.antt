use Rattle.std.proofs.Common.{◌∷◌, [], None, Some, length, append-nil, sym, ◌∙◌, arith}
use Rattle.std.proofs.lemmas.Bool.Decides.{Decides-eqb}
use Rattle.std.proofs.lemmas.Bool.{eqb-true, eqb-false}
use Rattle.std.proofs.lemmas.Slice.Eq.{strip_prefix_is}
use Rattle.mounts.specs.Names.{GoesOn}
use Rattle.mounts.specs.Uri.{slash}
use Rattle.mounts.proofs.Behind.{behind_slash, no_slash, is_nothing}
use Rattle.mounts.proofs.names.rest_after.Goals as goal

pub returns-in_default-clause-none : goal.returns-in_default-clause-none
returns-in_default-clause-none c rest =
    let apart = strip_prefix_is Decides-eqb c.args.path.now c.args.name.now None c.in_default.ensures.cases in
    elim rest as (λ r. GoesOn c.args.path.now c.args.name.now r → ⊥)
    [ None ↦ (λ e. apart [] (e ∙ sym (append-nil c.args.name.now))) | Some r ↦ (λ e. apart (slash ∷ r) e) ]

pub returns-then-is_empty-clause-some : goal.returns-then-is_empty-clause-some
returns-then-is_empty-clause-some c =
    let joined = strip_prefix_is Decides-eqb c.args.path.now c.args.name.now (Some c.in-Some.behind) c.in-Some.ensures.cases in
    is_nothing c.args.path.now c.args.name.now c.in-Some.behind.now joined (eqb-true (length c.in-Some.behind.now) 0 (sym c.if-is_empty.ensures))

pub returns-then-behind-eq47-clause-some : goal.returns-then-behind-eq47-clause-some
returns-then-behind-eq47-clause-some c =
    let joined = strip_prefix_is Decides-eqb c.args.path.now c.args.name.now (Some c.in-Some.behind) c.in-Some.ensures.cases in
    let some = eqb-false (length c.in-Some.behind.now) 0 (sym c.if-is_empty.ensures) in
    behind_slash c.args.path.now c.args.name.now c.in-Some.behind.now joined (omega (arith, some)) c.if-behind-eq47.true

pub returns-clause-none : goal.returns-clause-none
returns-clause-none c =
    let joined = strip_prefix_is Decides-eqb c.args.path.now c.args.name.now (Some c.in-Some.behind) c.in-Some.ensures.cases in
    let some = eqb-false (length c.in-Some.behind.now) 0 (sym c.if-is_empty.ensures) in
    no_slash c.args.path.now c.args.name.now c.in-Some.behind.now joined (omega (arith, some)) c.if-behind-eq47.false
