use Rattle.std.proofs.Common.{[], ◌∷◌, None, Some, ap, ◌∙◌}
use Rattle.std.specs.Str.{bytes_eq}
use Rattle.std.proofs.lemmas.Bool.Decides.{Decides-eqb}
use Rattle.std.proofs.lemmas.Slice.Eq.{strip_prefix_is}
use Rattle.mounts.proofs.NamedTracks.{rest_and_query}
use Rattle.mounts.proofs.tracks.is_rest_and_query.Goals as goal

pub returns-in_default-strip_prefix : goal.returns-in_default-strip_prefix
returns-in_default-strip_prefix c h =
    strip_prefix_is Decides-eqb c.args.control.now c.args.rest.now None c.in_default-strip_prefix.ensures.cases (63 ∷ h.0) h.2

pub returns : goal.returns
returns c =
    let behind = strip_prefix_is Decides-eqb c.args.control.now c.args.rest.now (Some c.in-Some-strip_prefix.behind) c.in-Some-strip_prefix.ensures.cases in
    let asked = strip_prefix_is Decides-eqb c.in-Some-strip_prefix.behind.now (63 ∷ []) (Some c.in-Some-strip_prefix-2.asked) c.in-Some-strip_prefix-2.ensures.cases in
    rest_and_query c.args.target.now c.args.rest.now c.args.control.now c.in-Some-strip_prefix.behind.now c.in-Some-strip_prefix-2.asked.now c.in-Some.query c.eq.result c.in-Some.is behind asked
    (c.eq.ensures ∙ ap (bytes_eq c.in-Some-strip_prefix-2.asked.now) c.as_slice.ensures)
