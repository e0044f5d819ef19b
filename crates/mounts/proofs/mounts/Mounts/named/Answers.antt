use Rattle.std.proofs.Common.{length, sym, refl, ap, arith, ◌∙◌}
use Rattle.std.specs.Option.{option_copied}
use Rattle.std.proofs.lemmas.Option.{slice_get_read}
use Rattle.mounts.specs.Mounts.{named}
use Rattle.mounts.proofs.Indexed.{named_at, named_nowhere}
use Rattle.mounts.proofs.mounts.Mounts.named.Goals as goal

pub returns-in_err-place : goal.returns-in_err-place
returns-in_err-place c =
    ap option_copied c.from_residual.ensures
    ∙ sym (named_nowhere c.self.inside.names.keys c.self.inside.mounts.items c.args.name.now c.self.invariant.names c.in_err-place.ensures.index)
    ∙ ap (λ table. named c.args.name.now table.mounts) c.self.view_is

pub index-requires : goal.index-requires
index-requires c =
    let at = named_at c.self.inside.names.keys c.self.inside.mounts.items c.args.name.now c.self.invariant.names c.in_ok-place.place c.in_ok-place.ensures.index in
    omega (arith, at.1)

pub returns : goal.returns
returns c =
    let at = named_at c.self.inside.names.keys c.self.inside.mounts.items c.args.name.now c.self.invariant.names c.in_ok-place.place c.in_ok-place.ensures.index in
    sym (slice_get_read c.self.inside.mounts.items (length c.self.inside.mounts.items) c.in_ok-place.place c.index.result.now refl at.1 c.index.ensures) ∙ sym at.0
    ∙ ap (λ table. named c.args.name.now table.mounts) c.self.view_is
