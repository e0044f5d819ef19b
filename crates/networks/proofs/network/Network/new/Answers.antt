use Rattle.std.proofs.Common.{◌≡◌, ◌≤◌, ◌∙◌, sym, refl, true, false, arith, rules}
use Rattle.networks.specs.Addresses.{width_of}
use Rattle.networks.proofs.Addresses.{IsCutOf, cut_is}
use Rattle.networks.proofs.network.Network.new.Goals as goal

pub returns-then-ne-clause-made : goal.returns-then-ne-clause-made
returns-then-ne-clause-made c =
    let same : c.cut.result ≡ c.args.address → c.ne.result ≡ false = search rules in
    let cut : IsCutOf c.args.address c.cut.result c.args.bits =
    record { width = c.cut.ensures.width; fits = c.cut.ensures.fits; bits_are = c.cut.ensures.bits } in
    λ le none. sym (same (cut_is _ _ _ _ cut c.width.ensures.fits none refl refl)) ∙ c.if-ne.true

pub returns-then-ne-clause-err : goal.returns-then-ne-clause-err
returns-then-ne-clause-err c =
    let same : c.cut.result ≡ c.args.address → c.ne.result ≡ false = search rules in
    let cut : IsCutOf c.args.address c.cut.result c.args.bits =
    record { width = c.cut.ensures.width; fits = c.cut.ensures.fits; bits_are = c.cut.ensures.bits } in
    let le : c.args.bits ≤ width_of c.args.address = omega (arith, c.if-bits-from.false, c.from.ensures, c.width.ensures.value) in
    (le, λ none. let bad : false ≡ true = sym (same (cut_is _ _ _ _ cut c.width.ensures.fits none refl refl)) ∙ c.if-ne.true in absurd (cc))
