use Rattle.std.proofs.Common.{◌∙◌, ap, subst, arith, length, take, All, IsTrue, rules}
use Rattle.std.proofs.lemmas.List.{take_all}
use Rattle.relay_log.specs.Names.{IsNamedBy, IsNoLongerName}
use Rattle.relay_log.proofs.Naming.{found_here, longest_found, no_longer_than, none_found, one_more}
use Rattle.relay_log.proofs.published.longest_named.Goals as goal
use Rattle.relay_log.proofs.published.longest_named.Goals.{then-length-longest-via-then-length-longest, then-length-longest-via-else-length-longest+then-not-is_named_by}

pub loop-place-preserved-then-length-longest : goal.loop-place-preserved-then-length-longest
loop-place-preserved-then-length-longest c =
    let before = c.loop-place.invariant in
    let here : IsNoLongerName c.loop-place.longest c.args.path.now c.index-mounts-place.result =
    elim c.then-length-longest.branch [
      | then-length-longest-via-then-length-longest w ↦ (λ named. omega (arith, w.if-length-longest.true, c.len-length.ensures))
      | then-length-longest-via-else-length-longest+then-not-is_named_by w ↦ (λ named. let impossible = subst IsTrue w.if-not-is_named_by.true (w.is_named_by.ensures.1 named) in grind (arith, impossible))
    ] in
    record {
      found = before.found;
      none = before.none;
      longest = one_more c.loop-place.longest c.args.path.now c.args.mounts.now c.loop-place.place c.index-mounts-place.result c.loop-place-test.true before.longest (subst (IsNoLongerName c.loop-place.longest c.args.path.now) c.index-mounts-place.is here);
    }

pub loop-place-preserved : goal.loop-place-preserved
loop-place-preserved c =
    let before = c.loop-place.invariant in
    let named : IsNamedBy c.index-mounts-place.result.name c.args.path.now = c.is_named_by.ensures.0 c.if-not-is_named_by.false in
    let weaker = no_longer_than c.loop-place.longest c.len-length.result c.args.path.now (take c.loop-place.place c.args.mounts.now) (omega (arith, c.if-length-longest.false)) before.longest in
    let here : IsNoLongerName c.len-length.result c.args.path.now c.index-mounts-place.result = (λ named. omega (arith, c.len-length.ensures)) in
    record {
      found = found_here c.args.mounts.now c.loop-place.place c.index-mounts-place.result c.args.path.now c.len-length.result c.loop-place-test.true (subst (λ mount. IsNamedBy mount.name c.args.path.now) c.index-mounts-place.is named) (c.len-length.ensures ∙ ap (λ mount. length mount.name) c.index-mounts-place.is);
      none = search rules;
      longest = one_more c.len-length.result c.args.path.now c.args.mounts.now c.loop-place.place c.index-mounts-place.result c.loop-place-test.true weaker (subst (IsNoLongerName c.len-length.result c.args.path.now) c.index-mounts-place.is here);
    }

pub returns-clause-longest : goal.returns-clause-longest
returns-clause-longest c =
    let all = subst (All (IsNoLongerName c.loop-place.longest c.args.path.now)) (take_all c.loop-place.place c.args.mounts.now c.loop-place-test.false) c.loop-place.invariant.longest in
    longest_found c.loop-place.longest c.args.path.now c.args.mounts.now c.loop-place.found c.loop-place.invariant.found all

pub returns-clause-none : goal.returns-clause-none
returns-clause-none c =
    let all = subst (All (IsNoLongerName c.loop-place.longest c.args.path.now)) (take_all c.loop-place.place c.args.mounts.now c.loop-place-test.false) c.loop-place.invariant.longest in
    none_found c.loop-place.longest c.args.path.now c.args.mounts.now c.loop-place.found c.loop-place.invariant.none all
