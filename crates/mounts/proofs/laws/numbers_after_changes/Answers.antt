use Rattle.std.proofs.Common.{◌≡◌, ◌==◌, Bool, true, false, cond, None, Some, ap, ◌∙◌, refl}
use Rattle.std.proofs.lemmas.Bool.{eqb-false, eqb-true}
use Rattle.mounts.specs.Mounts.{announced, ended, new_mount, numbered}
use Rattle.mounts.proofs.Lookups.{numbered-announced, numbered-announced_next, numbered-ended_other, numbered-ended_same, numbered-with_seat}
use Rattle.mounts.proofs.laws.numbers_after_changes.Goals as goal

pub returns-clause-announced : goal.returns-clause-announced
returns-clause-announced c table owner name description number sound = by (number == table.next) refl
  where
    by : (v : Bool) → (number == table.next) ≡ v
        → numbered number (announced table owner name description).mounts ≡ cond v (Some (new_mount table owner name description)) (numbered number table.mounts)
    by true e = numbered-announced_next table owner name description number sound (eqb-true number table.next e)
    by false e = numbered-announced table owner name description number (eqb-false number table.next e)

pub returns-clause-ended : goal.returns-clause-ended
returns-clause-ended c table gone number = by (number == gone) refl
  where
    by : (v : Bool) → (number == gone) ≡ v → numbered number (ended gone table).mounts ≡ cond v None (numbered number table.mounts)
    by true e = ap (λ n. numbered n (ended gone table).mounts) (eqb-true number gone e) ∙ numbered-ended_same table.mounts gone
    by false e = numbered-ended_other table.mounts number gone (eqb-false number gone e)

pub returns-clause-seat : goal.returns-clause-seat
returns-clause-seat c table of seat number out = numbered-with_seat table.mounts number of seat out
