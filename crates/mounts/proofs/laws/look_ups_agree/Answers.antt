use Rattle.std.proofs.Common.{◌≡◌, Some}
use Rattle.mounts.specs.Mounts.{named, numbered, owned_by}
use Rattle.mounts.proofs.Lookups.{found_is_numbered, looked_up, only_name, only_number, only_owner}
use Rattle.mounts.proofs.Places.{all_from_places}
use Rattle.mounts.proofs.laws.look_ups_agree.Goals as goal

pub returns-clause-each : goal.returns-clause-each
returns-clause-each c table sound =
    all_from_places (λ mount. (numbered mount.number table.mounts ≡ Some mount) × (named mount.name table.mounts ≡ Some mount) × (owned_by mount.owner table.mounts ≡ Some mount)) table.mounts
    (looked_up table sound)

pub returns-clause-only : goal.returns-clause-only
returns-clause-only c table number mount sound at = only_number table number mount sound at

pub returns-clause-only_name : goal.returns-clause-only_name
returns-clause-only_name c table name mount sound at = only_name table name mount sound at

pub returns-clause-only_owner : goal.returns-clause-only_owner
returns-clause-only_owner c table owner mount sound at = only_owner table owner mount sound at

pub returns-clause-found : goal.returns-clause-found
returns-clause-found c table path number rest sound found = found_is_numbered table path number rest sound found
