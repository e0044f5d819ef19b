use Rattle.std.proofs.Common.{◌∙◌, ap, rules, filter}
use Rattle.std.proofs.lemmas.Fn.{filter_same}
use Rattle.mount_signals.specs.RecordingMounts.{is_other}
use Rattle.mount_signals.proofs.mount.recording_mounts.state.MountList.remove.Goals as goal

pub returns-clause-listed : goal.returns-clause-listed
returns-clause-listed c =
    filter_same _ (is_other c.args.mount) _ (λ x b f' k. search rules) _ _ c.retain.ensures.filtered ∙ ap (λ it. filter (is_other c.args.mount) it.mounts) c.self.view_is
