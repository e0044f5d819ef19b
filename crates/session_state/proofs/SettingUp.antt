-- A reply to SETUP is what its definition says.
use Rattle.std.proofs.Common.{◌≡◌, ℕ, ◌+◌, ◌==◌, ◌↔◌, Bool, [], List, replicate, slice_set, Option, None, Some, Result, Ok, Err, IfOk, refl, ap, sym, subst, ◌∙◌}
use Rattle.std.specs.List.{Contains}
use Rattle.std.specs.Option.{option_map, unwrap_or}
use Rattle.rtsp_message.specs.declared.request.Request as messages
use Rattle.rtsp_message.specs.declared.reply.Reply.{Reply}
use Rattle.rtsp_message.specs.declared.status.Status.TheVariants as statuses
use Rattle.transport_header.specs.declared.chosen.Chosen.{Chosen}
use Rattle.transport_header.specs.declared.spec.Spec.{Spec}
use Rattle.transport_header.specs.Chosen.{IsChosen, transport_text}
use Rattle.transport_header.specs.Session.{identifier_text}
use Rattle.transport_header.specs.Tracks.{IsOfOther}
use Rattle.mounts.specs.declared.mount.Mount.{Mount}
use Rattle.mounts.specs.Mounts.{numbered}
use Rattle.session_state.specs.declared.checks.accepted.Accepted.TheVariants as found
use Rattle.session_state.specs.declared.world.change.Change.{Change}
use Rattle.session_state.specs.declared.world.change.Change.TheVariants as changes
use Rattle.session_state.specs.declared.given.Given.{Given}
use Rattle.session_state.specs.declared.session.Session.{Session}
use Rattle.session_state.specs.declared.session.State.TheVariants.{Ready}
use Rattle.session_state.specs.History.{History}
use Rattle.session_state.specs.Checks.{Asked}
use Rattle.session_state.specs.Judged.{Finds, GivesChannels, GivesFirst, GivesMore, IsSettingUp, SetsUpBy, asked_of, pair_of}
use Rattle.session_state.specs.Lookups.{sessions_begun}
use Rattle.session_state.specs.Replies.{channels_in, identifier_of, no_fields}
use Rattle.session_state.specs.Stands.{Stands, Tables, session_kept}

pub if_ok : {T E : Type 0} (P Q : T → Type 0) (result : Result T E) → ((x : T) → P x → Q x) → IfOk result P → IfOk result Q
if_ok P Q (Ok x) step is = step x is
if_ok P Q (Err e) step is = tt

module _ (tables : Tables) (history : History) (stands : Stands history tables) (conn : ℕ) (request : messages.Request) (given : Given) (number track : ℕ) (specs : List Spec) (mount : Mount)
    (there : numbered number tables.mounts.mounts ≡ Some mount) (finds : Finds (asked_of tables history conn request) (found.Setup number track specs)) (reply : Reply) (change : Change) where
  abbrev asked : Asked
  asked = asked_of tables history conn request

  -- the mount that was found is the one that the request names
  same_mount : mount ≡ finds.0
  same_mount = let at = finds.2.is in let number_is = finds.1 in let same : numbered number tables.mounts.mounts ≡ Some finds.0 = sym (ap (λ n. numbered n tables.mounts.mounts) number_is) ∙ at in cc

  answer : Chosen → (identifier : List ℕ) → (recording : Bool) → Reply
  answer chosen identifier recording = record { status = statuses.Ok; cseq = request.cseq; fields = record no_fields { session = Some identifier; transport = Some (transport_text (record chosen { recording = recording })) }; body = [] }

  told : (session : Option Session) → session_kept tables conn ≡ session → (identifier : List ℕ) → (gives : GivesChannels specs (channels_in session) track request identifier (mount.owner == conn) reply)
      → identifier ≡ unwrap_or (option_map identifier_of session) (identifier_text (sessions_begun history + 1) given.word)
      → IsSettingUp asked given finds.0 track (pair_of gives.chosen) session change → SetsUpBy asked given reply change
  unfolding answer
  told session has identifier gives identifier_is setting = (
    record {
      mount = finds.0;
      track = track;
      sets_up = finds.2;
      text = finds.3;
      transport = finds.4;
      used = gives.is_for.used;
      others = λ channel. subst (λ s. Contains gives.is_for.used channel ↔ IsOfOther (channels_in s) track channel) (sym has) (gives.is_for.others channel);
      chosen = gives.chosen;
      is_chosen = subst (λ (list : List Spec). IsChosen list gives.is_for.used (Some gives.chosen)) finds.5 gives.is_for.is_chosen;
      is = gives.is ∙ ap (λ (m : Mount). answer gives.chosen identifier (m.owner == conn)) same_mount
          ∙ ap (λ text. answer gives.chosen text (finds.0.owner == conn)) identifier_is
          ∙ ap (λ s. answer gives.chosen (unwrap_or (option_map identifier_of s) (identifier_text (sessions_begun history + 1) given.word)) (finds.0.owner == conn)) (sym has);
    },
    subst (λ s. IsSettingUp asked given finds.0 track (pair_of gives.chosen) s change) (sym has) setting,
  )

  pub more_told : (session : Session) → session_kept tables conn ≡ Some session → GivesMore specs session track request (mount.owner == conn) reply change → SetsUpBy (asked_of tables history conn request) given reply change
  more_told session has (gives, is) = told (Some session) has (identifier_of session) gives refl is

  pub first_told : session_kept tables conn ≡ None → GivesFirst specs (tables.begun + 1) given.word mount track request (mount.owner == conn) reply change → SetsUpBy (asked_of tables history conn request) given reply change
  first_told has (gives, is) =
      let begun = ap (λ n. n + 1) stands.recalls.begun_is in
      told None has (identifier_text (tables.begun + 1) given.word) gives (ap (λ n. identifier_text n given.word) begun)
      (is ∙ ap (λ n. changes.Begin (record { number = n; word = given.word; mount = mount.number; name = mount.name; recording = mount.owner == conn; channels = slice_set (replicate 16 None) track (Some (pair_of gives.chosen)); state = Ready })) begun
      ∙ ap (λ (m : Mount). changes.Begin (record { number = sessions_begun history + 1; word = given.word; mount = m.number; name = m.name; recording = m.owner == conn; channels = slice_set (replicate 16 None) track (Some (pair_of gives.chosen)); state = Ready })) same_mount)
