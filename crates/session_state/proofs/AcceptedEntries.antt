-- An accepted request, by its connection and its method.
use Rattle.std.proofs.Common.{◌≡◌, ℕ, suc, ◌==◌, ◌&&◌, Bool, true, false, cond, not, [], ◌∷◌, None, Some, refl, ap, ◌∙◌}
use Rattle.std.specs.Option.{option_map, option_map_or}
use Rattle.std.specs.List.{filter}
use Rattle.std.proofs.lemmas.Bool.{cond-true, eq-eqb}
use Rattle.rtsp_message.specs.declared.request.Request as messages
use Rattle.rtsp_message.specs.declared.reply.Reply.{Reply}
use Rattle.rtsp_message.specs.Reply.{code_of}
use Rattle.session_state.specs.declared.act.Act.{Act}
use Rattle.session_state.specs.declared.given.Given.{Given}
use Rattle.session_state.specs.declared.entry.Entry.{Entry}
use Rattle.session_state.specs.declared.entry.Entry.TheVariants.{Request}
use Rattle.session_state.specs.declared.method.Method.{Method}
use Rattle.session_state.specs.Methods.{is_announce, is_setup, is_teardown, method_of, moves}
use Rattle.session_state.specs.History.{History, Moment, accepted, accepts, accepts_from, how_many, since_last}
use Rattle.session_state.specs.Lookups.{has_session, session_part, sessions_begun}
use Rattle.session_state.specs.Streams.{ends_of}

-- The request of a connection was accepted, and has this method.
pub record IsAcceptedEntry (conn : ℕ) (method : Method) (entry : Entry) : Type 0 where
  pub is : accepted entry ≡ Some (conn, method)
  pub ends : (owner : ℕ) → ends_of owner entry ≡ accepts_from owner is_teardown entry

pub accepted_entry : (conn : ℕ) (request : messages.Request) (given : Given) (reply : Reply) (act : Act) (method : Method) → code_of reply.status ≡ 200 → method_of request.method ≡ Some method
    → IsAcceptedEntry conn method (Request conn request given reply act)
accepted_entry conn request given reply act method ok named = record {
  is = ap (λ b. cond b (option_map (λ m. (conn, m)) (method_of request.method)) None) (eq-eqb (code_of reply.status) 200 ok) ∙ ap (option_map (λ m. (conn, m))) named;
  ends = λ owner. refl;
}

module _ (conn : ℕ) (method : Method) (entry : Entry) (is : IsAcceptedEntry conn method entry) where
  pub of_method : (such : Method → Bool) → accepts such entry ≡ such method
  of_method such = ap (λ found. option_map_or (λ (one : ℕ × Method). such one.1) found false) is.is

  pub of_conn : (who : ℕ) (such : Method → Bool) → accepts_from who such entry ≡ (conn == who && such method)
  of_conn who such = ap (λ found. option_map_or (λ (one : ℕ × Method). one.0 == who && such one.1) found false) is.is

  -- of its own connection it is such a request where its method is
  pub of_own : (such : Method → Bool) → accepts_from conn such entry ≡ such method
  of_own such = of_conn conn such ∙ ap (λ b. b && such method) (eq-eqb conn conn refl)

  pub not_of_other : (who : ℕ) (such : Method → Bool) → (conn == who) ≡ false → accepts_from who such entry ≡ false
  not_of_other who such other = of_conn who such ∙ ap (λ b. b && such method) other

  pub ends_none : (owner : ℕ) → is_teardown method ≡ false → ends_of owner entry ≡ false
  ends_none owner plain = is.ends owner ∙ of_conn owner is_teardown ∙ by (conn == owner) ∙ plain
    where
      by : (same : Bool) → (same && is_teardown method) ≡ is_teardown method
      by true = refl
      by false = let so = plain in cc

  pub announces_so : (before : History) → how_many (accepts is_announce) (entry ∷ before) ≡ cond (is_announce method) (suc (how_many (accepts is_announce) before)) (how_many (accepts is_announce) before)
  announces_so before = ap (λ b. cond b (suc (how_many (accepts is_announce) before)) (how_many (accepts is_announce) before)) (of_method is_announce)

  pub begins_so : (before : History) → sessions_begun (entry ∷ before) ≡ cond (is_setup method && not (has_session conn before)) (suc (sessions_begun before)) (sessions_begun before)
  begins_so before =
      ap (λ found. cond (option_map_or (λ (one : ℕ × Method). is_setup one.1 && not (has_session one.0 before)) found false) (suc (sessions_begun before)) (sessions_begun before)) is.is

  -- a request that moves its session comes on top of what the session goes by
  pub part_moves : (before : History) → is_teardown method ≡ false → moves method ≡ true → session_part conn (entry ∷ before) ≡ record { entry = entry; before = before } ∷ session_part conn before
  part_moves before plain moving =
      let here : Moment = record { entry = entry; before = before } in
      ap (λ b. filter (λ one. accepts_from conn moves one.entry) (cond b [] (here ∷ since_last (ends_of conn) before))) (ends_none conn plain)
      ∙ cond-true (accepts_from conn moves entry) (here ∷ session_part conn before) (session_part conn before) (of_own moves ∙ moving)
