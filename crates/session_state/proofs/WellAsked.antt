-- Requests that are well asked, and the first checks.
use Rattle.std.proofs.Common.{◌≡◌, ◌++◌, Bool, true, false, ℕ, List, [], ◌∷◌, ◌⊎◌, inl, inr, codes, is_some, IsSome, Option, None, Some, Result, Ok, Err, MatchResult, refl, sym, ap, subst}
use Rattle.std.specs.Cmp.Lexicographic.{bytes_decides}
use Rattle.std.specs.Str.{bytes_eq}
use Rattle.rtsp_message.specs.declared.request.Request as messages
use Rattle.rtsp_message.specs.Headers.{value_of}
use Rattle.mounts.specs.declared.uri.Uri.{Uri}
use Rattle.mounts.specs.Uri.{IsUri}
use Rattle.session_state.specs.declared.checks.asking.Asking.{Asking}
use Rattle.session_state.specs.declared.checks.Check.{Check}
use Rattle.session_state.specs.declared.checks.Check.TheVariants.{HasCSeq, HasVersion, HasMethod, RequiresNothing, HasUri, HasItsSession, NamesAStream, FitsState}
use Rattle.session_state.specs.declared.checks.refusal.Refusal.{Refusal}
use Rattle.session_state.specs.declared.checks.refusal.Refusal.TheVariants.{Fails, OutOfMemory}
use Rattle.session_state.specs.declared.method.Method.{Method}
use Rattle.session_state.specs.Asking.{IsPassing, IsRefusedAt, asked_in}
use Rattle.session_state.specs.Checks.{Asked, FailsFirst, MayBeAsked, PassesAll, checks_of, own_checks}
use Rattle.session_state.specs.Methods.{method_of}
use Rattle.session_state.specs.WellAsked.{IsPassingAlone, IsRefusedAlone, IsWellAsked, first_checks}
use Rattle.session_state.proofs.Checked.{fails_before, fails_later}
use Rattle.session_state.proofs.OneReply.{fails_or_passes}

-- the request, of a connection before which nothing has happened
abbrev opening : messages.Request → Asked
opening request = record { seats = 0; history = []; conn = 0; request = request; mounts = []; session = None }

-- what a request passes or fails whatever else is known, it does with what is known for it
pub passing_alone : (asking : Asking) (checks : List Check) → IsPassingAlone asking.request.now checks → IsPassing asking checks
passing_alone asking checks passes = λ history told. passes (asked_in asking history)

pub refused_alone : (asking : Asking) (checks : List Check) (refusal : Refusal) → IsRefusedAlone asking.request.now checks refusal → IsRefusedAt asking checks refusal
refused_alone asking checks (Fails check) refused = λ history told. refused (asked_in asking history)
refused_alone asking checks OutOfMemory refused = tt

pub method_alone : (asking : Asking) (checks : List Check) (result : Result Method Refusal)
    → MatchResult result (λ method. (method_of asking.request.now.method ≡ Some method) × IsPassingAlone asking.request.now checks) (IsRefusedAlone asking.request.now checks)
    → MatchResult result (λ method. (method_of asking.request.now.method ≡ Some method) × IsPassing asking checks) (IsRefusedAt asking checks)
method_alone asking checks (Ok method) (is, passes) = (is, passing_alone asking checks passes)
method_alone asking checks (Err refusal) refused = refused_alone asking checks refusal refused

pub uri_alone : (asking : Asking) (method : Method) (checks : List Check) (result : Result Uri Refusal)
    → MatchResult result (λ uri. IsUri asking.request.now.uri uri × MayBeAsked method uri × IsPassingAlone asking.request.now checks) (IsRefusedAlone asking.request.now checks)
    → MatchResult result (λ uri. IsUri asking.request.now.uri uri × MayBeAsked method uri × IsPassing asking checks) (IsRefusedAt asking checks)
uri_alone asking method checks (Ok uri) (is, may, passes) = (is, may, passing_alone asking checks passes)
uri_alone asking method checks (Err refusal) refused = refused_alone asking checks refusal refused

-- a request that passes the first checks is well asked
pub well_asked : (request : messages.Request) (method : Method) (uri : Uri) → method_of request.method ≡ Some method → IsPassingAlone request (HasCSeq ∷ HasVersion ∷ HasMethod ∷ [])
    → IsUri request.uri uri → MayBeAsked method uri → IsPassingAlone request (RequiresNothing ∷ HasUri method ∷ []) → IsWellAsked request method
well_asked request method uri named first is may second =
    record { number = (first (opening request)).0; version = (first (opening request)).1.0; method_is = named; requires_nothing = (second (opening request)).0; uri = (uri, is, may) }

-- one that is refused by some of them is refused by all
pub refused_first : (request : messages.Request) (refusal : Refusal) → IsRefusedAlone request (HasCSeq ∷ HasVersion ∷ HasMethod ∷ []) refusal
    → IsRefusedAlone request (first_checks (method_of request.method)) refusal
refused_first request (Fails check) refused = λ asked. by asked (method_of request.method) (refused asked)
  where
    by : (asked : Asked) (method : Option Method) → FailsFirst (record asked { request = request }) (HasCSeq ∷ HasVersion ∷ HasMethod ∷ []) check
        → FailsFirst (record asked { request = request }) (first_checks method) check
    by asked None fails = fails
    by asked (Some method) fails = fails_before (record asked { request = request }) (HasCSeq ∷ HasVersion ∷ HasMethod ∷ []) (RequiresNothing ∷ HasUri method ∷ []) check fails
refused_first request OutOfMemory refused = tt

pub refused_second : (request : messages.Request) (method : Method) (refusal : Refusal) → method_of request.method ≡ Some method → IsPassingAlone request (HasCSeq ∷ HasVersion ∷ HasMethod ∷ [])
    → IsRefusedAlone request (RequiresNothing ∷ HasUri method ∷ []) refusal → IsRefusedAlone request (first_checks (method_of request.method)) refusal
refused_second request method (Fails check) named passes refused = λ asked.
    subst (λ known. FailsFirst (record asked { request = request }) (first_checks known) check) (sym named)
    (fails_later (record asked { request = request }) (HasCSeq ∷ HasVersion ∷ HasMethod ∷ []) (RequiresNothing ∷ HasUri method ∷ []) check (passes asked) (refused asked))
refused_second request method OutOfMemory named passes refused = tt

-- a request that is well asked passes them
pub passes_first : (asked : Asked) (method : Method) → IsWellAsked asked.request method → PassesAll asked (first_checks (Some method))
passes_first asked method well = (well.number, (well.version, (ap is_some well.method_is, (well.requires_nothing, (well.uri, tt)))))

-- and so isn't refused by one of them
pub not_refused : (request : messages.Request) (check : Check) (method : Method) → IsRefusedAlone request (first_checks (method_of request.method)) (Fails check) → IsWellAsked request method → ⊥
not_refused request check method refused well =
    fails_or_passes (opening request) (first_checks (Some method)) check
    (subst (λ known. FailsFirst (opening request) (first_checks known) check) well.method_is (refused (opening request)))
    (passes_first (opening request) method well)

-- one that fails one of the first checks fails that first of all
pub fails_of_all : (asked : Asked) (method : Option Method) (check : Check) → FailsFirst asked (first_checks method) check → FailsFirst asked (checks_of method) check
fails_of_all asked None check fails = fails
fails_of_all asked (Some method) check fails = fails_before asked (first_checks (Some method)) (HasItsSession method ∷ NamesAStream method ∷ FitsState method ∷ own_checks method) check fails

-- the first checks begin the list
pub first_of_all : (method : Option Method) → (others : List Check) × (checks_of method ≡ first_checks method ++ others)
first_of_all None = ([], refl)
first_of_all (Some method) = (HasItsSession method ∷ NamesAStream method ∷ FitsState method ∷ own_checks method, refl)

module _ (asked : Asked) where
  has_number : IsSome asked.request.cseq ⊎ (IsSome asked.request.cseq → ⊥)
  has_number = by (is_some asked.request.cseq) refl
    where
      by : (some : Bool) → is_some asked.request.cseq ≡ some → IsSome asked.request.cseq ⊎ (IsSome asked.request.cseq → ⊥)
      by true is = inl is
      by false is = inr (λ some. absurd (cc))

  has_version : (asked.request.version ≡ codes "RTSP/1.0") ⊎ (asked.request.version ≡ codes "RTSP/1.0" → ⊥)
  has_version = by (bytes_eq asked.request.version (codes "RTSP/1.0")) refl
    where
      by : (same : Bool) → bytes_eq asked.request.version (codes "RTSP/1.0") ≡ same → (asked.request.version ≡ codes "RTSP/1.0") ⊎ (asked.request.version ≡ codes "RTSP/1.0" → ⊥)
      by true is = inl ((bytes_decides asked.request.version (codes "RTSP/1.0")).0 is)
      by false is = inr (λ same. let also = (bytes_decides asked.request.version (codes "RTSP/1.0")).1 same in absurd (cc))

  requires : (value_of asked.request.headers (codes "Require") ≡ None) ⊎ (value_of asked.request.headers (codes "Require") ≡ None → ⊥)
  requires = by (value_of asked.request.headers (codes "Require")) refl
    where
      by : (value : Option (List ℕ)) → value_of asked.request.headers (codes "Require") ≡ value
          → (value_of asked.request.headers (codes "Require") ≡ None) ⊎ (value_of asked.request.headers (codes "Require") ≡ None → ⊥)
      by None is = inl is
      by (Some value) is = inr (λ none. absurd (cc))

  -- it fails one of the first two, or one after them
  fails_after : (others : List Check) → (IsSome asked.request.cseq → asked.request.version ≡ codes "RTSP/1.0" → (check : Check) × FailsFirst asked others check)
      → (check : Check) × FailsFirst asked (HasCSeq ∷ HasVersion ∷ others) check
  fails_after others later = by has_number has_version
    where
      by : IsSome asked.request.cseq ⊎ (IsSome asked.request.cseq → ⊥) → (asked.request.version ≡ codes "RTSP/1.0") ⊎ (asked.request.version ≡ codes "RTSP/1.0" → ⊥)
          → (check : Check) × FailsFirst asked (HasCSeq ∷ HasVersion ∷ others) check
      by (inr none) version = (HasCSeq, inl (refl, none))
      by (inl number) (inr other) = (HasVersion, inr (number, inl (refl, other)))
      by (inl number) (inl version) = let found = later number version in (found.0, inr (number, inr (version, found.1)))

  -- a request that isn't well asked of its method fails one of them
  fails_of : (method : Option Method) → method_of asked.request.method ≡ method → ((known : Method) → IsWellAsked asked.request known → ⊥)
      → (check : Check) × FailsFirst asked (first_checks method) check
  fails_of None named ill = fails_after (HasMethod ∷ []) (λ number version. (HasMethod, inl (refl, λ some. absurd (cc))))
  fails_of (Some method) named ill = fails_after (HasMethod ∷ RequiresNothing ∷ HasUri method ∷ []) (λ number version. by number version requires)
    where
      by : IsSome asked.request.cseq → asked.request.version ≡ codes "RTSP/1.0" → (value_of asked.request.headers (codes "Require") ≡ None) ⊎ (value_of asked.request.headers (codes "Require") ≡ None → ⊥)
          → (check : Check) × FailsFirst asked (HasMethod ∷ RequiresNothing ∷ HasUri method ∷ []) check
      by number version (inr some) = (RequiresNothing, inr (ap is_some named, inl (refl, some)))
      by number version (inl none) = (
        HasUri method,
        inr (
          ap is_some named,
          inr (
            none,
            inl (
              refl,
              λ uri. ill method (record {
                number = number;
                version = version;
                method_is = named;
                requires_nothing = none;
                uri = uri;
              }),
            ),
          ),
        ),
      )

  pub fails_one : ((method : Method) → IsWellAsked asked.request method → ⊥)
      → (check : Check) × FailsFirst asked (first_checks (method_of asked.request.method)) check × FailsFirst asked (checks_of (method_of asked.request.method)) check
  fails_one ill =
      let found = fails_of (method_of asked.request.method) refl ill in
      (found.0, found.1, fails_of_all asked (method_of asked.request.method) found.0 found.1)
