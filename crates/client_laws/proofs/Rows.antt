-- What the URL `rtsp://192.0.2.7/cam` and those of its tracks name.
use Rattle.std.proofs.Common.{◌≡◌, ◌<◌, ◌&&◌, nat_lt, ℕ, zero, suc, Bool, true, false, List, [], ◌∷◌, ◌++◌, inr, slice_index, drop, codes, None, Some, Ok, refl, ap, sym, subst, arith}
use Rattle.std.specs.List.{AllByRecursion}
use Rattle.std.proofs.lemmas.Bool.{ltb-true}
use Rattle.std.proofs.lemmas.List.Elements.{All-from_recursion}
use Rattle.std.proofs.lemmas.Str.{IsUtf8-from_ascii}
use Rattle.std.proofs.lemmas.Str.Ascii.{IsAscii-from_all}
use Rattle.url.specs.Parser.{parse_url}
use Rattle.url.specs.Parts.{Parts}
use Rattle.url.specs.declared.host.Host.TheVariants.{Domain}
use Rattle.url.proofs.OnLiterals.{url_on_literals}
use Rattle.sdp.specs.Written.{track_control}
use Rattle.mounts.specs.declared.target.Target.{Target}
use Rattle.mounts.specs.declared.uri.Uri.TheVariants.{At}
use Rattle.mounts.specs.Uri.{IsTarget, IsUri, base_text, slash, without_end_slash}
use Rattle.client_laws.specs.Publishing.{NamesTrack, Publication}

-- whether each byte is ASCII
abbrev are_low : List ℕ → Bool
are_low [] = true
are_low (b ∷ bytes) = nat_lt b 128 && are_low bytes

each_low : (bytes : List ℕ) → are_low bytes ≡ true → AllByRecursion (λ b. b < 128) bytes
each_low [] low = tt
each_low (b ∷ bytes) low = by (nat_lt b 128) refl low (each_low bytes)
  where
    by : (is : Bool) → nat_lt b 128 ≡ is → (is && are_low bytes) ≡ true → (are_low bytes ≡ true → AllByRecursion (λ c. c < 128) bytes) → (b < 128) × AllByRecursion (λ c. c < 128) bytes
    by true is rest later = (ltb-true b 128 is, later rest)
    by false is rest later = absurd (cc)

-- the URL of a path at this host
abbrev url_of : (path : List ℕ) → Parts
url_of path = record { scheme = codes "rtsp"; username = []; password = []; host = Some (Domain (codes "192.0.2.7")); port = None; path = path; query = None; fragment = None }

target_at : (text path name : List ℕ) → parse_url None text ≡ Ok (url_of path) → are_low text ≡ true → slice_index path 0 ≡ slash → name ≡ without_end_slash (drop 1 path)
    → IsTarget text (record { path = name; query = None; base = base_text text })
target_at text path name parsed low rooted is = record {
  url = url_of path;
  is = record { utf8 = IsUtf8-from_ascii text (IsAscii-from_all text (All-from_recursion (λ b. b < 128) text (each_low text low))); parsed = parsed; scheme = refl; rooted = inr rooted };
  path = is;
  query = refl;
  base = refl;
}

pub uri_target : (target : Target) × IsUri (codes "rtsp://192.0.2.7/cam") (At target) × (target.path ≡ codes "cam") × (target.query ≡ None)
unfolding url_on_literals
uri_target = (
  record { path = codes "cam"; query = None; base = base_text (codes "rtsp://192.0.2.7/cam") },
  target_at (codes "rtsp://192.0.2.7/cam") (codes "/cam") (codes "cam") refl refl refl refl,
  refl,
  refl,
)

abbrev below : (track : ℕ) → List ℕ
below track = codes "rtsp://192.0.2.7/cam" ++ slash ∷ track_control track

abbrev track_name : (track : ℕ) → List ℕ
track_name track = codes "cam" ++ slash ∷ track_control track

track_target : (track : ℕ) → track < 16 → IsTarget (below track) (record { path = track_name track; query = None; base = base_text (below track) })
unfolding url_on_literals
track_target zero low = target_at (below zero) (slash ∷ track_name zero) (track_name zero) refl refl refl refl
track_target (suc zero) low = target_at (below (suc zero)) (slash ∷ track_name (suc zero)) (track_name (suc zero)) refl refl refl refl
track_target (suc (suc zero)) low = target_at (below (suc (suc zero))) (slash ∷ track_name (suc (suc zero))) (track_name (suc (suc zero))) refl refl refl refl
track_target (suc (suc (suc zero))) low = target_at (below (suc (suc (suc zero)))) (slash ∷ track_name (suc (suc (suc zero)))) (track_name (suc (suc (suc zero)))) refl refl refl refl
track_target (suc (suc (suc (suc zero)))) low = target_at (below (suc (suc (suc (suc zero))))) (slash ∷ track_name (suc (suc (suc (suc zero))))) (track_name (suc (suc (suc (suc zero))))) refl refl refl refl
track_target (suc (suc (suc (suc (suc zero))))) low = target_at (below (suc (suc (suc (suc (suc zero)))))) (slash ∷ track_name (suc (suc (suc (suc (suc zero)))))) (track_name (suc (suc (suc (suc (suc zero)))))) refl refl refl refl
track_target (suc (suc (suc (suc (suc (suc zero)))))) low = target_at (below (suc (suc (suc (suc (suc (suc zero))))))) (slash ∷ track_name (suc (suc (suc (suc (suc (suc zero))))))) (track_name (suc (suc (suc (suc (suc (suc zero))))))) refl refl refl refl
track_target (suc (suc (suc (suc (suc (suc (suc zero))))))) low = target_at (below (suc (suc (suc (suc (suc (suc (suc zero)))))))) (slash ∷ track_name (suc (suc (suc (suc (suc (suc (suc zero)))))))) (track_name (suc (suc (suc (suc (suc (suc (suc zero)))))))) refl refl refl refl
track_target (suc (suc (suc (suc (suc (suc (suc (suc zero)))))))) low = target_at (below (suc (suc (suc (suc (suc (suc (suc (suc zero))))))))) (slash ∷ track_name (suc (suc (suc (suc (suc (suc (suc (suc zero))))))))) (track_name (suc (suc (suc (suc (suc (suc (suc (suc zero))))))))) refl refl refl refl
track_target (suc (suc (suc (suc (suc (suc (suc (suc (suc zero))))))))) low = target_at (below (suc (suc (suc (suc (suc (suc (suc (suc (suc zero)))))))))) (slash ∷ track_name (suc (suc (suc (suc (suc (suc (suc (suc (suc zero)))))))))) (track_name (suc (suc (suc (suc (suc (suc (suc (suc (suc zero)))))))))) refl refl refl refl
track_target (suc (suc (suc (suc (suc (suc (suc (suc (suc (suc zero)))))))))) low = target_at (below (suc (suc (suc (suc (suc (suc (suc (suc (suc (suc zero))))))))))) (slash ∷ track_name (suc (suc (suc (suc (suc (suc (suc (suc (suc (suc zero))))))))))) (track_name (suc (suc (suc (suc (suc (suc (suc (suc (suc (suc zero))))))))))) refl refl refl refl
track_target (suc (suc (suc (suc (suc (suc (suc (suc (suc (suc (suc zero))))))))))) low = target_at (below (suc (suc (suc (suc (suc (suc (suc (suc (suc (suc (suc zero)))))))))))) (slash ∷ track_name (suc (suc (suc (suc (suc (suc (suc (suc (suc (suc (suc zero)))))))))))) (track_name (suc (suc (suc (suc (suc (suc (suc (suc (suc (suc (suc zero)))))))))))) refl refl refl refl
track_target (suc (suc (suc (suc (suc (suc (suc (suc (suc (suc (suc (suc zero)))))))))))) low = target_at (below (suc (suc (suc (suc (suc (suc (suc (suc (suc (suc (suc (suc zero))))))))))))) (slash ∷ track_name (suc (suc (suc (suc (suc (suc (suc (suc (suc (suc (suc (suc zero))))))))))))) (track_name (suc (suc (suc (suc (suc (suc (suc (suc (suc (suc (suc (suc zero))))))))))))) refl refl refl refl
track_target (suc (suc (suc (suc (suc (suc (suc (suc (suc (suc (suc (suc (suc zero))))))))))))) low = target_at (below (suc (suc (suc (suc (suc (suc (suc (suc (suc (suc (suc (suc (suc zero)))))))))))))) (slash ∷ track_name (suc (suc (suc (suc (suc (suc (suc (suc (suc (suc (suc (suc (suc zero)))))))))))))) (track_name (suc (suc (suc (suc (suc (suc (suc (suc (suc (suc (suc (suc (suc zero)))))))))))))) refl refl refl refl
track_target (suc (suc (suc (suc (suc (suc (suc (suc (suc (suc (suc (suc (suc (suc zero)))))))))))))) low = target_at (below (suc (suc (suc (suc (suc (suc (suc (suc (suc (suc (suc (suc (suc (suc zero))))))))))))))) (slash ∷ track_name (suc (suc (suc (suc (suc (suc (suc (suc (suc (suc (suc (suc (suc (suc zero))))))))))))))) (track_name (suc (suc (suc (suc (suc (suc (suc (suc (suc (suc (suc (suc (suc (suc zero))))))))))))))) refl refl refl refl
track_target (suc (suc (suc (suc (suc (suc (suc (suc (suc (suc (suc (suc (suc (suc (suc zero))))))))))))))) low = target_at (below (suc (suc (suc (suc (suc (suc (suc (suc (suc (suc (suc (suc (suc (suc (suc zero)))))))))))))))) (slash ∷ track_name (suc (suc (suc (suc (suc (suc (suc (suc (suc (suc (suc (suc (suc (suc (suc zero)))))))))))))))) (track_name (suc (suc (suc (suc (suc (suc (suc (suc (suc (suc (suc (suc (suc (suc (suc zero)))))))))))))))) refl refl refl refl
track_target (suc (suc (suc (suc (suc (suc (suc (suc (suc (suc (suc (suc (suc (suc (suc (suc track)))))))))))))))) low = absurd (omega (arith, low))

pub names_track : (publication : Publication) (track : ℕ) → publication.uri ≡ codes "rtsp://192.0.2.7/cam" → publication.target.path ≡ codes "cam" → track < 16 → NamesTrack publication track
names_track publication track uri path low =
    let target : Target = record { path = track_name track; query = None; base = base_text (below track) } in
    record {
      target = target;
      uri = subst (λ (text : List ℕ). IsTarget (text ++ slash ∷ track_control track) target) (sym uri) (track_target track low);
      path = ap (λ (name : List ℕ). name ++ slash ∷ track_control track) (sym path);
      no_query = refl;
    }
