-- The beginnings of a path, tried from the longest on.
use Rattle.std.proofs.Common.{◌≡◌, ℕ, zero, suc, ◌<◌, ◌≤◌, ◌==◌, Bool, true, false, cond, Option, None, Some, ◌⊎◌, inl, inr, List, [], ◌∷◌, ◌++◌, length, take, drop, get_or, refl, sym, ap, subst, ◌∙◌, arith, length-append}
use Rattle.std.specs.List.{AllByRecursion}
use Rattle.std.proofs.lemmas.Bool.{eqb-true, eq-eqb}
use Rattle.std.proofs.lemmas.List.{length-take-le, take_at}
use Rattle.mounts.specs.declared.mount.Mount.{Mount}
use Rattle.mounts.specs.Find.{IsFoundIn, IsNowhereIn}
use Rattle.mounts.specs.Mounts.{IsMountOf, named}
use Rattle.mounts.specs.Names.{GoesOn}
use Rattle.mounts.specs.Uri.{slash}
use Rattle.mounts.proofs.Sound.{names_nothing}

-- Neither the whole path nor a beginning that ends before a slash at this place or after it names a live mount.
pub record AreTried (mounts : List Mount) (path : List ℕ) (end : ℕ) : Type 0 where
  pub whole : named path mounts ≡ None
  pub longer : (k : ℕ) → end ≤ k → k < length path → get_or path k 0 ≡ slash → named (take k path) mounts ≡ None

-- at the start: a path whose whole was tried, and no longer beginning has a name's length
pub none_tried : (next seats : ℕ) (mounts : List Mount) (path : List ℕ) (end : ℕ) → AllByRecursion (IsMountOf next seats) mounts → named path mounts ≡ None
    → (end < length path → 129 ≤ end) → AreTried mounts path end
none_tried next seats mounts path end each whole far = record {
  whole = whole;
  longer = λ k at within is.
      let long = far (omega arith) in
      names_nothing next seats mounts (take k path) each (λ name. let most = name.most in omega (arith, most, long, length-take-le k path (omega arith)));
}

-- one place further to the front
pub one_more : (mounts : List Mount) (path : List ℕ) (end : ℕ) → AreTried mounts path (suc end)
    → None ≡ cond (get_or path end 0 == slash) (named (take end path) mounts) None → AreTried mounts path end
one_more mounts path end tried none = record {
  whole = tried.whole;
  longer = λ k at within is. by k at within is (grind arith);
}
  where
    here : get_or path end 0 ≡ slash → named (take end path) mounts ≡ None
    here is = sym (none ∙ ap (λ b. cond b (named (take end path) mounts) None) (eq-eqb (get_or path end 0) slash is))

    by : (k : ℕ) → end ≤ k → k < length path → get_or path k 0 ≡ slash → (k ≡ end) ⊎ (suc end ≤ k) → named (take k path) mounts ≡ None
    by k at within is (inl e) = subst (λ j. named (take j path) mounts ≡ None) (sym e) (here (subst (λ j. get_or path j 0 ≡ slash) e is))
    by k at within is (inr further) = tried.longer k further within is

front_read : (front rest : List ℕ) → get_or (front ++ slash ∷ rest) (length front) 0 ≡ slash
front_read [] rest = refl
front_read (b ∷ front) rest = front_read front rest

-- no beginning that was tried names a live mount
pub tried_names_nothing : (mounts : List Mount) (path : List ℕ) (end : ℕ) → AreTried mounts path end → (name : List ℕ) (rest : Option (List ℕ)) → GoesOn path name rest → end ≤ length name
    → named name mounts ≡ None
tried_names_nothing mounts path end tried name None e far = subst (λ n. named n mounts ≡ None) e tried.whole
tried_names_nothing mounts path end tried name (Some rest) e far =
    let cut : take (length name) path ≡ name = ap (take (length name)) e ∙ take_at name (slash ∷ rest) (length name) refl in
    let read : get_or path (length name) 0 ≡ slash = ap (λ p. get_or p (length name) 0) e ∙ front_read name rest in
    let long = ap length e ∙ length-append name (slash ∷ rest) in
    subst (λ n. named n mounts ≡ None) cut (tried.longer (length name) far (omega (arith, long)) read)

-- a slash that stands at a place
pub slash_at : (path : List ℕ) (end : ℕ) → end < length path → get_or path end 0 ≡ slash → path ≡ take end path ++ slash ∷ drop (suc end) path
slash_at [] end within is = absurd (omega arith)
slash_at (b ∷ path) zero within is = ap (λ c. c ∷ path) is
slash_at (b ∷ path) (suc end) within is = ap (λ bs. b ∷ bs) (slash_at path end (omega arith) is)

-- the look-up at a place found a mount, so a slash stands there
pub found_before : (mounts : List Mount) (path : List ℕ) (end : ℕ) (mount : Mount) → Some mount ≡ cond (get_or path end 0 == slash) (named (take end path) mounts) None
    → (get_or path end 0 ≡ slash) × (named (take end path) mounts ≡ Some mount)
found_before mounts path end mount e = by (get_or path end 0 == slash) refl e
  where
    by : (v : Bool) → (get_or path end 0 == slash) ≡ v → Some mount ≡ cond v (named (take end path) mounts) None → (get_or path end 0 ≡ slash) × (named (take end path) mounts ≡ Some mount)
    by true is found = (eqb-true (get_or path end 0) slash is, sym found)
    by false is found = absurd (cc)

-- the longest beginning that names a live mount, at a place after which all were tried
pub found_longest : (mounts : List Mount) (path : List ℕ) (end : ℕ) (mount : Mount) → end < length path → AreTried mounts path (suc end)
    → Some mount ≡ cond (get_or path end 0 == slash) (named (take end path) mounts) None → IsFoundIn mounts path mount.number (Some (drop (suc end) path))
found_longest mounts path end mount within tried e =
    let before = found_before mounts path end mount e in
    let len = length-take-le end path (omega arith) in
    record {
      mount = mount;
      name = take end path;
      goes_on = slash_at path end within before.0;
      live = before.1;
      number_is = refl;
      longest = λ longer other goes_on more. tried_names_nothing mounts path (suc end) tried longer other goes_on (omega (arith, len, more));
    }

-- where all but the empty beginning were tried, no beginning names a live mount
pub found_nowhere : (next seats : ℕ) (mounts : List Mount) (path : List ℕ) (end : ℕ) → AllByRecursion (IsMountOf next seats) mounts → AreTried mounts path end → end ≤ 1
    → IsNowhereIn mounts path
found_nowhere next seats mounts path end each tried last [] rest goes_on = names_nothing next seats mounts [] each (λ name. let some = name.some in omega (arith, some))
found_nowhere next seats mounts path end each tried last (b ∷ name) rest goes_on = tried_names_nothing mounts path end tried (b ∷ name) rest goes_on (omega arith)
