-- `deriv` and `nullable` say what matching means: a text matches r iff what is left of r behind it matches the empty text.
use mathlib.Core.Path.{◌≡◌, refl, sym, ap, ◌∙◌}
use mathlib.Core.Logic.{◌⊎◌, inl, inr, ⊎_elim, ◌↔◌}
use mathlib.Core.Bool.{Bool, true, false, cond, ◌&&◌, ◌||◌}
use mathlib.Core.List.{List, [], ◌∷◌, ◌++◌, append_assoc}
use Rattle.std.specs.Prelude.{Option, Some, None}
use Prim.Native.Nat.{ℕ}
use native.Mathlib.Omega.{arith}
use lib.Dec.{T}
use Rattle.token.specs.Regex.{Regex, nothing, empty, set, unset, seq, alt, star, within, nullable, is_nothing, then, or, deriv}
use Rattle.token.proofs.Truth.{T_false}
use Rattle.token.specs.Patterns.{Rule, rule}
use Rattle.token.specs.Scan.{derivs, first}
use Rattle.token.specs.Automaton.{after}
use Rattle.token.specs.Match.{Star, stop, more, In, MatchesNone, First}
use Rattle.token.specs.declared.Token.{Token}

nil_not_cons : {c : ℕ} {w : List ℕ} → c ∷ w ≡ [] → ⊥
nil_not_cons e = let z : ◌≡◌ {A = ℕ} 0 1 = cc in omega arith

-- ---- `or` and `then` match what `alt` and `seq` do

is_nothing_law : (r : Regex) (w : List ℕ) → is_nothing r ≡ true → In r w → ⊥
unfolding is_nothing
is_nothing_law nothing w e h = h
is_nothing_law empty w e h = let z : ◌≡◌ {A = ℕ} 0 1 = cc in omega arith
is_nothing_law (set s) w e h = let z : ◌≡◌ {A = ℕ} 0 1 = cc in omega arith
is_nothing_law (unset s) w e h = let z : ◌≡◌ {A = ℕ} 0 1 = cc in omega arith
is_nothing_law (seq r s) w e h = let z : ◌≡◌ {A = ℕ} 0 1 = cc in omega arith
is_nothing_law (alt r s) w e h = let z : ◌≡◌ {A = ℕ} 0 1 = cc in omega arith
is_nothing_law (star r) w e h = let z : ◌≡◌ {A = ℕ} 0 1 = cc in omega arith

or_in : (r s : Regex) (w : List ℕ) → In (or r s) w ↔ (In r w ⊎ In s w)
unfolding or
or_in r s w = go (is_nothing r) refl (is_nothing s) refl
  where
    go : (p : Bool) → is_nothing r ≡ p → (q : Bool) → is_nothing s ≡ q → In (cond p s (cond q r (alt r s))) w ↔ (In r w ⊎ In s w)
    go true e q f = (inr, ⊎_elim (λ h. absurd (is_nothing_law r w e h)) (λ h. h))
    go false e true f = (inl, ⊎_elim (λ h. h) (λ h. absurd (is_nothing_law s w f h)))
    go false e false f = (λ h. h, λ h. h)

then_in : (r s : Regex) (w : List ℕ) → In (then r s) w ↔ In (seq r s) w
unfolding then
then_in nothing s w = (λ h. absurd h, λ h. absurd h.3)
then_in empty s w = (λ h. ([], w, refl, refl, h), λ h. rw (h.2, h.3) h.4)
then_in (set a) s w = (λ h. h, λ h. h)
then_in (unset a) s w = (λ h. h, λ h. h)
then_in (seq a b) s w = (
  λ h. let g = (then_in b s h.1).0 h.4 in (h.0 ++ g.0, g.1, h.2 ∙ ap (λ l. h.0 ++ l) g.2 ∙ sym (append_assoc h.0 g.0 g.1), (h.0, g.0, refl, h.3, g.3), g.4),
  λ h. let g = h.3 in (g.0, g.1 ++ h.1, h.2 ∙ ap (λ l. l ++ h.1) g.2 ∙ append_assoc g.0 g.1 h.1, g.3, (then_in b s (g.1 ++ h.1)).1 (g.1, h.1, refl, g.4, h.4)),
)
then_in (alt a b) s w = (λ h. h, λ h. h)
then_in (star a) s w = (λ h. h, λ h. h)

-- ---- the empty text

and_T : (a b : Bool) → T (a && b) ↔ (T a × T b)
and_T true b = (λ t. (tt, t), λ h. h.1)
and_T false b = (λ t. absurd t, λ h. h.0)

or_T : (a b : Bool) → T (a || b) ↔ (T a ⊎ T b)
or_T true b = (λ t. inl tt, λ h. tt)
or_T false b = (λ t. inr t, ⊎_elim (λ h. absurd h) (λ h. h))

nils : (u v : List ℕ) → [] ≡ u ++ v → (u ≡ []) × (v ≡ [])
nils [] v e = (refl, sym e)
nils (c ∷ u) v e = absurd (nil_not_cons (sym e))

nullable_in : (r : Regex) → T (nullable r) ↔ In r []
unfolding nullable
nullable_in nothing = (λ t. absurd t, λ h. h)
nullable_in empty = (λ t. refl, λ h. tt)
nullable_in (set s) = (λ t. absurd t, λ h. nil_not_cons (sym h.1))
nullable_in (unset s) = (λ t. absurd t, λ h. nil_not_cons (sym h.1))
nullable_in (seq r s) = (
  λ t. let g = (and_T (nullable r) (nullable s)).0 t in ([], [], refl, (nullable_in r).0 g.0, (nullable_in s).0 g.1),
  λ h. let n = nils h.0 h.1 h.2 in (and_T (nullable r) (nullable s)).1 ((nullable_in r).1 (rw n.0 at h.3), (nullable_in s).1 (rw n.1 at h.4)),
)
nullable_in (alt r s) = (
  λ t. ⊎_elim (λ g. inl ((nullable_in r).0 g)) (λ g. inr ((nullable_in s).0 g)) ((or_T (nullable r) (nullable s)).0 t),
  λ h. (or_T (nullable r) (nullable s)).1 (⊎_elim (λ g. inl ((nullable_in r).1 g)) (λ g. inr ((nullable_in s).1 g)) h),
)
nullable_in (star r) = (λ t. stop refl, λ h. tt)

-- ---- one byte

-- c ∷ w in two parts: the first is empty, or begins with c
parts : (c : ℕ) (w u v : List ℕ) → c ∷ w ≡ u ++ v → ((u ≡ []) × (v ≡ c ∷ w)) ⊎ ((u' : List ℕ) × (u ≡ c ∷ u') × (w ≡ u' ++ v))
parts c w [] v e = inl (refl, sym e)
parts c w (d ∷ u) v e = inr (u, cc, cc)

star_more : (P Q : List ℕ → Type 0) (c : ℕ) (w x : List ℕ) → ((u : List ℕ) → P (c ∷ u) → Q u) → x ≡ c ∷ w → Star P x
    → (u : List ℕ) × (v : List ℕ) × (w ≡ u ++ v) × Q u × Star P v
star_more P Q c w x f e (stop g) = absurd (nil_not_cons (sym e ∙ g))
star_more P Q c w x f e (more {u = u} {v = v} g p t) =
    ⊎_elim (λ h. star_more P Q c w v f h.1 t) (λ h. (h.0, v, h.2, f h.0 (rw h.1 at p), t)) (parts c w u v (sym e ∙ g))

cond_in : (b : Bool) (s : Regex) (w : List ℕ) → In (cond b s nothing) w ↔ (T b × In s w)
cond_in true s w = (λ h. (tt, h), λ h. h.1)
cond_in false s w = (λ h. absurd h, λ h. h.0)

deriv_in : (r : Regex) (c : ℕ) (w : List ℕ) → In (deriv c r) w ↔ In r (c ∷ w)
unfolding deriv
deriv_in nothing c w = (λ h. h, λ h. h)
deriv_in empty c w = (λ h. absurd h, λ h. nil_not_cons h)
deriv_in (set s) c w = go (within c s) refl
  where
    go : (p : Bool) → within c s ≡ p → In (cond p empty nothing) w ↔ In (set s) (c ∷ w)
    go true e = (λ h. (c, ap (c ∷◌) h, e), λ h. cc h.1)
    go false e = (λ h. absurd h, λ h. let d : h.0 ≡ c = cc h.1 in let z : ◌≡◌ {A = ℕ} 0 1 = cc (h.2, ap (λ x. within x s) d) in omega arith)
deriv_in (unset s) c w = go (within c s) refl
  where
    go : (p : Bool) → within c s ≡ p → In (cond p nothing empty) w ↔ In (unset s) (c ∷ w)
    go false e = (λ h. (c, ap (c ∷◌) h, e), λ h. cc h.1)
    go true e = (λ h. absurd h, λ h. let d : h.0 ≡ c = cc h.1 in let z : ◌≡◌ {A = ℕ} 0 1 = cc (h.2, ap (λ x. within x s) d) in omega arith)
deriv_in (seq r s) c w = (
  λ h. ⊎_elim (λ a. let g = (then_in (deriv c r) s w).0 a in (c ∷ g.0, g.1, ap (c ∷◌) g.2, (deriv_in r c g.0).0 g.3, g.4))
      (λ a. let g = (cond_in (nullable r) (deriv c s) w).0 a in ([], c ∷ w, refl, (nullable_in r).0 g.0, (deriv_in s c w).0 g.1))
      ((or_in (then (deriv c r) s) (cond (nullable r) (deriv c s) nothing) w).0 h),
  λ h. (or_in (then (deriv c r) s) (cond (nullable r) (deriv c s) nothing) w).1
      (⊎_elim (λ g. inr ((cond_in (nullable r) (deriv c s) w).1 ((nullable_in r).1 (rw g.0 at h.3), (deriv_in s c w).1 (rw g.1 at h.4))))
      (λ g. inl ((then_in (deriv c r) s w).1 (g.0, h.1, g.2, (deriv_in r c g.0).1 (rw g.1 at h.3), h.4)))
      (parts c w h.0 h.1 h.2)),
)
deriv_in (alt r s) c w = (
  λ h. ⊎_elim (λ g. inl ((deriv_in r c w).0 g)) (λ g. inr ((deriv_in s c w).0 g)) ((or_in (deriv c r) (deriv c s) w).0 h),
  λ h. (or_in (deriv c r) (deriv c s) w).1 (⊎_elim (λ g. inl ((deriv_in r c w).1 g)) (λ g. inr ((deriv_in s c w).1 g)) h),
)
deriv_in (star r) c w = (
  λ h. let g = (then_in (deriv c r) (star r) w).0 h in more (ap (c ∷◌) g.2) ((deriv_in r c g.0).0 g.3) g.4,
  λ h. (then_in (deriv c r) (star r) w).1 (star_more (In r) (In (deriv c r)) c w (c ∷ w) (λ u. (deriv_in r c u).1) refl h),
)

-- ---- a whole text

unfoldable pub left : Regex → List ℕ → Regex
left r [] = r
left r (c ∷ w) = left (deriv c r) w

pub matching : (w : List ℕ) (r : Regex) → T (nullable (left r w)) ↔ In r w
unfolding left
matching [] r = nullable_in r
matching (c ∷ w) r = (λ t. (deriv_in r c w).0 ((matching w (deriv c r)).0 t), λ h. (matching w (deriv c r)).1 ((deriv_in r c w).1 h))

-- ---- the first rule that matches

-- the kind of the first rule that p matches as a whole
unfoldable pub first_by : List Rule → List ℕ → Option Token
first_by [] p = None
first_by (rule k r ∷ rs) p = cond (nullable (left r p)) (Some k) (first_by rs p)

first_step : (c : ℕ) (p : List ℕ) (rs : List Rule) → first_by rs (c ∷ p) ≡ first_by (derivs c rs) p
unfolding first_by derivs left
first_step c p [] = refl
first_step c p (rule k r ∷ rs) = rw (first_step c p rs) (go (is_nothing (deriv c r)) refl)
  where
    go : (b : Bool) → is_nothing (deriv c r) ≡ b
        → cond (nullable (left (deriv c r) p)) (Some k) (first_by (derivs c rs) p) ≡ first_by (cond b (derivs c rs) (rule k (deriv c r) ∷ derivs c rs)) p
    go true e = rw (T_false (nullable (left (deriv c r) p)) (λ t. is_nothing_law (deriv c r) p e ((matching p (deriv c r)).0 t)))
    go false e = refl

pub first_by_law : (p : List ℕ) (rs : List Rule) → first (after rs p) ≡ first_by rs p
unfolding after first first_by left
first_by_law [] [] = refl
first_by_law [] (rule k r ∷ rs) = ap (cond (nullable r) (Some k)) (first_by_law [] rs)
first_by_law (c ∷ p) rs = first_by_law p (derivs c rs) ∙ sym (first_step c p rs)

pub first_none : (rs : List Rule) (p : List ℕ) → first_by rs p ≡ None → MatchesNone rs p
unfolding first_by
first_none [] p e = tt
first_none (rule k r ∷ rs) p e = go (nullable (left r p)) refl e (first_none rs p)
  where
    go : (b : Bool) → nullable (left r p) ≡ b → cond b (Some k) (first_by rs p) ≡ None → (first_by rs p ≡ None → MatchesNone rs p) → MatchesNone (rule k r ∷ rs) p
    go true f h ih = let z : ◌≡◌ {A = ℕ} 0 1 = cc in absurd (omega arith)
    go false f h ih = (λ m. rw f at ((matching p r).1 m), ih h)

pub first_some : (rs : List Rule) (p : List ℕ) (q : Token) → first_by rs p ≡ Some q → First rs p q
unfolding first_by
first_some [] p q e = let z : ◌≡◌ {A = ℕ} 0 1 = cc in absurd (omega arith)
first_some (rule k r ∷ rs) p q e = go (nullable (left r p)) refl e (first_some rs p q)
  where
    go : (b : Bool) → nullable (left r p) ≡ b → cond b (Some k) (first_by rs p) ≡ Some q → (first_by rs p ≡ Some q → First rs p q) → First (rule k r ∷ rs) p q
    go true f h ih = inl ((matching p r).0 (rw f tt), cc)
    go false f h ih = inr (λ m. rw f at ((matching p r).1 m), ih h)
