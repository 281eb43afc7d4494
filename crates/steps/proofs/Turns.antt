-- One turn of the parser's loops over tokens and over comments.
use mathlib.Core.Path.{◌≡◌, refl, sym, ap, ◌∙◌}
use mathlib.Core.Bool.{Bool, true, false}
use mathlib.Core.List.{List}
use Prim.Native.Nat.{ℕ, suc, ◌+◌, ◌-◌, ◌≤◌, ◌<◌}
use native.Mathlib.Omega.{arith}
use lib.Dec.{eqb}
use Rattle.steps.specs.declared.state.Parser.{Parser}
use Rattle.steps.specs.declared.state.State.{State}
use Rattle.steps.specs.Into.{code_of, M, Falls, Rests, after, ◌⨟◌, done, advanced, advance_in, bytes_left, passes, skip_in, is_comment, is_separator, waits, wait_in, skip_comments_in, put_owner, owners}
use Rattle.steps.specs.Reads.{Source, source, Parsed, tells, Does, Reads, left_of, Shortens}
use Rattle.steps.proofs.Bytes.{passed_is, comments_is, advance_falls, within_left}
use Rattle.steps.proofs.Chain.{left_by, text_by}

-- ---- skip

module _ (text : List ℕ) (s : Bool) (st : State) (t u : List ℕ) where
  pub skip_stop : passes (code_of st) s ≡ false → skip_in text s st t u ≡ done st t u
  unfolding skip_in
  skip_stop e = ap (λ (x : State). done x t u) (rw e at (passed_is text s st))

  pub skip_pass : passes (code_of st) s ≡ true → skip_in text s st t u ≡ after (advance_in text st t u) (skip_in text s)
  unfolding skip_in advance_in after
  skip_pass e = ap (λ (x : State). done x t u) (rw e at (passed_is text s st))

  -- ---- skip_comments

  pub comments_wait : is_comment (code_of st) ≡ true → skip_comments_in text s st t u ≡ after (wait_in st t u) (advance_in text ⨟ skip_comments_in text s)
  unfolding wait_in advance_in after
  comments_wait e = rw e at (comments_is text s st t u)

  -- no comment: the end, unless it is a separator and those are passed too
  module _ (e : is_comment (code_of st) ≡ false) where
    pub comments_only : s ≡ false → skip_comments_in text s st t u ≡ done st t u
    comments_only f = comments_is text s st t u ∙ rw (e, f)

    pub comments_stop : s ≡ true → is_separator (code_of st) ≡ false → skip_comments_in text s st t u ≡ done st t u
    comments_stop f g = comments_is text s st t u ∙ rw (e, f, g)

    pub comments_pass : s ≡ true → is_separator (code_of st) ≡ true → skip_comments_in text s st t u ≡ after (advance_in text st t u) (skip_comments_in text s)
    unfolding advance_in after
    comments_pass f g = comments_is text s st t u ∙ rw (e, f, g)

-- ---- an advance leaves fewer bytes

pub fewer_by : {s t : Parser} → Does (λ x. advance_in x.text) s t → eqb (code_of s.state) 255 ≡ false → bytes_left t.text.now t.state < bytes_left s.text.now s.state
unfolding advance_in
fewer_by {s} {t} w e =
    let a : t.state ≡ advanced s.text.now s.state = left_by w refl in
    let b : t.text.now ≡ s.text.now = text_by w in
    rw (a, b) (advance_falls s.text.now s.state e)

-- a comment that waits is still ahead
pub waiting_by : {s t : Parser} → Does (λ x. wait_in) s t → (code_of t.state ≡ code_of s.state) × (bytes_left t.text.now t.state ≡ bytes_left s.text.now s.state)
unfolding wait_in waits bytes_left
waiting_by {s} {t} w =
    let a : t.state ≡ waits s.state = left_by w refl in
    let b : t.text.now ≡ s.text.now = text_by w in
    (ap code_of a, rw (a, b))

-- ---- by the contract: what rests leaves no more bytes, what falls fewer

pub rests_by : {m : Source → M} {s t : Parser} → ((x : Source) → Rests x.text (m x)) → Does m s t → left_of t ≤ left_of s
unfolding tells
rests_by {m} {s} {t} f w =
    let h = within_left (f (source s) s.state s.nodes.now s.comments.now) w.goes in
    rw (text_by w) (omega (arith, h))

pub shortens_by : {m : Source → M} {s t : Parser} {r : Parsed} → ((x : Source) → Falls x.text (m x)) → Reads m s t r → Shortens s t r
unfolding tells
shortens_by {m} {s} {t} f w e =
    let g : done t.state t.nodes.now t.comments.now ≡ m (source s) s.state s.nodes.now s.comments.now =
    sym (ap (λ (a : Parsed). tells a t.state t.nodes.now t.comments.now) e) ∙ w.goes in
    let h : 1 + bytes_left s.text.now t.state ≤ bytes_left s.text.now s.state = within_left (f (source s) s.state s.nodes.now s.comments.now) g in
    rw (text_by w) (omega (arith, h))

-- ---- own

pub own_start : (f n p : ℕ) (u : List ℕ) → owners f n p u ≡ owners (f + 0) (n - 0) p u
own_start f n p u =
    let a : f + 0 ≡ f = omega arith in
    let b : n - 0 ≡ n = omega arith in
    rw (a, b)

module _ (f n p i : ℕ) (u : List ℕ) where
  pub own_step : (v : List ℕ) → i < n → v ≡ put_owner (f + i) p u → owners (f + i) (n - i) p u ≡ owners (f + (i + 1)) (n - (i + 1)) p v
  unfolding owners
  own_step v h g =
      let a : f + (i + 1) ≡ f + i + 1 = omega arith in
      let b : n - i ≡ suc (n - (i + 1)) = omega arith in
      rw (a, g) (ap (λ (k : ℕ). owners (f + i) k p u) b)

  pub own_done : n ≤ i → owners (f + i) (n - i) p u ≡ u
  unfolding owners
  own_done h = let e : n - i ≡ 0 = omega arith in rw e
