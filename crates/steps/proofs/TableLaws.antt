-- Records of one width, any above 0, written into a table one after another.
--     lay                 the table with rows written from a record's place on; a row that does not fit is not written
--     lay_append          rows and then more behind them
--     put_lay             a row written before those that stand behind it, afterwards
--     owners_lay          the rows of comments that wait get their owner
--     lay_rest            rows written into the rest of a table
--     wiped_lay           rows that all fit, and 0 past them, are the filled table
--     length_lay          a table keeps its length
use mathlib.Core.Path.{◌≡◌, refl, sym, ap, ◌∙◌}
use mathlib.Core.Bool.{Bool, true, false, cond}
use mathlib.Core.List.{List, [], ◌∷◌, ◌++◌, append_assoc, append-nil}
use Prim.Native.Nat.{ℕ, zero, suc, ◌+◌, ◌*◌, ◌-◌, ◌/◌, ◌≤◌, ◌<◌}
use native.Mathlib.Omega.{arith}
use native.Mathlib.Nat.{div-lt_iff_lt-mul, mul-le-mul_right, add-zero, zero-add, zero-mul}
use borrow.Author.Tests.{ltb-true, ltb-false, leb-true, leb-false, le-leb, lt-leb}
use lib.Dec.{ltb, leb}
use lib.ListN.{length, take, drop, set, length-append, length-drop, take-append-drop}
use lib.Seq.{take_at, drop_at, set_at, length-take-le, take-length, drop-length, take-append-le, take-take}
use Rattle.token.specs.Code.{is}
use Rattle.token.specs.declared.Token.TheVariants as T
use Rattle.lexer.specs.declared.location.LOC.{LOC}
use Rattle.lexer.specs.Tokens.{Lexeme, lexeme}
use Rattle.ast.specs.Lists.{All, anil, acons}
use Rattle.ast.specs.Records.{comment_width, node_width, row, room, comment_row, owned, concat, filled}
use Rattle.ast.proofs.Counts.{Wide, row_width, concat_width, owned_wide, append_all}
use Rattle.steps.specs.Into.{put, put_owner, owners, rest_at, wiped}

unfoldable pub lay : ℕ → ℕ → List (List ℕ) → List ℕ → List ℕ
lay W i [] t = t
lay W i (r ∷ rs) t = lay W (suc i) rs (put W i r t)

-- both widths are above 0
pub node_some : 0 < node_width
unfolding node_width
node_some = omega arith

pub comment_some : 0 < comment_width
unfolding comment_width
comment_some = omega arith

module _ (W : ℕ) (some : 0 < W) where
  -- ---- one record

  -- whether a table holds record i
  fits? : {X : Type 0} (i : ℕ) (t : List ℕ) → (length t < i * W + W → X) → (i * W + W ≤ length t → X) → X
  fits? {X} i t f g = go (leb (i * W + W) (length t)) refl
    where
      go : (b : Bool) → leb (i * W + W) (length t) ≡ b → X
      go true e = g (leb-true _ _ e)
      go false e = f (leb-false _ _ e)

  out_room : (i : ℕ) (t : List ℕ) → length t < i * W + W → leb (room W t) i ≡ true
  unfolding room
  out_room i t h = let g : length t / W < suc i = (div-lt_iff_lt-mul {k = W} {x = length t} {y = suc i} some).1 (omega arith) in le-leb (length t / W) i (omega arith)

  in_room : (i : ℕ) (t : List ℕ) → i * W + W ≤ length t → leb (room W t) i ≡ false
  unfolding room
  in_room i t h = lt-leb _ _ (go (leb (length t / W) i) refl)
    where
      go : (b : Bool) → leb (length t / W) i ≡ b → i < length t / W
      go true e =
          let f : length t / W < suc i = omega (arith, leb-true (length t / W) i e) in
          let g : length t < suc i * W = (div-lt_iff_lt-mul {k = W} {x = length t} {y = suc i} some).0 f in
          absurd (omega arith)
      go false e = leb-false _ _ e

  put_out_law : (i : ℕ) (r t : List ℕ) → length t < i * W + W → put W i r t ≡ t
  unfolding put
  put_out_law i r t h = rw (out_room i t h)

  put_in : (i : ℕ) (r t : List ℕ) → i * W + W ≤ length t → put W i r t ≡ take (i * W) t ++ (r ++ drop (i * W + W) t)
  unfolding put
  put_in i r t h = rw (in_room i t h)

  put_at : (i : ℕ) (r a x c : List ℕ) → length a ≡ i * W → length x ≡ W → put W i r (a ++ (x ++ c)) ≡ a ++ (r ++ c)
  put_at i r a x c h g =
      let e : drop (i * W + W) (a ++ (x ++ c)) ≡ c = rw (← (append_assoc a x c)) (drop_at (a ++ x) c (i * W + W) (omega (arith, length-append a x))) in
      put_in i r (a ++ (x ++ c)) (omega (arith, length-append a (x ++ c), length-append x c)) ∙ rw (take_at a (x ++ c) (i * W) h, e)

  length_put : (i : ℕ) (r t : List ℕ) → Wide W r → length (put W i r t) ≡ length t
  length_put i r t w =
      fits? i t (λ h. ap length (put_out_law i r t h))
      (λ h. ap length (put_in i r t h)
      ∙ omega (
        arith,
        length-append (take (i * W) t) (r ++ drop (i * W + W) t),
        length-append r (drop (i * W + W) t),
        length-take-le (i * W) t (omega arith),
        length-drop (i * W + W) t,
      ))

  -- a table that holds record i: what is before it, the record, what is behind it
  record Parts (i : ℕ) (t : List ℕ) : Type 0 where
    before : List ℕ
    this : List ℕ
    behind : List ℕ
    whole : t ≡ before ++ (this ++ behind)
    before_long : length before ≡ i
    this_long : length this ≡ W

  parts : (i : ℕ) (t : List ℕ) → i + W ≤ length t → Parts i t
  parts i t h =
      record {
        before = take i t;
        this = take W (drop i t);
        behind = drop W (drop i t);
        whole = sym (rw (take-append-drop W (drop i t)) (take-append-drop i t));
        before_long = length-take-le i t (omega arith);
        this_long = length-take-le W (drop i t) (omega (arith, length-drop i t));
      }

  -- ---- two records

  put_far : (j : ℕ) (q a x b y c : List ℕ) → length a + (length x + length b) ≡ j * W → length y ≡ W
      → put W j q (a ++ (x ++ (b ++ (y ++ c)))) ≡ a ++ (x ++ (b ++ (q ++ c)))
  put_far j q a x b y c h g =
      let e : (z : List ℕ) → a ++ (x ++ (b ++ z)) ≡ (a ++ (x ++ b)) ++ z = λ z. simp append_assoc in
      rw (e (y ++ c), e (q ++ c)) (put_at j q (a ++ (x ++ b)) y c (omega (arith, length-append a (x ++ b), length-append x b)) g)

  swap_at : (i j : ℕ) (r q a x b y c : List ℕ) → length a ≡ i * W → length x ≡ W → length r ≡ W → length a + (W + length b) ≡ j * W → length y ≡ W
      → put W i r (put W j q (a ++ (x ++ (b ++ (y ++ c))))) ≡ put W j q (put W i r (a ++ (x ++ (b ++ (y ++ c)))))
  swap_at i j r q a x b y c ea ex er eb ey =
      rw (put_far j q a x b y c (omega arith) ey, put_at i r a x (b ++ (q ++ c)) ea ex, put_at i r a x (b ++ (y ++ c)) ea ex)
      (sym (put_far j q a r b y c (omega arith) ey))

  put_both : (i j : ℕ) (r q t : List ℕ) → i < j → Wide W r → i * W + W ≤ length t → j * W + W ≤ length t → put W i r (put W j q t) ≡ put W j q (put W i r t)
  put_both i j r q t l w h g =
      let p = parts (i * W) t h in
      let f : suc i * W ≤ j * W = mul-le-mul_right W l in
      let o = parts (j * W - (i * W + W)) p.behind
      (omega (arith, f, ap length p.whole, length-append p.before (p.this ++ p.behind), length-append p.this p.behind)) in
      let e : t ≡ p.before ++ (p.this ++ (o.before ++ (o.this ++ o.behind))) = rw (← o.whole) p.whole in
      rw e (swap_at i j r q p.before p.this o.before o.this o.behind p.before_long p.this_long w (omega (arith, f, p.before_long, o.before_long)) o.this_long)

  put_comm : (i j : ℕ) (r q t : List ℕ) → i < j → Wide W r → Wide W q → put W i r (put W j q t) ≡ put W j q (put W i r t)
  put_comm i j r q t l w v =
      let f : suc i * W ≤ j * W = mul-le-mul_right W l in
      fits? j t
      (λ h. ap (put W i r) (put_out_law j q t h) ∙ sym (put_out_law j q (put W i r t) (omega (arith, length_put i r t w))))
      (λ h. put_both i j r q t l w (omega (arith, f)) h)

  -- ---- many

  pub lay_append : (i : ℕ) (xs ys : List (List ℕ)) (t : List ℕ) → lay W i (xs ++ ys) t ≡ lay W (i + length xs) ys (lay W i xs t)
  unfolding lay
  lay_append i [] ys t = rw (add-zero i)
  lay_append i (x ∷ xs) ys t =
      let e : suc i + length xs ≡ i + suc (length xs) = omega arith in
      rw (← e) (lay_append (suc i) xs ys (put W i x t))

  put_lay_after : (i j : ℕ) (r : List ℕ) {rs : List (List ℕ)} (t : List ℕ) → i < j → Wide W r → All (Wide W) rs → put W i r (lay W j rs t) ≡ lay W j rs (put W i r t)
  unfolding lay
  put_lay_after i j r t l w anil = refl
  put_lay_after i j r t l w (acons {x = q} {xs = rs} v vs) =
      put_lay_after i (suc j) r (put W j q t) (omega arith) w vs ∙ ap (lay W (suc j) rs) (put_comm i j r q t l w v)

  pub put_lay : (i : ℕ) (r : List ℕ) {rs : List (List ℕ)} (t : List ℕ) → Wide W r → All (Wide W) rs → put W i r (lay W (suc i) rs t) ≡ lay W i (r ∷ rs) t
  unfolding lay
  put_lay i r t w ws = put_lay_after i (suc i) r t (omega arith) w ws

  pub length_lay : (i : ℕ) {rs : List (List ℕ)} (t : List ℕ) → All (Wide W) rs → length (lay W i rs t) ≡ length t
  unfolding lay
  length_lay i t anil = refl
  length_lay i t (acons {x = r} w ws) = length_lay (suc i) (put W i r t) ws ∙ length_put i r t w

  -- ---- the rest of a table

  rest_put : (n j : ℕ) (r t : List ℕ) → n * W ≤ length t → take (n * W) t ++ put W j r (drop (n * W) t) ≡ put W (n + j) r t
  rest_put n j r t h =
      fits? (n + j) t
      (λ g. ap (λ (x : List ℕ). take (n * W) t ++ x) (put_out_law j r (drop (n * W) t) (omega (arith, length-drop (n * W) t)))
      ∙ take-append-drop (n * W) t ∙ sym (put_out_law (n + j) r t g))
      (λ g.
      let o = parts (j * W) (drop (n * W) t) (omega (arith, length-drop (n * W) t)) in
      let b = take (n * W) t in
      let e : t ≡ (b ++ o.before) ++ (o.this ++ o.behind) =
      sym (take-append-drop (n * W) t) ∙ ap (λ (x : List ℕ). b ++ x) o.whole ∙ sym (append_assoc b o.before (o.this ++ o.behind)) in
      ap (λ (x : List ℕ). b ++ put W j r x) o.whole
      ∙ ap (λ (x : List ℕ). b ++ x) (put_at j r o.before o.this o.behind o.before_long o.this_long)
      ∙ sym (append_assoc b o.before (r ++ o.behind))
      ∙ sym (ap (put W (n + j) r) e
      ∙ put_at (n + j) r (b ++ o.before) o.this o.behind (omega (arith, length-append b o.before, length-take-le (n * W) t h, o.before_long)) o.this_long))

  rest_lay : (n j : ℕ) {rs : List (List ℕ)} (t : List ℕ) → All (Wide W) rs → n * W ≤ length t → take (n * W) t ++ lay W j rs (drop (n * W) t) ≡ lay W (n + j) rs t
  unfolding lay
  rest_lay n j t anil h = take-append-drop (n * W) t
  rest_lay n j t (acons {x = r} {xs = rs} w ws) h =
      let t' = put W (n + j) r t in
      let k = n * W in
      let e = rest_put n j r t h in
      let f : take k t' ≡ take k t = ap (take k) (sym e) ∙ take_at (take k t) (put W j r (drop k t)) k (length-take-le k t h) in
      let g : drop k t' ≡ put W j r (drop k t) = ap (drop k) (sym e) ∙ drop_at (take k t) (put W j r (drop k t)) k (length-take-le k t h) in
      let m : n + suc j ≡ suc (n + j) = omega arith in
      rw (← f, ← g, ← m) (rest_lay n (suc j) t' ws (omega (arith, length_put (n + j) r t w)))

  lay_out : (n : ℕ) (rs : List (List ℕ)) (t : List ℕ) → length t < n * W + W → lay W n rs t ≡ t
  unfolding lay
  lay_out n [] t h = refl
  lay_out n (r ∷ rs) t h = rw (put_out_law n r t h) (lay_out (suc n) rs t (omega arith))

  pub lay_rest : (n : ℕ) {rs : List (List ℕ)} (t : List ℕ) → All (Wide W) rs
      → take (rest_at (n * W) (length t)) t ++ lay W 0 rs (drop (rest_at (n * W) (length t)) t) ≡ lay W n rs t
  unfolding rest_at
  lay_rest n {rs} t ws = go (ltb (n * W) (length t)) refl
    where
      go : (b : Bool) → ltb (n * W) (length t) ≡ b → take (cond b (n * W) (length t)) t ++ lay W 0 rs (drop (cond b (n * W) (length t)) t) ≡ lay W n rs t
      go true e = rw (add-zero n) at (rest_lay n 0 t ws (omega (arith, ltb-true (n * W) (length t) e)))
      go false e =
          rw (take-length t, drop-length t, lay_out 0 rs [] (omega arith), append-nil t)
          (sym (lay_out n rs t (omega (arith, ltb-false (n * W) (length t) e))))

  -- ---- the whole table

  take_put : (i j : ℕ) (q t : List ℕ) → i ≤ j → take (i * W) (put W j q t) ≡ take (i * W) t
  take_put i j q t h =
      let f : i * W ≤ j * W = mul-le-mul_right W h in
      fits? j t (λ g. ap (take (i * W)) (put_out_law j q t g))
      (λ g. ap (take (i * W)) (put_in j q t g)
      ∙ take-append-le (i * W) (take (j * W) t) (q ++ drop (j * W + W) t) (omega (arith, f, length-take-le (j * W) t (omega arith)))
      ∙ take-take (i * W) (j * W) t f)

  take_lay : (i j : ℕ) (rs : List (List ℕ)) (t : List ℕ) → i ≤ j → take (i * W) (lay W j rs t) ≡ take (i * W) t
  unfolding lay
  take_lay i j [] t h = refl
  take_lay i j (r ∷ rs) t h = take_lay i (suc j) rs (put W j r t) (omega arith) ∙ take_put i j r t h

  take_all_laid : (i : ℕ) {rs : List (List ℕ)} (t : List ℕ) → All (Wide W) rs → (i + length rs) * W ≤ length t
      → take ((i + length rs) * W) (lay W i rs t) ≡ take (i * W) t ++ concat rs
  unfolding lay concat
  take_all_laid i t anil h = rw (add-zero i, append-nil)
  take_all_laid i t (acons {x = r} {xs = rs} w ws) h =
      let e : i + suc (length rs) ≡ suc i + length rs = omega arith in
      let b = take (i * W) t in
      let g : take (suc i * W) (put W i r t) ≡ b ++ r =
      ap (take (suc i * W)) (put_in i r t (omega arith) ∙ sym (append_assoc b r (drop (i * W + W) t)))
      ∙ take_at (b ++ r) (drop (i * W + W) t) (suc i * W) (omega (arith, length-append b r, length-take-le (i * W) t (omega arith))) in
      rw e (take_all_laid (suc i) (put W i r t) ws (omega (arith, length_put i r t w))
      ∙ ap (λ (x : List ℕ). x ++ concat rs) g ∙ append_assoc b r (concat rs))

  room_holds : (n : ℕ) (t : List ℕ) → n ≤ room W t → n * W ≤ length t
  room_holds zero t h = omega arith
  room_holds (suc n) t h = fits? n t (λ g. absurd (omega (arith, leb-true (room W t) n (out_room n t g)))) (λ g. omega arith)

  pub wiped_lay : {rs more : List (List ℕ)} (t : List ℕ) → All (Wide W) rs → All (Wide W) more → length rs ≤ room W t
      → wiped (length rs * W) (lay W 0 (rs ++ more) t) ≡ filled rs t
  unfolding wiped filled
  wiped_lay {rs} {more} t ws vs h =
      let n = length rs in
      let g : n * W ≤ length t = room_holds n t h in
      let e : take (n * W) (lay W 0 (rs ++ more) t) ≡ concat rs =
      ap (take (n * W)) (lay_append 0 rs more t ∙ ap (λ (i : ℕ). lay W i more (lay W 0 rs t)) (zero-add n))
      ∙ take_lay n n more (lay W 0 rs t) (omega arith)
      ∙ (rw (zero-add n, zero-mul W) at (take_all_laid 0 t ws (omega arith))) in
      let f : length (lay W 0 (rs ++ more) t) - n * W ≡ length t - length (concat rs) = omega (arith, length_lay 0 t (append_all ws vs), concat_width ws) in
      rw (e, f)

-- ---- the owners of comments

owner_in : (i p : ℕ) (t : List ℕ) → i * 9 + 9 ≤ length t → put_owner i p t ≡ set t (i * 9 + 1) p
unfolding put_owner comment_width
owner_in i p t h = rw (in_room comment_width comment_some i t h)

owner_out : (i p : ℕ) (t : List ℕ) → length t < i * 9 + 9 → put_owner i p t ≡ t
unfolding put_owner comment_width
owner_out i p t h = rw (out_room comment_width comment_some i t h)

put_owner_law : (i p k : ℕ) (l : LOC) (t : List ℕ) → put_owner i p (put comment_width i (row k 0 0 l) t) ≡ put comment_width i (row k p 0 l) t
unfolding row comment_width
put_owner_law i p k l t =
    fits? comment_width comment_some i t
    (λ h. ap (put_owner i p) (put_out_law comment_width comment_some i _ t h) ∙ owner_out i p t h ∙ sym (put_out_law comment_width comment_some i _ t h))
    (λ h.
    let o = parts comment_width comment_some (i * 9) t h in
    let a = o.before in
    let c = o.behind in
    let tail = l.start.index ∷ l.start.line ∷ l.start.column ∷ l.end.index ∷ l.end.line ∷ l.end.column ∷ [] in
    let e : (q : ℕ) → put comment_width i (k ∷ q ∷ 0 ∷ tail) t ≡ a ++ ((k ∷ q ∷ 0 ∷ tail) ++ c) =
    λ q. ap (put comment_width i _) o.whole ∙ put_at comment_width comment_some i _ a o.this c o.before_long o.this_long in
    let g : (q : ℕ) → a ++ ((k ∷ q ∷ 0 ∷ tail) ++ c) ≡ (a ++ k ∷ []) ++ q ∷ 0 ∷ (tail ++ c) = λ q. sym (append_assoc a (k ∷ []) _) in
    ap (put_owner i p) (e 0)
    ∙ owner_in i p (a ++ ((k ∷ 0 ∷ 0 ∷ tail) ++ c)) (omega (arith, length-append a ((k ∷ 0 ∷ 0 ∷ tail) ++ c), length-append (k ∷ 0 ∷ 0 ∷ tail) c, o.before_long))
    ∙ ap (λ (x : List ℕ). set x (i * 9 + 1) p) (g 0)
    ∙ set_at (a ++ k ∷ []) 0 (0 ∷ (tail ++ c)) p (i * 9 + 1) (omega (arith, length-append a (k ∷ []), o.before_long))
    ∙ sym (g p) ∙ sym (e p))

pub owners_lay : (i p : ℕ) (ws : List Lexeme) (v : List ℕ) → owners i (length ws) p (lay comment_width i (owned 0 ws) v) ≡ lay comment_width i (owned p ws) v
unfolding owners owned comment_row lay
owners_lay i p [] v = refl
owners_lay i p (lexeme k w l ∷ ws) v =
    let z : ℕ = cond (is k T.LineComment) 32 33 in
    let e : i + 1 ≡ suc i = omega arith in
    let rest = lay comment_width (suc i) (owned 0 ws) v in
    ap (λ (m : ℕ). owners m (length ws) p (put_owner i p (lay comment_width (suc i) (owned 0 ws) (put comment_width i (row z 0 0 l) v)))) e
    ∙ ap (λ (x : List ℕ). owners (suc i) (length ws) p (put_owner i p x)) (sym (put_lay_after comment_width comment_some i (suc i) (row z 0 0 l) v (omega arith) (row_width z 0 0 l) (owned_wide 0 ws)))
    ∙ ap (owners (suc i) (length ws) p)
    (put_owner_law i p z l rest ∙ put_lay_after comment_width comment_some i (suc i) (row z p 0 l) v (omega arith) (row_width z p 0 l) (owned_wide 0 ws))
    ∙ owners_lay (suc i) p ws (put comment_width i (row z p 0 l) v)
