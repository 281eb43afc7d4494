-- What the code of a call leaves in memory, and the turns of a run.
--     take_min, drop_min                    so many of a slice, or as many as there are
--     handed                                the memory, by the names that it was lent under
--     read_is                               a reading
--     store_refused, store_long, store_in   what is made the file
--     stored                                a copy in the space, and 0 behind it
--     written_in                            what an accepted printing wrote lies in the output
--     print_is                              a printing
--     call_is                               one call
--     size_in, space_long                   after a call the file lies in its space, which is as long as it was
--     begun, turned, over                   the start of a run, a turn, its end
--     turned_in                             behind a turn the file lies in its space
--     started                               a file is no longer than its space
use mathlib.Core.Path.{◌≡◌, refl, sym, ap, ◌∙◌}
use mathlib.Core.Bool.{Bool, true, false, cond, not, false≢true}
use mathlib.Core.List.{List, [], ◌∷◌, ◌++◌}
use Prim.Native.Nat.{ℕ, ◌+◌, ◌-◌, ◌≤◌, ◌<◌, min}
use native.Mathlib.Omega.{arith}
use lib.Dec.{eqb, leb, ltb}
use borrow.Author.Tests.{leb-true, leb-false, le-leb, lt-leb}
use lib.ListN.{length, take, drop, get_or, replicate, length-append, length-take, length-replicate, drop_of_length-le}
use lib.Seq.{take_all, length-take-le}
use Rattle.std.proofs.lemmas.List.{take-append-le}
use Rattle.lexer.specs.Outcome.{Outcome, accepted, refused}
use Rattle.ast.specs.Clear.{Cleared}
use Rattle.ast.specs.Laid.{laid_with}
use Rattle.ast.proofs.ClearLaws.{cleared_by}
use Rattle.ast.proofs.LaidLaws.{laid_is}
use Rattle.ast.specs.Records.{comment_width, node_width, node_rows, notes, room}
use Rattle.parser.specs.Read.{Answer}
use Rattle.ast.specs.Ast.{Definition}
use Rattle.parser.specs.Read.{fitted, Reading, reading}
use Rattle.parser.specs.Read.{told as read_told}
use Rattle.writer.specs.Print.{printed}
use Rattle.std.specs.Prelude.{Ok, Err}
use Rattle.lexer.specs.Refusal.{said_by}
use Rattle.lexer.specs.declared.error.Refusal.{Refusal}
use Rattle.writer.specs.declared.Print.{Print}
use Rattle.writer.specs.Write.{Printed}
use Rattle.writer.specs.Write as W
use Rattle.writer.specs.Write.{Printing, said, told, bytes_written, outcome_at, print_of, printing}
use Rattle.demand.specs.Calls.{has_printed, gives}
use Rattle.file.specs.declared.Request as R
use Rattle.file.specs.declared.File as F
use Rattle.reader.specs.declared.Lent.{Lent}
use Rattle.file.specs.Run.{Request, ask, requests_of, File, file_of, Memory, memory, call_of, kept_in, settled, after, runs}
use Rattle.file.specs.Calls.{asked, Asks, held, Leaves}

-- ---- so many of a slice, or as many as there are

module _ (n : ℕ) (t : List ℕ) where
  take_by : (b : Bool) → leb n (length t) ≡ b → take (min n (length t)) t ≡ take n t
  take_by true e =
      let l : n ≤ length t = leb-true _ _ e in
      let s : min n (length t) ≡ n = omega arith in
      rw s
  take_by false e =
      let l : length t < n = leb-false _ _ e in
      take_all (min n (length t)) t (omega arith) ∙ sym (take_all n t (omega arith))

  drop_by : (b : Bool) → leb n (length t) ≡ b → drop (min n (length t)) t ≡ drop n t
  drop_by true e =
      let l : n ≤ length t = leb-true _ _ e in
      let s : min n (length t) ≡ n = omega arith in
      rw s
  drop_by false e =
      let l : length t < n = leb-false _ _ e in
      drop_of_length-le t {i = min n (length t)} (omega arith) ∙ sym (drop_of_length-le t {i = n} (omega arith))

  pub take_min : take (min n (length t)) t ≡ take n t
  take_min = take_by _ refl

  pub drop_min : drop (min n (length t)) t ≡ drop n t
  drop_min = drop_by _ refl

-- ---- what a call was lent, by the names that it was lent under

pub handed : (m : Memory) {n : ℕ} {s s' ns ns' cs cs' out out' : List ℕ} → memory n s ns cs out ≡ m → s' ≡ s → ns' ≡ ns → cs' ≡ cs → out' ≡ out → memory n s' ns' cs' out' ≡ m
handed m e h i j k = rw (h, i, j, k) e

-- ---- read

reads_is : (indent file : ℕ) (space ns cs out ns' cs' : List ℕ) (a b c : ℕ) → let w = reading (take file space) (take a ns) (take b cs) in
    ns' ≡ w.nodes ++ drop a ns → cs' ≡ w.comments ++ drop b cs → memory file space ns' cs' out ≡ after indent (ask false a b c) (memory file space ns cs out)
unfolding after settled call_of gives
reads_is indent file space ns cs out ns' cs' a b c e f = rw (e, f)

pub read_is : (indent file : ℕ) (space ns cs out ns' cs' : List ℕ) (a b c x y : ℕ) (r : Answer)
    → x ≡ min a (length ns) → y ≡ min b (length cs)
    → read_told r ns' cs' ≡ reading (take file space) (take x ns) (take y cs)
    → memory file space (ns' ++ drop x ns) (cs' ++ drop y cs) out ≡ after indent (ask false a b c) (memory file space ns cs out)
read_is indent file space ns cs out ns' cs' a b c x y r k l e =
    let q : read_told r ns' cs' ≡ reading (take file space) (take a ns) (take b cs) = e ∙ rw (k, l, take_min a ns, take_min b cs) in
    reads_is indent file space ns cs out _ _ a b c
    (rw (k, drop_min a ns) (ap (λ (w : Reading). w.nodes ++ drop a ns) q))
    (rw (l, drop_min b cs) (ap (λ (w : Reading). w.comments ++ drop b cs) q))

-- ---- store

-- a print's bytes copied into a space, and 0 behind them
pub stored : (n : ℕ) (out space copied space' : List ℕ) → n ≤ length space → n ≤ length out → copied ≡ take n out ++ drop (length (take n out)) space
    → Cleared (λ x. x ≡ 0) n copied space' → space' ≡ laid_with 0 (take n out) space
stored n out space copied space' l k e c =
    let t : length (take n out) ≡ n = length-take-le n out k in
    let u : n ≡ min (length (take n out)) (length space) = omega (arith, t, l) in
    let d : copied ≡ take n out ++ drop n space = rw t at e in
    rw d at (cleared_by 0 n copied space' c) ∙ laid_is 0 (take n out) space n u (take n out) (sym (take_all n (take n out) (omega (arith, t))))

module _ (p : Printed) (out : List ℕ) (f : File) where
  pub store_refused : (r : Refusal) → p ≡ Err r → f ≡ kept_in (said p) out f
  unfolding kept_in said_by
  store_refused r h = rw h

  module _ (q : Print) (h : p ≡ Ok q) where
    pub store_long : length f.space < q.bytes → f ≡ kept_in (said p) out f
    unfolding kept_in said_by
    store_long l = rw (h, lt-leb q.bytes (length f.space) l)

    pub store_in : (space' : List ℕ) → q.bytes ≤ length f.space → q.bytes ≤ length out → space' ≡ laid_with 0 (take q.bytes out) f.space
        → file_of q.bytes space' ≡ kept_in (said p) out f
    unfolding kept_in said_by W.written laid_with
    store_in space' l k e =
        let t : length (take q.bytes out) ≡ q.bytes = length-take-le q.bytes out k in
        let u : take (length f.space) (take q.bytes out) ≡ take q.bytes out = take_all (length f.space) (take q.bytes out) (omega (arith, t, l)) in
        rw (h, le-leb q.bytes (length f.space) l, e, u, t)

-- ---- print

is_accepted : Outcome (List ℕ) → Bool
is_accepted (accepted ns) = true
is_accepted (refused e p n) = false

bytes_of : Outcome (List ℕ) → ℕ
bytes_of (accepted ns) = bytes_written ns
bytes_of (refused e p n) = 0

clash : (e p l : ℕ) (ks : List ℕ) → refused e p l ≡ accepted ks → ⊥
unfolding is_accepted
clash e p l ks h = false≢true (ap is_accepted h)

fitted_in : (x y z : Bool) (n c : ℕ) (p out ks : List ℕ) → ltb (length out) (length p) ≡ z
    → let a = W.fitted_out (cond x (refused 24 0 0) (cond y (refused 25 0 0) (accepted (n ∷ c ∷ [])))) p out in
    a ≡ accepted ks → bytes_written ks ≤ length (W.written a p out)
unfolding W.fitted_out W.written bytes_of
fitted_in true y z n c p out ks h e = absurd (clash _ _ _ _ e)
fitted_in false true z n c p out ks h e = absurd (clash _ _ _ _ e)
fitted_in false false true n c p out ks h e = absurd (clash _ _ _ _ (rw h at e))
fitted_in false false false n c p out ks h e =
    let l : length p ≡ bytes_written ks = ap bytes_of (rw h at e) in
    rw h (omega (arith, l, length-append p (replicate (length out - length p) 0)))

says_in : (o : Outcome (List Definition)) (indent : ℕ) (ns cs out ks : List ℕ)
    → let a = W.answer indent o ns cs out in a ≡ accepted ks → bytes_written ks ≤ length (W.written a (print_of indent o) out)
unfolding W.answer fitted print_of
says_in (refused e p l) indent ns cs out ks h = absurd (clash _ _ _ _ h)
says_in (accepted ds) indent ns cs out ks h =
    fitted_in (ltb (room node_width ns) (length (node_rows ds))) (ltb (room comment_width cs) (length (notes ds))) _ _ _ (printed indent ds) out ks refl h

printing_in : (t : List ℕ) (indent : ℕ) (ns cs out ks : List ℕ)
    → (printing t indent ns cs out).says ≡ accepted ks → bytes_written ks ≤ length (printing t indent ns cs out).output
unfolding printing
printing_in t indent ns cs out ks h = says_in (outcome_at indent t) indent ns cs out ks h

-- what an accepted printing wrote lies in what it was lent of the output
module _ (t : List ℕ) (indent : ℕ) (ns cs out ns' cs' out' : List ℕ) (p : Printed) (e : told p ns' cs' out' ≡ printing t indent ns cs out) where
  says_long : (ks : List ℕ) → said p ≡ accepted ks → bytes_written ks ≤ length out'
  says_long ks h = rw (ap (λ (w : Printing). w.output) e) (printing_in t indent ns cs out ks (sym (ap (λ (w : Printing). w.says) e) ∙ h))

  pub written_in : (rest : List ℕ) (b : Print) → p ≡ Ok b → b.bytes ≤ length (out' ++ rest)
  unfolding said_by
  written_in rest b h =
      let l : b.bytes ≤ length out' = says_long (b.nodes ∷ b.comments ∷ b.bytes ∷ []) (ap said h) in
      omega (arith, l, length-append out' rest)

-- what lies past it is not looked at
kept_front : (a : Outcome (List ℕ)) (out rest : List ℕ) (f : File) → ((ks : List ℕ) → a ≡ accepted ks → bytes_written ks ≤ length out) → kept_in a (out ++ rest) f ≡ kept_in a out f
unfolding kept_in
kept_front (refused e p n) out rest f h = refl
kept_front (accepted ns) out rest f h = rw (take-append-le (bytes_written ns) out rest (h ns refl))

-- the memory with another file
abbrev pub with_file : Memory → File → Memory
with_file m f = record { file = f; nodes = m.nodes; comments = m.comments; output = m.output }

pub print_is : (space ns ns' cs cs' out out' : List ℕ) (file indent a b c x y z : ℕ) (p : Printed)
    → x ≡ min a (length ns) → y ≡ min b (length cs) → z ≡ min c (length out)
    → told p ns' cs' out' ≡ printing (take file space) indent (take x ns) (take y cs) (take z out)
    → (f : File) → f ≡ kept_in (said p) (out' ++ drop z out) (file_of file space)
    → with_file (memory file space (ns' ++ drop x ns) (cs' ++ drop y cs) (out' ++ drop z out)) f ≡ after indent (ask true a b c) (memory file space ns cs out)
unfolding after settled call_of gives
print_is space ns ns' cs cs' out out' file indent a b c x y z p i j k e f s =
    let q : told p ns' cs' out' ≡ printing (take file space) indent (take a ns) (take b cs) (take c out) =
    e ∙ rw (i, j, k, take_min a ns, take_min b cs, take_min c out) in
    ap (with_file (memory file space (ns' ++ drop x ns) (cs' ++ drop y cs) (out' ++ drop z out)))
    (s ∙ kept_front (said p) out' (drop z out) (file_of file space) (says_long (take file space) indent (take x ns) (take y cs) (take z out) ns' cs' out' p e))
    ∙ rw (i, j, k, drop_min a ns, drop_min b cs, drop_min c out)
    (ap (λ (w : Printing). settled (ask true a b c) (has_printed w) (memory file space ns cs out)) q)

-- ---- call

pub call_is : {s t : F.File} {k l : Lent ℕ} (indent : ℕ) (q : R.Request) (b : Bool) → q.prints ≡ b
    → Leaves (after indent (ask b q.nodes q.comments q.out) (held s k)) s t k l → Leaves (after indent (asked q) (held s k)) s t k l
call_is indent q b h e = rw h e

-- the file lies in its space, which stays as long as it is
written_long : (ns : List ℕ) (b : ℕ) (out s : List ℕ) → b ≤ length s → length (W.written (accepted ns) (take b out) s) ≡ length s
unfolding W.written
written_long ns b out s h = simp (length-append, length-replicate, length-take) (omega arith)

module _ (f : File) where
  size_by : (b : ℕ) (s : List ℕ) (x : Bool) → leb b (length f.space) ≡ x → f.size ≤ length f.space → (cond x (file_of b s) f).size ≤ length f.space
  size_by b s true e h = leb-true _ _ e
  size_by b s false e h = h

  space_by : (ns : List ℕ) (b : ℕ) (out : List ℕ) (x : Bool) → leb b (length f.space) ≡ x
      → length (cond x (file_of b (W.written (accepted ns) (take b out) f.space)) f).space ≡ length f.space
  space_by ns b out true e = written_long ns b out f.space (leb-true _ _ e)
  space_by ns b out false e = refl

  kept_size : (a : Outcome (List ℕ)) (out : List ℕ) → f.size ≤ length f.space → (kept_in a out f).size ≤ length f.space
  unfolding kept_in
  kept_size (refused e p n) out h = h
  kept_size (accepted ns) out h = size_by (bytes_written ns) _ _ refl h

  kept_space : (a : Outcome (List ℕ)) (out : List ℕ) → length (kept_in a out f).space ≡ length f.space
  unfolding kept_in
  kept_space (refused e p n) out = refl
  kept_space (accepted ns) out = space_by ns (bytes_written ns) out _ refl

pub size_in : (indent : ℕ) (q : Request) (m : Memory) → m.file.size ≤ length m.file.space → (after indent q m).file.size ≤ length m.file.space
unfolding after settled call_of gives
size_in indent (ask true a b c) m h = kept_size m.file _ _ h
size_in indent (ask false a b c) m h = h

pub space_long : (indent : ℕ) (q : Request) (m : Memory) → length (after indent q m).file.space ≡ length m.file.space
unfolding after settled call_of gives
space_long indent (ask true a b c) m = kept_space m.file _ _
space_long indent (ask false a b c) m = refl

-- ---- run

first_request : (r : List ℕ) → 4 ≤ length r
    → requests_of r ≡ ask (not (eqb (get_or (take 4 r) 0 0) 0)) (get_or (take 4 r) 1 0) (get_or (take 4 r) 2 0) (get_or (take 4 r) 3 0) ∷ requests_of (drop 4 r)
unfolding requests_of
first_request [] h = absurd (omega arith)
first_request (k ∷ []) h = absurd (omega arith)
first_request (k ∷ a ∷ []) h = absurd (omega arith)
first_request (k ∷ a ∷ b ∷ []) h = absurd (omega arith)
first_request (k ∷ a ∷ b ∷ c ∷ r) h = refl

few_left : (r : List ℕ) → length r < 4 → requests_of r ≡ []
unfolding requests_of
few_left [] h = refl
few_left (k ∷ []) h = refl
few_left (k ∷ a ∷ []) h = refl
few_left (k ∷ a ∷ b ∷ []) h = refl
few_left (k ∷ a ∷ b ∷ c ∷ r) h = absurd (omega arith)

pub turned_in : (indent : ℕ) (q : Request) (m next : Memory) → m.file.size ≤ length m.file.space → next ≡ after indent q m
    → length next.file.space ≡ length m.file.space → next.file.size ≤ length next.file.space
turned_in indent q m next h e l = rw (ap (λ (x : Memory). x.file.size) e, l) (size_in indent q m h)

module _ (indent : ℕ) (r : List ℕ) (m m' : Memory) where
  turn : runs indent (requests_of r) m ≡ m'
      → (ns rest : List ℕ) → (ns ≡ take 4 r) × (rest ≡ drop 4 r) × (length rest + 4 ≡ length r)
      → (next : Memory) (q : Request) → q ≡ ask (not (eqb (get_or ns 0 0) 0)) (get_or ns 1 0) (get_or ns 2 0) (get_or ns 3 0) → next ≡ after indent q m
      → runs indent (requests_of rest) next ≡ m'
  unfolding runs
  turn e ns rest h next q l f =
      let l' = rw h.0 at l in
      let a : runs indent (requests_of (drop 4 r)) next ≡ m' =
      ap (runs indent (requests_of (drop 4 r))) (f ∙ ap (λ (x : Request). after indent x m) l')
      ∙ sym (ap (λ (qs : List Request). runs indent qs m) (first_request r (omega (arith, h.2))))
      ∙ e
      in rw h.1 a

  none_left : length r < 4 → runs indent (requests_of r) m ≡ m' → m ≡ m'
  unfolding runs
  none_left h e = sym (ap (λ (qs : List Request). runs indent qs m) (few_left r h)) ∙ e

-- m is what all requests make of the file s and what is lent, k, and r are those left, at the file t and l
pub record Left (indent : ℕ) (r : List ℕ) (m : Memory) (s t : F.File) (k l : Lent ℕ) : Type 0 where
  pub goes : runs indent (requests_of r) (held t l) ≡ m
  pub space : t.space.ghost_name ≡ s.space.ghost_name
  pub nodes : l.nodes.ghost_name ≡ k.nodes.ghost_name
  pub comments : l.comments.ghost_name ≡ k.comments.ghost_name
  pub out : l.out.ghost_name ≡ k.out.ghost_name

pub begun : (indent : ℕ) (r : List ℕ) (s : F.File) (k : Lent ℕ) → Left indent r (runs indent (requests_of r) (held s k)) s s k k
begun indent r s k = record { goes = refl; space = refl; nodes = refl; comments = refl; out = refl }

module _ {indent : ℕ} {r : List ℕ} {m : Memory} {s t : F.File} {k l : Lent ℕ} (v : Left indent r m s t k l) where
  pub turned : {u : F.File} {n : Lent ℕ} (ns rest : List ℕ) → (ns ≡ take 4 r) × (rest ≡ drop 4 r) × (length rest + 4 ≡ length r)
      → (q : R.Request) → Asks ns q → Leaves (after indent (asked q) (held t l)) t u l n → Left indent rest m s u k n
  turned {u} {n} ns rest h q e w = record {
    goes = turn indent r (held t l) m v.goes ns rest h (held u n) (asked q) e w.goes;
    space = w.space ∙ v.space;
    nodes = w.nodes ∙ v.nodes;
    comments = w.comments ∙ v.comments;
    out = w.out ∙ v.out;
  }

  pub over : length r < 4 → Leaves m s t k l
  over h = record {
    goes = none_left indent r (held t l) m h v.goes;
    space = v.space;
    nodes = v.nodes;
    comments = v.comments;
    out = v.out;
  }

pub started : (n file indent : ℕ) (r space ns cs out : List ℕ) → n ≡ min file (length space)
    → runs indent (requests_of r) (memory n space ns cs out) ≡ runs indent (requests_of r) (memory (min file (length space)) space ns cs out)
started n file indent r space ns cs out h = rw h
