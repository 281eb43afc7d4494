-- A list of calls on a file whose print is its own print.
--     accepts_reads, reads_accepts   acceptance at an indent is acceptance by a reading, and an indent of at most 8
--     gives_answers                  a call answers for the definitions of the file
--     leaves_print                   an accepted printing leaves their print, any other call the file
--     stays_calls                    so the file stays
use mathlib.Core.Path.{◌≡◌, refl, ap, ◌∙◌}
use mathlib.Core.Bool.{Bool, true, false, cond, ◌||◌, false≢true}
use mathlib.Core.List.{List, [], ◌∷◌}
use Prim.Native.Nat.{ℕ}
use borrow.Author.Tests.{le-ltb}
use lib.Dec.{ltb}
use lib.ListN.{length}
use lib.Seq.{take-append_seam}
use Rattle.lexer.specs.Outcome as O
use Rattle.lexer.specs.Outcome.{Outcome, refused}
use Rattle.lexer.specs.Limit.{limit}
use Rattle.ast.specs.Ast.{Definition}
use Rattle.ast.specs.Records.{comment_width, node_width, node_rows, notes, room}
use Rattle.parser.specs.Read as R
use Rattle.parser.specs.Read.{outcome, reading, rows_by}
use Rattle.parser.proofs.Paid.{read_bounds}
use Rattle.writer.specs.Print.{printed}
use Rattle.writer.specs.Write as W
use Rattle.writer.specs.Write.{widest, outcome_at, printing, print_of}
use Rattle.demand.specs.Agree.{Agree}
use Rattle.demand.specs.Calls.{Call, reads, prints, gives, kept, leaves, trace}
use Rattle.demand.specs.Demand.{Accepts, answers, accepts, prints_it, Step, Stays, end, call}

-- ---- acceptance at an indent

is_read : Outcome (List Definition) → Bool
is_read (O.accepted ds) = true
is_read (refused e p n) = false

pub record Both (indent : ℕ) (t : List ℕ) (ds : List Definition) : Type 0 where
  pub reads : outcome t ≡ O.accepted ds
  pub narrow : ltb widest indent ≡ false

pub accepts_reads : (indent : ℕ) (t : List ℕ) (ds : List Definition) → Accepts indent t ds → Both indent t ds
unfolding outcome_at is_read
accepts_reads indent t ds e = go (ltb limit (length t)) (ltb widest indent) refl e
  where
    go : (a b : Bool) → ltb widest indent ≡ b → cond a (refused 20 0 0) (cond b (refused 26 0 0) (outcome t)) ≡ O.accepted ds → Both indent t ds
    go true b h e = absurd (false≢true (ap is_read e))
    go false true h e = absurd (false≢true (ap is_read e))
    go false false h e = record { reads = e; narrow = h }

-- a text that is read is not too long
short : (t : List ℕ) (ds : List Definition) → outcome t ≡ O.accepted ds → ltb limit (length t) ≡ false
short t ds e = le-ltb 65536 (length t) (read_bounds t ds e).bytes

pub reads_accepts : (indent : ℕ) (t : List ℕ) (ds : List Definition) → outcome t ≡ O.accepted ds → ltb widest indent ≡ false → Accepts indent t ds
unfolding outcome_at
reads_accepts indent t ds e n = rw (short t ds e, n) e

-- ---- one call

pub gives_answers : (indent : ℕ) (c : Call) (f : List ℕ) (ds : List Definition) → Accepts indent f ds → gives indent c f ≡ answers indent c ds
unfolding gives answers reading printing R.answer W.answer rows_by print_of
gives_answers indent (reads ns cs) f ds e = rw (accepts_reads indent f ds e).reads refl
gives_answers indent (prints ns cs out) f ds e = rw e refl

-- the answer of a printing, by what it is lent
kept_by : (x y z : Bool) (n c : ℕ) (p out f : List ℕ) → ltb (length out) (length p) ≡ z →
    let a = W.fitted_out (cond x (refused 24 0 0) (cond y (refused 25 0 0) (O.accepted (n ∷ c ∷ [])))) p out in
    kept a (W.written a p out) f ≡ cond (accepts a) p f
unfolding kept accepts W.written W.fitted_out
kept_by true y z n c p out f h = refl
kept_by false true z n c p out f h = refl
kept_by false false true n c p out f h = rw h
kept_by false false false n c p out f h = rw h (take-append_seam p _)

pub leaves_print : (indent : ℕ) (c : Call) (f : List ℕ) (ds : List Definition) →
    leaves (answers indent c ds) f ≡ cond (prints_it (answers indent c ds)) (printed indent ds) f
unfolding answers leaves prints_it R.fitted
leaves_print indent (reads ns cs) f ds = refl
leaves_print indent (prints ns cs out) f ds =
    kept_by (ltb (room node_width ns) (length (node_rows ds))) (ltb (room comment_width cs) (length (notes ds))) _ _ _ (printed indent ds) out f refl

-- ---- the list of calls

cond_again : (x y : Bool) (p t : List ℕ) → cond y p (cond x p t) ≡ cond (x || y) p t
cond_again true true p t = refl
cond_again true false p t = refl
cond_again false true p t = refl
cond_again false false p t = refl

module _ (indent : ℕ) (t : List ℕ) (ds again : List Definition) (first : Accepts indent t ds) (second : Accepts indent (printed indent ds) again)
    (alike : printed indent again ≡ printed indent ds) (self : Agree ds ds) (agrees : Agree again ds) where
  unfoldable pub file : Bool → List ℕ
  file after = cond after (printed indent ds) t

  unfoldable pub found : Bool → List Definition
  found after = cond after again ds

  file_accepted : (after : Bool) → Accepts indent (file after) (found after)
  unfolding file found
  file_accepted true = second
  file_accepted false = first

  file_agrees : (after : Bool) → Agree (found after) ds
  unfolding found
  file_agrees true = agrees
  file_agrees false = self

  pub file_print : (after : Bool) → printed indent (found after) ≡ printed indent ds
  unfolding found
  file_print true = alike
  file_print false = refl

  pub given : (after : Bool) (c : Call) → gives indent c (file after) ≡ answers indent c (found after)
  given after c = gives_answers indent c (file after) (found after) (file_accepted after)

  left_by : (after : Bool) (c : Call) → leaves (gives indent c (file after)) (file after) ≡ cond (prints_it (gives indent c (file after))) (printed indent ds) (file after)
  left_by after c = rw (given after c) (leaves_print indent c (file after) (found after) ∙ ap (λ (p : List ℕ). cond (prints_it (answers indent c (found after))) p (file after)) (file_print after))

  written_by : (x : Bool) (p f : List ℕ) → x ≡ true → cond x p f ≡ p
  written_by true p f e = refl
  written_by false p f e = absurd (false≢true e)

  step_by : (after : Bool) (c : Call) → Step indent t ds after c (file after) (gives indent c (file after))
  step_by after c =
      record {
        stands = unfold file in refl;
        definitions = found after;
        accepted = file_accepted after;
        agree = file_agrees after;
        gives = given after c;
        same_bytes = λ e. left_by after c ∙ written_by _ (printed indent ds) (file after) e;
      }

  pub onward : (after : Bool) (c : Call) → leaves (gives indent c (file after)) (file after) ≡ file (after || prints_it (gives indent c (file after)))
  onward after c = left_by after c ∙ unfold file in cond_again after (prints_it (gives indent c (file after))) (printed indent ds) t

  stays_from : (cs : List Call) (after : Bool) → Stays indent t ds after (trace indent cs (file after))
  unfolding trace
  stays_from [] after = end
  stays_from (c ∷ cs) after = call {es = trace indent cs (leaves (gives indent c (file after)) (file after))} (step_by after c)
      (rw (onward after c) (stays_from cs (after || prints_it (gives indent c (file after)))))

  pub stays_calls : (cs : List Call) → Stays indent t ds false (trace indent cs t)
  unfolding file
  stays_calls cs = stays_from cs false
