-- DEMAND 3 OF THE CODE holds: what `run` leaves is as specs/Run says.
--     run_kept   for every list of requests, every file that the premise holds of, and whatever is lent
use mathlib.Core.Path.{◌≡◌, refl, sym, ap, ◌∙◌}
use mathlib.Core.Bool.{Bool, true, false, cond, ◌||◌, or-false, or_assoc}
use mathlib.Core.List.{List, [], ◌∷◌}
use Prim.Native.Nat.{ℕ, ◌≤◌}
use lib.Dec.{ltb}
use lib.ListN.{length, take}
use lib.Seq.{take-append_seam}
use borrow.Author.Tests.{le-leb}
use Rattle.ast.specs.Ast.{Definition}
use Rattle.ast.specs.Records.{comment_width, node_width, node_rows, notes, room}
use Rattle.writer.specs.Print.{printed}
use Rattle.lexer.specs.Outcome.{accepted, refused}
use Rattle.parser.specs.Read.{fitted}
use Rattle.writer.specs.Write as W
use Rattle.demand.specs.Calls.{Given, gives, kept, leaves, trace}
use Rattle.demand.specs.Demand.{Accepts, answers, prints_it}
use Rattle.demand.specs.Agree.{Agree}
use Rattle.file.specs.Run.{Request, ask, File, bytes_of, Memory, call_of, kept_in, settled, after, runs, calls_of, any_print, Unaltered}
use Rattle.file.proofs.Stored.{space_long}
use Rattle.demand.proofs.Steps.{file, found, given, onward, file_print, accepts_reads}
use Rattle.demand.proofs.Demand.{print_fixed, demand_3}

-- a print that the file's space holds
kept_in_law : (x y z : Bool) (n c : ℕ) (p out : List ℕ) (f : File) → ltb (length out) (length p) ≡ z → length p ≤ length f.space →
    let a = W.fitted_out (cond x (refused 24 0 0) (cond y (refused 25 0 0) (accepted (n ∷ c ∷ [])))) p out in
    bytes_of (kept_in a (W.written a p out) f) ≡ kept a (W.written a p out) (bytes_of f)
unfolding kept_in kept W.written W.fitted_out
kept_in_law true y z n c p out f e h = refl
kept_in_law false true z n c p out f e h = refl
kept_in_law false false true n c p out f e h = rw e
kept_in_law false false false n c p out f e h = rw (e, le-leb (length p) (length f.space) h) (simp take-append_seam)

-- the file after a call that answers for these definitions
settled_file : (indent : ℕ) (q : Request) (m : Memory) (ds : List Definition) → length (printed indent ds) ≤ length m.file.space →
    bytes_of (settled q (answers indent (call_of q m) ds) m).file ≡ leaves (answers indent (call_of q m) ds) (bytes_of m.file)
unfolding settled call_of answers leaves fitted
settled_file indent (ask false a b c) m ds h = refl
settled_file indent (ask true a b c) m ds h =
    kept_in_law (ltb (room node_width (take a m.nodes)) (length (node_rows ds))) (ltb (room comment_width (take b m.comments)) (length (notes ds)))
    _ _ _ (printed indent ds) (take c m.output) m.file refl h

after_file : (indent : ℕ) (q : Request) (m : Memory) (ds : List Definition) → length (printed indent ds) ≤ length m.file.space →
    gives indent (call_of q m) (bytes_of m.file) ≡ answers indent (call_of q m) ds →
    bytes_of (after indent q m).file ≡ leaves (gives indent (call_of q m) (bytes_of m.file)) (bytes_of m.file)
unfolding after
after_file indent q m ds h e =
    ap (λ (g : Given). bytes_of (settled q g m).file) e ∙ settled_file indent q m ds h ∙ ap (λ (g : Given). leaves g (bytes_of m.file)) (sym e)

module _ (room : ℕ) (indent : ℕ) (t : List ℕ) (ds again : List Definition) (one : Accepts indent t ds) (two : Accepts indent (printed indent ds) again)
    (alike : printed indent again ≡ printed indent ds) (self : Agree ds ds) (agrees : Agree again ds) (fits : length (printed indent ds) ≤ room) where
  abbrev stood : Bool → List ℕ
  stood b = cond b (printed indent ds) t

  printed_long : (b : Bool) → length (printed indent (found indent t ds again one two alike self agrees b)) ≤ room
  printed_long b = rw (file_print indent t ds again one two alike self agrees b) fits

  left : (b : Bool) (q : Request) (m : Memory) → room ≡ length m.file.space → bytes_of m.file ≡ stood b
      → bytes_of (after indent q m).file ≡ leaves (gives indent (call_of q m) (bytes_of m.file)) (bytes_of m.file)
  unfolding file
  left b q m s e =
      after_file indent q m (found indent t ds again one two alike self agrees b) (rw s at (printed_long b))
      (ap (gives indent (call_of q m)) e ∙ given indent t ds again one two alike self agrees b (call_of q m))

  next_file : (b : Bool) (q : Request) (m : Memory) → room ≡ length m.file.space → bytes_of m.file ≡ stood b
      → bytes_of (after indent q m).file ≡ stood (b || prints_it (gives indent (call_of q m) (bytes_of m.file)))
  unfolding file
  next_file b q m s e =
      left b q m s e
      ∙ ap (λ (f : List ℕ). leaves (gives indent (call_of q m) f) f) e
      ∙ onward indent t ds again one two alike self agrees b (call_of q m)
      ∙ ap (λ (f : List ℕ). stood (b || prints_it (gives indent (call_of q m) f))) (sym e)

  -- the file after so many calls
  runs_file : (qs : List Request) (b : Bool) (m : Memory) → room ≡ length m.file.space → bytes_of m.file ≡ stood b →
      bytes_of (runs indent qs m).file ≡ stood (b || any_print (trace indent (calls_of indent qs m) (bytes_of m.file)))
  unfolding runs calls_of trace any_print
  runs_file [] b m s e = e ∙ ap stood (sym (or-false b))
  runs_file (q ∷ qs) b m s e =
      let x = prints_it (gives indent (call_of q m) (bytes_of m.file)) in
      let n = after indent q m in
      let same : bytes_of n.file ≡ leaves (gives indent (call_of q m) (bytes_of m.file)) (bytes_of m.file) = left b q m s e in
      runs_file qs (b || x) n (s ∙ sym (space_long indent q m)) (next_file b q m s e)
      ∙ ap stood
      (ap (λ (f : List ℕ). (b || x) || any_print (trace indent (calls_of indent qs n) f)) same
      ∙ or_assoc b x (any_print (trace indent (calls_of indent qs n) (leaves (gives indent (call_of q m) (bytes_of m.file)) (bytes_of m.file)))))

pub run_kept : (indent : ℕ) (qs : List Request) (m : Memory) (end : List ℕ) → end ≡ bytes_of (runs indent qs m).file → Unaltered indent qs m end
run_kept indent qs m end e ds h wide =
    let t = bytes_of m.file in
    let f = print_fixed indent t ds h in
    record {
      stays = demand_3.stays indent t ds h (calls_of indent qs m);
      file =
          e
          ∙ runs_file (length m.file.space) indent t ds f.definitions h.accepted f.accepted f.same_bytes refl f.agree wide qs false m refl refl;
      fixed = f;
      alike = λ u es b r. demand_3.alike indent t u ds es h.bytes b (accepts_reads indent t ds h.accepted).reads r;
    }
