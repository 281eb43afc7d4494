-- What the code's steps do to the state and to both tables: parser/specs/Steps, with records written as they are read. Contracts of this crate and of those
-- above it cite it, and reader/proofs/Meant shows that it means the definitions; nothing else has to believe it.
use Rattle.std.specs.Prelude.{Bool, false, cond, ◌||◌, List, ◌++◌, ℕ, zero, suc, ◌+◌, ◌*◌, ◌-◌, ◌≤◌, eqb, ltb, leb, length, take, drop, set, replicate}
use Rattle.token.specs.Kind as T
use Rattle.lexer.specs.Error as E
use Rattle.lexer.specs.Limit.{limit}
use Rattle.ast.specs.Column as C
use Rattle.ast.specs.Kind as K
use Rattle.token.specs.declared.Token.{Token}
use Rattle.token.specs.Code.{code}
use Rattle.lexer.specs.declared.location.Lexer.{Lexer}
use Rattle.lexer.specs.declared.location.Span.{Span}
use Rattle.lexer.specs.declared.location.LOC.{LOC}
use Rattle.lexer.specs.declared.location.Next.{Next}
use Rattle.lexer.specs.declared.location.Next.TheVariants as N
use Rattle.lexer.specs.Tokens as L
use Rattle.ast.specs.Largest.{largest, bump}
use Rattle.ast.specs.Records.{comment_width, node_width, row, node_row, room}
use Rattle.parser.specs.Definitions.{is_id}
use Rattle.steps.specs.declared.packed.Range.{Range}
use Rattle.steps.specs.declared.state.Ahead.{Ahead}
use Rattle.steps.specs.declared.state.State.{State}
use Rattle.std.specs.Prelude.{Option, Some, None}
use Rattle.steps.specs.Packed.{unpacked, packed_loc, unpacked_loc}

-- the number of a token, or of none
abbrev pub no_token : ℕ
no_token = 255

unfoldable pub numbered : Option Token → ℕ
numbered None = no_token
numbered (Some k) = code k

-- the number of the token ahead
abbrev pub code_of : State → ℕ
code_of st = numbered st.token

-- the state and both tables afterwards; or document 01's number and a place, with the state and both tables where reading stopped
pub data Out : Type 0 where
  done : State → List ℕ → List ℕ → Out
  stop : ℕ → Range → State → List ℕ → List ℕ → Out

abbrev pub M : Type 0
M = State → List ℕ → List ℕ → Out

unfoldable pub after : Out → M → Out
after (done st t u) k = k st t u
after (stop n l st t u) k = stop n l st t u

infixr 20 ◌⨟◌
abbrev pub ◌⨟◌ : M → M → M
◌⨟◌ m k = λ st t u. after (m st t u) k

-- ---- records

-- a sum that does not pass the largest number
unfoldable pub sum : ℕ → ℕ → ℕ
sum a b = cond (leb a (largest - b)) (a + b) largest

-- numbers of a table from an index on
unfoldable pub put_row : ℕ → List ℕ → List ℕ → List ℕ
put_row at r t = take at t ++ (r ++ drop (at + length r) t)

-- record i of a table of records of w numbers, if it holds that one
unfoldable pub put : ℕ → ℕ → List ℕ → List ℕ → List ℕ
put w i r t = cond (leb (room w t) i) t (take (i * w) t ++ (r ++ drop (i * w + w) t))

-- the owner of comment record i
unfoldable pub put_owner : ℕ → ℕ → List ℕ → List ℕ
put_owner i p t = cond (leb (room comment_width t) i) t (set t (i * comment_width + C.Parent) p)

-- where the rest of a table of so many numbers starts: at an index, or at its end
unfoldable pub rest_at : ℕ → ℕ → ℕ
rest_at at len = cond (ltb at len) at len

-- 0 from an index on
unfoldable pub wiped : ℕ → List ℕ → List ℕ
wiped i t = take i t ++ replicate (length t - i) 0

-- node n, in the table whose first record is node b
unfoldable pub place_of : ℕ → ℕ → ℕ
place_of b n = n - b

unfoldable pub opened : State → State
opened st = record { token = st.token; loc = st.loc; last = st.last; next = bump st.next; owned = st.owned; waiting = st.waiting }

unfoldable pub open_in : M
open_in st t u = done (opened st) t u

-- the last token taken, as a node
unfoldable pub leaf_in : ℕ → ℕ → ℕ → M
leaf_in k b p st t u = done (opened st) (put node_width (place_of b st.next) (node_row k p 0 (unpacked_loc st.last) (opened st).next) t) u

-- a node from a place to the end of the last token taken; the next record stands just past its last descendant
unfoldable pub put_node : ℕ → ℕ → ℕ → ℕ → ℕ → ℕ → State → List ℕ → List ℕ
put_node n k f s b p st t = put node_width (place_of b n) (node_row k p f (unpacked_loc (record { start = s; end = st.last.end })) st.next) t

unfoldable pub node_in : ℕ → ℕ → ℕ → ℕ → ℕ → ℕ → M
node_in n k f s b p st t u = done st (put_node n k f s b p st t) u

-- ---- steps

-- the lexer that stands at a place
unfoldable pub lexer_at : Span → Lexer
lexer_at e = record { at = e.index; line = e.line - 1; origin = e.index - (e.column - 1) }

-- the token behind a place; none where the text did not pass 20 or the place is in no text
unfoldable pub look_at : List ℕ → Span → Next
look_at t e =
    let s = lexer_at e in
    cond (ltb limit (length t)) N.End (cond (ltb limit s.at) N.End (cond (ltb s.at s.line) N.End (L.next t s)))

-- the same in 64 bits
unfoldable pub found : Next → Option Ahead
found (N.On p s) = Some (record { token = p.token; loc = packed_loc p.loc })
found N.End = None
found (N.Unrecognized p) = None

unfoldable pub found_at : List ℕ → ℕ → Option Ahead
found_at t e = found (look_at t (unpacked e))

unfoldable pub token_of : Option Ahead → Option Token
token_of None = None
token_of (Some a) = Some a.token

unfoldable pub loc_or : Option Ahead → Range → Range
loc_or None l = l
loc_or (Some a) l = a.loc

-- the token that was ahead is taken; where none is found its place stays
unfoldable pub ahead_of : Option Ahead → State → State
ahead_of f st = record { token = token_of f; loc = loc_or f st.loc; last = st.loc; next = st.next; owned = st.owned; waiting = st.waiting }

unfoldable pub advanced : List ℕ → State → State
advanced text st = ahead_of (found_at text st.loc.end) st

unfoldable pub advance_in : List ℕ → M
advance_in text st t u = done (advanced text st) t u

unfoldable pub refused : ℕ → M
refused e st t u = cond (eqb (code_of st) no_token) (stop E.UnexpectedEOF st.last st t u) (stop e st.loc st t u)

unfoldable pub refuse_in : ℕ → M
refuse_in e st t u = refused e st t u

unfoldable pub start_at : State → ℕ
start_at st = cond (eqb (code_of st) no_token) st.last.start st.loc.start

unfoldable pub take_in : List ℕ → M
take_in text st t u = cond (eqb (code_of st) no_token) (refused E.UnexpectedEOF st t u) (done (advanced text st) t u)

unfoldable pub expect_in : List ℕ → ℕ → ℕ → M
expect_in text k e st t u = cond (eqb (code_of st) k) (take_in text st t u) (refused e st t u)

-- the token ahead, if it is of one kind
unfoldable pub accept_in : List ℕ → ℕ → M
accept_in text k st t u = cond (eqb (code_of st) k) (done (advanced text st) t u) (done st t u)

-- the bytes behind the lexer, and one for the token ahead; none where no token is ahead. What takes a token makes them fall, so a loop has at most
-- one turn more than bytes are left, and each below is its first turn and then itself (passed_is and comments_is in proofs/Bytes, loop_is in LoopForms)
unfoldable pub bytes_left : List ℕ → State → ℕ
bytes_left text st = cond (eqb (code_of st) no_token) 0 (suc (length text - (unpacked st.loc.end).index))

-- a refusal, or a state with at least x bytes fewer than b
pub data Within (text : List ℕ) (x b : ℕ) : Out → Type 0 where
  within : {st : State} {t u : List ℕ} → x + bytes_left text st ≤ b → Within text x b (done st t u)
  stopped : {e : ℕ} {l : Range} {st : State} {t u : List ℕ} → Within text x b (stop e l st t u)

-- of what reads: each time it answers it leaves fewer bytes; or no more
abbrev pub Falls : List ℕ → M → Type 0
Falls text m = (st : State) (t u : List ℕ) → Within text 1 (bytes_left text st) (m st t u)

abbrev pub Rests : List ℕ → M → Type 0
Rests text m = (st : State) (t u : List ℕ) → Within text 0 (bytes_left text st) (m st t u)

-- an outcome whose comment table is u, a refusal's too
pub data Keeps (u : List ℕ) : Out → Type 0 where
  answers : {st : State} {t : List ℕ} → Keeps u (done st t u)
  refuses : {e : ℕ} {l : Range} {st : State} {t : List ℕ} → Keeps u (stop e l st t u)

-- of what reads: it leaves the comment table as it was
abbrev pub Quiet : M → Type 0
Quiet m = (st : State) (t u : List ℕ) → Keeps u (m st t u)

unfoldable pub is_separator : ℕ → Bool
is_separator k = eqb k T.Comma || eqb k T.Semicolon

unfoldable pub is_comment : ℕ → Bool
is_comment k = eqb k T.LineComment || eqb k T.BlockComment

unfoldable pub passes : ℕ → Bool → Bool
passes k s = cond s (is_separator k) (is_comment k)

unfoldable pub skip_from : List ℕ → Bool → ℕ → State → State
skip_from text s zero st = st
skip_from text s (suc n) st = cond (passes (code_of st) s) (skip_from text s n (advanced text st)) st

-- behind all that a skip passes over
unfoldable pub passed : List ℕ → Bool → State → State
passed text s st = skip_from text s (suc (bytes_left text st)) st

unfoldable pub skip_in : List ℕ → Bool → M
skip_in text s st t u = done (passed text s st) t u

-- the comment ahead waits
unfoldable pub waits : State → State
waits st = record { token = st.token; loc = st.loc; last = st.last; next = st.next; owned = st.owned; waiting = bump st.waiting }

unfoldable pub put_waiting : State → List ℕ → List ℕ
put_waiting st u = put comment_width (st.owned + st.waiting) (row (cond (eqb (code_of st) T.LineComment) K.LineComment K.BlockComment) 0 0 (unpacked_loc st.loc)) u

unfoldable pub wait_in : M
wait_in st t u = done (waits st) t (put_waiting st u)

unfoldable pub skip_comments_from : List ℕ → Bool → ℕ → M
skip_comments_from text s zero st t u = done st t u
skip_comments_from text s (suc n) st t u =
    cond (is_comment (code_of st)) (skip_comments_from text s n (advanced text (waits st)) t (put_waiting st u))
    (cond s (cond (is_separator (code_of st)) (skip_comments_from text s n (advanced text st) t u) (done st t u)) (done st t u))

unfoldable pub skip_comments_in : List ℕ → Bool → M
skip_comments_in text s st = skip_comments_from text s (suc (bytes_left text st)) st

-- the comments that wait go to a node
unfoldable pub owners : ℕ → ℕ → ℕ → List ℕ → List ℕ
owners i zero p u = u
owners i (suc n) p u = owners (i + 1) n p (put_owner i p u)

unfoldable pub owns : State → State
owns st = record { token = st.token; loc = st.loc; last = st.last; next = st.next; owned = sum st.owned st.waiting; waiting = 0 }

unfoldable pub own_in : ℕ → M
own_in p st t u = done (owns st) t (owners st.owned st.waiting p u)

-- a node begins: the comments that wait are its own
unfoldable pub begin_node_in : M
begin_node_in st t u = after (open_in st t u) (own_in st.next)

-- a node of a kind, from a place on: `inside` reads what stands below it
unfoldable pub enclosed_in : ℕ → ℕ → ℕ → ℕ → (ℕ → M) → M
enclosed_in k s b p inside st t u = after (open_in st t u) (inside st.next ⨟ node_in st.next k 0 s b p)

-- members until a state that closes
unfoldable pub turns_in : (State → Bool) → M → M → M → ℕ → M
turns_in closes skips shut member zero = refuse_in E.UnexpectedEOF
turns_in closes skips shut member (suc n) =
    skips ⨟ λ st t u. cond (closes st) (shut st t u) ((member ⨟ turns_in closes skips shut member n) st t u)

unfoldable pub loop_in : List ℕ → (State → Bool) → M → M → M → M
loop_in text closes skips shut member st = turns_in closes skips shut member (suc (bytes_left text st)) st

unfoldable pub closes_at : ℕ → State → Bool
closes_at k st = eqb (code_of st) k

-- ---- ids

unfoldable pub is_id_at : List ℕ → LOC → Bool
is_id_at text l =
    cond (ltb (length text) l.end.index) false
    (cond (ltb l.end.index l.start.index) false (is_id (take (l.end.index - l.start.index) (drop l.start.index text))))
