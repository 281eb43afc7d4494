-- What the code does to the state and to both tables, of a document and of a whole text. Contracts inside this crate cite it, and proofs/Meant shows that it
-- means parser/specs/Read; nothing outside the crate has to believe it.
use Rattle.std.specs.Prelude.{true, false, cond, List, [], ◌∷◌, ◌++◌, ℕ, ◌*◌, ◌-◌, eqb, ltb, length, take, drop}
use Rattle.std.specs.Prelude.{Option, Some, None}
use Rattle.lexer.specs.declared.location.LOC.{LOC}
use Rattle.lexer.specs.Error.{UnrecognizedToken, UnexpectedEOF, NoToken, NodesFull, CommentsFull}
use Rattle.lexer.specs.Outcome as O
use Rattle.lexer.specs.Location.{between, opening}
use Rattle.lexer.specs.Cuts.{cuts, unrecognized}
use Rattle.ast.specs.Records.{comment_width, node_width, room, cleared}
use Rattle.parser.specs.Read.{Reading}
use Rattle.steps.specs.declared.state.State.{State}
use Rattle.steps.specs.Packed.{unpacked, packed_loc, unpacked_loc}
use Rattle.steps.specs.Into.{Out, M, ◌⨟◌, no_token, rest_at, wiped, advanced, refused, skip_in, skip_comments_in, loop_in, closes_at, done, stop}
use Rattle.parse_definitions.specs.Into.{definition_in}

-- ---- the document

unfoldable pub in_rest : ℕ → List ℕ → Out → Out
in_rest i t (done st t' u') = done st (take i t ++ t') u'
in_rest i t (stop n l st t' u') = stop n l st (take i t ++ t') u'

-- a definition, its records in the unused rest of the table
unfoldable pub rest_in : List ℕ → M
rest_in text st t u = let i = rest_at (st.next * node_width) (length t) in in_rest i t (definition_in text st.next st (drop i t) u)

unfoldable pub over_in : M
over_in st t u = cond (eqb (unpacked st.last.end).index 1) (refused UnexpectedEOF st t u) (done st t u)

unfoldable pub between_in : List ℕ → M
between_in text = skip_in text true ⨟ (skip_comments_in text false ⨟ skip_in text true)

unfoldable pub document_in : List ℕ → M
document_in text = loop_in text (closes_at no_token) (between_in text) over_in (rest_in text)

-- before the first token
unfoldable pub unread : State
unread =
    let l = packed_loc (between opening opening) in
    record { token = None; loc = l; last = l; next = 0; owned = 0; waiting = 0 }

unfoldable pub beginning : List ℕ → State
beginning text = advanced text unread

-- ---- the whole

unfoldable pub refusing : ℕ → ℕ → ℕ → List ℕ → List ℕ → Reading
refusing e p n t u = record { says = O.refused e p n; nodes = cleared t; comments = cleared u }

unfoldable pub ended : ℕ → ℕ → ℕ → ℕ
ended e i len = cond (eqb e UnexpectedEOF) (cond (eqb i len) UnexpectedEOF UnrecognizedToken) e

unfoldable pub refusing_at : ℕ → LOC → ℕ → List ℕ → List ℕ → Reading
refusing_at e l len t u = refusing (ended e l.end.index len) l.start.index (l.end.index - l.start.index) t u

-- what was read, if the tables hold it: else 24, then 25
unfoldable pub fits : State → List ℕ → List ℕ → Reading
fits st t u =
    cond (ltb (room node_width t) st.next) (refusing NodesFull 0 0 t u)
    (cond (ltb (room comment_width u) st.owned) (refusing CommentsFull 0 0 t u)
    (record { says = O.accepted (st.next ∷ st.owned ∷ []); nodes = wiped (st.next * node_width) t; comments = wiped (st.owned * comment_width) u }))

unfoldable pub judged : Out → ℕ → List ℕ → List ℕ → Reading
judged (done st t' u') len t u = fits st t' u'
judged (stop e l st t' u') len t u = refusing_at e (unpacked_loc l) len t u

-- from where on tokens are still to be looked for: behind what was read; from the start where the grammar refuses
unfoldable pub unscanned : Out → ℕ
unscanned (done st t u) = (unpacked st.loc.end).index
unscanned (stop e l st t u) = 0

-- 22 comes before what the grammar finds
unfoldable pub settled : Option ℕ → Out → ℕ → List ℕ → List ℕ → Reading
settled (Some p) o len t u = refusing NoToken p 0 t u
settled None o len t u = judged o len t u

unfoldable pub parsing : List ℕ → List ℕ → List ℕ → Reading
parsing text t u =
    let o = document_in text (beginning text) t u in
    settled (unrecognized (cuts (drop (unscanned o) text)) (unscanned o)) o (length text) t u
