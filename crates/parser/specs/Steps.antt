-- The state of the parser, its answers, and the steps that every reader is made of: rico's parser/token.rs and parser/location.rs.
-- The first of the tokens left is the one in hand where rico has advanced to it, and the one that it peeks at where it has not.
use Rattle.std.specs.Prelude.{Bool, true, false, cond, List, [], ◌∷◌, ◌++◌, ℕ, suc, zero}
use Rattle.std.specs.Prelude.{Option, Some, None}
use Rattle.token.specs.Code.{among}
use Rattle.token.specs.declared.Token.{Token}
use Rattle.token.specs.declared.Token.TheVariants as T
use Rattle.lexer.specs.declared.location.LOC.{LOC}
use Rattle.lexer.specs.Error.{UnexpectedEOF}
use Rattle.lexer.specs.Tokens.{Lexeme, lexeme}

unfoldable pub kind : Lexeme → Token
kind (lexeme k w l) = k

unfoldable pub bytes : Lexeme → List ℕ
bytes (lexeme k w l) = w

unfoldable pub place : Lexeme → LOC
place (lexeme k w l) = l

-- from the start of one place to the end of another
unfoldable pub span : LOC → LOC → LOC
span a b = record { start = a.start; end = b.end }

-- the place of the last token taken, the comments that wait, the tokens left
pub data St : Type 0 where
  pos : LOC → List Lexeme → List Lexeme → St

-- the two kinds of error that no text is refused with (lexer/specs/Error has the others): they are raised with no token left
abbrev pub MissingTypeDeclaration : ℕ
MissingTypeDeclaration = 5

abbrev pub InvalidReturnType : ℕ
InvalidReturnType = 7

-- what a step hands to `error` of parser/mod.rs: the kind of error, and the token in hand there, if one is left
pub data Raised : Type 0 where
  raise : ℕ → Option Lexeme → Raised

-- a value and the state behind it; or what was raised, and the place of the token in hand or, with none left, of the last one
pub data Res (A : Type 0) : Type 0 where
  ok : A → St → Res A
  no : Raised → LOC → Res A

abbrev pub P : Type 0 → Type 0
P A = St → Res A

unfoldable pub bind : {A B : Type 0} → Res A → (A → P B) → Res B
bind (ok a s) k = k a s
bind (no e p) k = no e p

abbrev pub ◌>>=◌ : {A B : Type 0} → P A → (A → P B) → P B
◌>>=◌ m k = λ s. bind (m s) k

abbrev pub ◌>>◌ : {A B : Type 0} → P A → P B → P B
◌>>◌ m k = λ s. bind (m s) (λ a. k)

abbrev pub pure : {A : Type 0} → A → P A
pure a = λ s. ok a s

unfoldable pub test : {A : Type 0} → Bool → P A → P A → P A
test true p q = p
test false p q = q

-- the next token is of one of these kinds
unfoldable pub peek : List Token → St → Bool
peek ks (pos l c []) = false
peek ks (pos l c (t ∷ ts)) = among (kind t) ks

-- go on by the kind of the next token
unfoldable pub when : {A : Type 0} → List Token → P A → P A → P A
when ks p q s = test (peek ks s) p q s

-- refuse at the next token, or with none left at the last one
unfoldable pub fail : {A : Type 0} → ℕ → P A
fail e (pos l c []) = no (raise e None) l
fail e (pos l c (t ∷ ts)) = no (raise e (Some t)) (place t)

-- `None => Err(self.error(e))`: with no token left e is raised, else the step goes on
abbrev pub needs : {A : Type 0} → ℕ → P A → P A
needs e p (pos l c []) = no (raise e None) l
needs e p (pos l c (t ∷ ts)) = p (pos l c (t ∷ ts))

-- refuse at a token that was taken
unfoldable pub refuse : {A : Type 0} → ℕ → Lexeme → P A
refuse e t s = no (raise e (Some t)) (place t)

-- advance
unfoldable pub next : P Lexeme
next (pos l c []) = no (raise UnexpectedEOF None) l
next (pos l c (t ∷ ts)) = ok t (pos (place t) c ts)

-- expect_token, consume, and both with an error kind: a token of one of these kinds, or refuse with e
unfoldable pub want : List Token → ℕ → P Lexeme
want ks e = when ks next (fail e)

-- start_pos, with the next token in hand
unfoldable pub start : P LOC
start (pos l c []) = ok l (pos l c [])
start (pos l c (t ∷ ts)) = ok (place t) (pos l c (t ∷ ts))

-- end_pos, with the last token in hand
unfoldable pub here : P LOC
here (pos l c ts) = ok l (pos l c ts)

-- take_pending_comments
unfoldable pub taken : P (List Lexeme)
taken (pos l c ts) = ok c (pos l [] ts)

-- what becomes of a token that is passed over
pub data Fate : Type 0 where
  stop over wait : Fate

abbrev pub separators : List Token
separators = T.Comma ∷ T.Semicolon ∷ []

comments : List Token
comments = T.LineComment ∷ T.BlockComment ∷ []

-- by the fate of a separator, and that of a comment
unfoldable pub fate : Fate → Fate → Token → Fate
unfolding comments
fate s c k = cond (among k separators) s (cond (among k comments) c stop)

unfoldable pub by : Fate → St → St → St → St
by stop a b c = a
by over a b c = b
by wait a b c = c

unfoldable pub pass : (Token → Fate) → LOC → List Lexeme → List Lexeme → St
pass f l c [] = pos l c []
pass f l c (t ∷ ts) = by (f (kind t)) (pos l c (t ∷ ts)) (pass f (place t) c ts) (pass f (place t) (c ++ t ∷ []) ts)

unfoldable pub skip : (Token → Fate) → P (Unit {0})
skip f (pos l c ts) = ok tt (pass f l c ts)

-- skip_separator, skip_comments, skip_comments_discard, skip_trivia
unfoldable pub skip_separator : P (Unit {0})
skip_separator = skip (fate over stop)

unfoldable pub skip_comments : P (Unit {0})
skip_comments = skip (fate stop wait)

unfoldable pub skip_comments_discard : P (Unit {0})
skip_comments_discard = skip (fate stop over)

unfoldable pub skip_trivia : P (Unit {0})
skip_trivia = skip (fate over wait)

-- is the closing token next? then take it
unfoldable pub closed : Token → P Bool
closed k = when (k ∷ []) (do next; pure true) (pure false)

-- the loops of parse_members, parse_parameters, parse_delimited_values, parse_annotations and parse: members until `end` says so.
-- A list that is read is shorter than the text, so the count never runs out
unfoldable pub loop : {A B : Type 0} → B → (A → B → B) → P Bool → P A → ℕ → P B
loop e c end p zero = fail UnexpectedEOF
loop e c end p (suc n) = do
  b ← end
  test b (pure e) (do a ← p; x ← loop e c end p n; pure (c a x))

unfoldable pub many : {A B : Type 0} → B → (A → B → B) → P Bool → P A → P B
many e c end p = loop e c end p 65537
