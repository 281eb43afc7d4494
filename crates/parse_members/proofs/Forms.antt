-- What readers of functions and enum members are, as their first call and what follows it.
use mathlib.Core.Path.{◌≡◌, refl}
use mathlib.Core.Bool.{Bool, true, false, cond}
use mathlib.Core.List.{List}
use Prim.Native.Nat.{ℕ}
use lib.Dec.{eqb}
use Rattle.steps.specs.declared.state.State.{State}
use Rattle.steps.specs.Into.{code_of, ◌⨟◌, accept_in, advanced, advance_in, after, begin_node_in, done, leaf_in, node_in, open_in, sum}
use Rattle.parse_values.specs.Into.{type_in}
use Rattle.parse_fields.specs.Into.{annotations_in, fields_in, name_in, token_in}
use Rattle.parse_members.specs.Into.{flag_if, function_head_in, function_in, function_tail_in, initializer_in, member_in, return_type_in, skip_oneway, throws_in}

module _ (text : List ℕ) (b p : ℕ) (st : State) (t u : List ℕ) where
  pub throws_is : throws_in text b p st t u ≡ cond (eqb (code_of st) 12) (after (advance_in text st t u) (fields_in text 40 41 16 b p)) (done st t u)
  unfolding throws_in advance_in after
  throws_is = refl

  pub return_type_is : return_type_in text b p st t u ≡ cond (eqb (code_of st) 15) (after (advance_in text st t u) (leaf_in 18 b p)) (type_in text 32 b p st t u)
  unfolding return_type_in advance_in after
  return_type_is = refl

  pub function_head_is : function_head_in text b p st t u ≡ after (accept_in text 50 st t u) (return_type_in text b p ⨟ name_in text 2 b p)
  unfolding function_head_in skip_oneway accept_in after
  function_head_is = go (eqb (code_of st) 50)
    where
      go : (o : Bool) → after (return_type_in text b p (cond o (advanced text st) st) t u) (name_in text 2 b p)
          ≡ after (cond o (done (advanced text st) t u) (done st t u)) (return_type_in text b p ⨟ name_in text 2 b p)
      go true = refl
      go false = refl

  pub function_is : function_in text b p st t u ≡
      after (begin_node_in st t u) (function_head_in text b st.next ⨟ λ st₁ t u. after (fields_in text 40 41 0 b st.next st₁ t u) (λ st₂ t u. after (function_tail_in text b st.next st₂ t u) (node_in st.next 11 (sum (flag_if (code_of st) 50 4) (flag_if (code_of st₂) 12 8)) st₁.last.start b p)))
  unfolding function_in begin_node_in open_in after
  function_is = refl

  pub initializer_is : initializer_in text b p st t u ≡
      cond (eqb (code_of st) 45) (after (advance_in text st t u) (λ st₁ t u. cond (eqb (code_of st₁) 31) (token_in text 31 6 27 b p st₁ t u) (token_in text 32 6 24 b p st₁ t u))) (done st t u)
  unfolding initializer_in advance_in after
  initializer_is = refl

  pub member_is : member_in text b p st t u ≡
      after (begin_node_in st t u) (name_in text 19 b st.next ⨟ λ st₁ t u. after (initializer_in text b st.next st₁ t u) (annotations_in text b st.next ⨟ node_in st.next 13 0 st₁.last.start b p))
  unfolding member_in begin_node_in open_in after
  member_is = refl
