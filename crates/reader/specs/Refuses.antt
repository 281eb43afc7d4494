-- What a refusal leaves of what a call is lent.
use Rattle.std.specs.Prelude.{◌≡◌, Result, Err}
use Rattle.lexer.specs.declared.error.Refusal.{Refusal}
use Rattle.ast.specs.Clear.{Cleared}
use Rattle.ast.specs.Records.{cleared}
use Rattle.reader.specs.declared.Lent.{Lent}

-- from what is lent to the next: the refusal is answered, and nothing is left in the same tables and the same list
pub record Refuses {A T : Type 0} (default : T → Type 0) (refusal : Refusal) (s t : Lent T) (r : Result A Refusal) : Type 0 where
  pub says : r ≡ Err refusal
  pub nodes : t.nodes.now ≡ cleared s.nodes.now
  pub comments : t.comments.now ≡ cleared s.comments.now
  pub out : Cleared default 0 s.out.now t.out.now
  pub nodes_lent : t.nodes.ghost_name ≡ s.nodes.ghost_name
  pub comments_lent : t.comments.ghost_name ≡ s.comments.ghost_name
  pub out_lent : t.out.ghost_name ≡ s.out.ghost_name
