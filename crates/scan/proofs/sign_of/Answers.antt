-- `scan::sign_of` meets its contract.
use mathlib.Core.Path.{sym, ap, ◌∙◌}
use mathlib.Core.Bool.{true, false}
use borrow.Author.Rules.{rules}
use borrow.Author.Tests.{ne_eqb}
use Rattle.token.specs.declared.Token.TheVariants as T
use Rattle.std.specs.Prelude.{Some}
use Rattle.scan.proofs.ScanLaws.{first_blank, first_quote, first_hash, first_slash, first_sign, first_dot, comment_done}
use Rattle.scan.proofs.MarkLaws.{mark_done}
use Rattle.scan.proofs.sign_of.Goals as goal

pub returns-in-59 : goal.returns-in-59
returns-in-59 c = ap (λ n. Some (T.Blank, n)) c.run.ensures ∙ sym (first_blank c.requires.3 c.requires.0 (sym c.requires.1 ∙ c.in-59.is))

pub string_of-requires : goal.string_of-requires
string_of-requires c = first_quote c.requires.3 c.requires.0 true (sym c.requires.1 ∙ c.in-41.is)

pub string_of-requires-in-43 : goal.string_of-requires-in-43
string_of-requires-in-43 c = first_quote c.requires.3 c.requires.0 false (sym c.requires.1 ∙ c.in-43.is)

pub returns-in-44 : goal.returns-in-44
returns-in-44 c =
    let r = first_hash c.requires.3 c.requires.0 (sym c.requires.1 ∙ c.in-44.is) in
    ap (λ n. Some (T.LineComment, n)) c.find_line_feed.ensures ∙ sym (comment_done r)

pub slash_of-requires : goal.slash_of-requires
slash_of-requires c = first_slash c.requires.3 c.requires.0 (sym c.requires.1 ∙ c.in-38.is)

pub signed_of-requires : goal.signed_of-requires
signed_of-requires c = first_sign c.requires.3 c.requires.0 (sym c.requires.1 ∙ c.in-45.is)

pub dot_of-requires : goal.dot_of-requires
dot_of-requires c = first_dot c.requires.3 c.requires.0 (sym c.requires.1 ∙ c.in-36.is)

pub returns-in_default : goal.returns-in_default
returns-in_default c =
    let k = c.args.k in
    c.mark_of.ensures
    ∙ sym (mark_done c.requires.3 c.requires.0 k c.requires.1 c.requires.2 (search rules) (rw (ne_eqb k 59 (search rules), ne_eqb k 41 (search rules), ne_eqb k 43 (search rules), ne_eqb k 44 (search rules), ne_eqb k 38 (search rules), ne_eqb k 45 (search rules), ne_eqb k 36 (search rules))))
