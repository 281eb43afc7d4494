-- DEMAND 3 holds: `demand_3` proves the record of specs/Demand.
--     print_fixed    the print of an accepted text is accepted, has the same definitions, and is its own print
--     print_alike    two texts print alike exactly when their definitions agree
--     demand_3       all of it, for every text, indent and list of calls
use mathlib.Core.Path.{◌≡◌, refl, sym, ap, ◌∙◌}
use mathlib.Core.List.{List, []}
use Prim.Native.Nat.{ℕ}
use Rattle.token.specs.Breaks.{Bytes}
use Rattle.lexer.specs.Outcome as O
use Rattle.lexer.specs.Location.{opening}
use Rattle.lexer.specs.Tokens.{tokens}
use Rattle.ast.specs.Ast.{Definition}
use Rattle.ast.specs.Lists.{maps}
use Rattle.ast.specs.Drop.{drop_params}
use Rattle.ast.proofs.Forget.{nowhere, bares, forget}
use Rattle.ast.proofs.Drops.{drop_forget, drop_twice}
use Rattle.parser.specs.Steps.{pos}
use Rattle.parser.specs.Definitions.{parse_document}
use Rattle.parser.specs.Read.{outcome}
use Rattle.writer.specs.Print.{printed}
use Rattle.writer.proofs.Places.{print_forget, print_drop}
use Rattle.demand.specs.Demand.{Premise, Fixed, Alike, Demand3}
use Rattle.demand.proofs.Printed.{well_read, print_reads, print_again, results}
use Rattle.demand.proofs.Agreement.{agree_of_same, same_of_agree}
use Rattle.demand.proofs.Steps.{accepts_reads, reads_accepts, stays_calls}

-- what the same tree but for places is, once the drop is made in both
dropped_same : (xs ds : List Definition) → forget xs ≡ forget (maps drop_params ds) → forget (maps drop_params xs) ≡ forget (maps drop_params ds)
dropped_same xs ds e = drop_forget xs ∙ ap (maps drop_params) e ∙ sym (drop_forget (maps drop_params ds)) ∙ ap forget (drop_twice ds)

printed_same : (indent : ℕ) (xs ds : List Definition) → forget xs ≡ forget (maps drop_params ds) → printed indent xs ≡ printed indent ds
printed_same indent xs ds e =
    sym (print_forget indent xs) ∙ ap (printed indent) e ∙ print_forget indent (maps drop_params ds) ∙ print_drop indent ds

pub print_fixed : (indent : ℕ) (t : List ℕ) (ds : List Definition) → Premise indent t ds → Fixed indent ds
print_fixed indent t ds h =
    let b = accepts_reads indent t ds h.accepted in
    let a = print_again t h.bytes ds b.reads indent h.fits in
    record {
      definitions = a.found;
      accepted = reads_accepts indent (printed indent ds) a.found a.taken b.narrow;
      agree = agree_of_same a.found ds (dropped_same a.found ds a.same_tree);
      same_bytes = printed_same indent a.found ds a.same_tree;
    }

module _ (indent : ℕ) (t u : List ℕ) (ds es : List Definition) (bt : Bytes t) (bu : Bytes u) (rt : outcome t ≡ O.accepted ds) (ru : outcome u ≡ O.accepted es) where
  from_print : printed indent ds ≡ printed indent es → forget (maps drop_params ds) ≡ forget (maps drop_params es)
  unfolding results
  from_print e =
      ap results
      (sym (print_reads t bt ds rt indent) ∙ ap (λ (p : List ℕ). parse_document (pos nowhere [] (bares (tokens p opening)))) e
      ∙ print_reads u bu es ru indent)

  to_print : forget (maps drop_params ds) ≡ forget (maps drop_params es) → printed indent ds ≡ printed indent es
  to_print e = sym (printed_same indent (maps drop_params es) ds (sym e)) ∙ print_drop indent es

  pub print_alike : Alike indent ds es
  print_alike =
      record {
        from_print = λ e. agree_of_same ds es (from_print e);
        to_print = λ a. to_print (same_of_agree (well_read t bt ds rt) (well_read u bu es ru) a);
      }

pub demand_3 : Demand3
demand_3 =
    record {
      fixed = print_fixed;
      stays =
          λ indent t ds h cs.
          let f = print_fixed indent t ds h in
          stays_calls indent t ds f.definitions h.accepted f.accepted f.same_bytes refl f.agree cs;
      alike = print_alike;
    }
