-- Two files agree exactly when their definitions are the same without places, and without what parameters drop.
--     agree_of_same   the same trees agree
--     same_of_agree   trees that agree are the same, if they are well formed
use mathlib.Core.Path.{◌≡◌, sym, ap, ◌∙◌}
use mathlib.Core.List.{List}
use Rattle.ast.specs.Ast.{Definition}
use Rattle.ast.specs.Lists.{maps, All}
use Rattle.ast.specs.Drop.{drop_params}
use Rattle.ast.specs.Records.{forest}
use Rattle.ast.proofs.Forget.{forget}
use Rattle.parser.proofs.Wf.{WfDefinition}
use Rattle.writer.proofs.Toks.{Good}
use Rattle.demand.specs.Agree.{shapes_of, Agree}
use Rattle.demand.proofs.Shapes.{shapes_forget}
use Rattle.demand.proofs.Rebuild.{rebuild}
use Rattle.demand.proofs.Rebuilt.{rebuild_back}

pub agree_of_same : (ds es : List Definition) → forget (maps drop_params ds) ≡ forget (maps drop_params es) → Agree ds es
agree_of_same ds es e =
    sym (shapes_forget (maps drop_params ds)) ∙ ap (λ (xs : List Definition). shapes_of (forest xs)) e ∙ shapes_forget (maps drop_params es)

pub same_of_agree : {ds es : List Definition} → All (WfDefinition Good) ds → All (WfDefinition Good) es → Agree ds es
    → forget (maps drop_params ds) ≡ forget (maps drop_params es)
same_of_agree wd we e = sym (rebuild_back wd) ∙ ap rebuild e ∙ rebuild_back we
