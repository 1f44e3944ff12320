use Rattle.std.proofs.Common.{◌∙◌, List, ap, refl}
use Rattle.chr_map.proofs.Clauses.{err_more, ok_more}
use Rattle.chr_store.specs.declared.fired.Fired.{Fired}
use Rattle.chr_find.specs.Firings.{firing, is_in}
use Rattle.chr_find.proofs.FiringMaps.{in_put, one_more}
use Rattle.chr_find.proofs.firings.Firings.enter.Goals as goal

pub returns-clause-ok : goal.returns-clause-ok
returns-clause-ok g c =
    ok_more _ _ c.put.result c.put.result refl c.put.ensures.ok
    (λ e r ids. ap (λ (es : List (Fired × Unit {0})). is_in es (firing r ids)) e ∙ (in_put c.args.self.now.all c.args.fired (firing r ids) ∙ one_more c.args.fired r ids (is_in c.args.self.now.all (firing r ids))))

pub returns-clause-err : goal.returns-clause-err
returns-clause-err g c = err_more _ _ c.put.result c.put.result refl c.put.ensures.err (λ e r ids. ap (λ (es : List (Fired × Unit {0})). is_in es (firing r ids)) e)
