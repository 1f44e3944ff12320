use Rattle.chr_check.proofs.queries.query_mistakes.Goals as goal

pub returns-in-None-clause-accepted : goal.returns-in-None-clause-accepted
returns-in-None-clause-accepted g c d a empty = rw c.in-None.is at (c.in_ok-query_refusal.ensures d a)

pub returns-clause-refused : goal.returns-clause-refused
returns-clause-refused g c d a some = absurd ((rw c.in-Some.is at (c.in_ok-query_refusal.ensures d a)) some)
