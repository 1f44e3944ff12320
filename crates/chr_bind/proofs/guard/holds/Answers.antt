use Rattle.chr_bind.proofs.guard.holds.Goals as goal

pub returns-in-Identical : goal.returns-in-Identical
returns-in-Identical g c = rw c.in-Identical.is c.are_identical.ensures

pub returns-in-NotUnifiable : goal.returns-in-NotUnifiable
returns-in-NotUnifiable g c = rw c.in-NotUnifiable.is c.are_not_unifiable.ensures

pub returns-in-Less : goal.returns-in-Less
returns-in-Less g c = rw c.in-Less.is c.compares.ensures

pub returns-in-Greater : goal.returns-in-Greater
returns-in-Greater g c = rw c.in-Greater.is c.compares-in-Greater.ensures

pub returns-in-AtMost : goal.returns-in-AtMost
returns-in-AtMost g c = rw c.in-AtMost.is c.compares-in-AtMost.ensures

pub returns-in-AtLeast : goal.returns-in-AtLeast
returns-in-AtLeast g c = rw c.in-AtLeast.is c.compares-in-AtLeast.ensures

pub returns-in-Equals : goal.returns-in-Equals
returns-in-Equals g c = rw c.in-Equals.is c.compares-in-Equals.ensures

pub returns-in-Differs : goal.returns-in-Differs
returns-in-Differs g c = rw c.in-Differs.is c.compares-in-Differs.ensures

pub returns-in-Integer : goal.returns-in-Integer
returns-in-Integer g c = rw c.in-Integer.is c.is_integer_under.ensures

pub returns-in-Ground : goal.returns-in-Ground
returns-in-Ground g c = rw c.in-Ground.is c.is_ground_under.ensures
