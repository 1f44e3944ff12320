-- Tests of a guard, as the definitions have them.
use Rattle.chr_semantics.specs.Tree.{Tree}
use Rattle.chr_semantics.specs.Program as semantics
use Rattle.chr_semantics.specs.Program.{identical, not_unifiable, compares, is_integer, is_ground, less, greater, at_most, at_least, equals, differs}
use Rattle.chr_semantics.specs.Verdict as verdict
use Rattle.chr_semantics.specs.Verdict.{never, undecided, untrue}
use Rattle.chr_term.specs.TermView.{view}
use Rattle.chr_bind.specs.declared.guard.Instance.{Instance}
use Rattle.chr_bind.specs.declared.guard.Instance.TheVariants.{Lent, Made}
use Rattle.chr_bind.specs.declared.guard.lack.Lack.{Lack}
use Rattle.chr_bind.specs.declared.guard.lack.Lack.TheVariants.{Never, Undecided, Untrue}
use Rattle.chr_bind.specs.declared.guard.Test.{Test}
use Rattle.chr_bind.specs.declared.guard.Test.TheVariants.{Identical, NotUnifiable, Less, Greater, AtMost, AtLeast, Equals, Differs, Integer, Ground}

abbrev pub test_view : {A : Type 0} → Test A → semantics.Test
test_view (Identical t u) = identical (view t) (view u)
test_view (NotUnifiable t u) = not_unifiable (view t) (view u)
test_view (Less t u) = compares less (view t) (view u)
test_view (Greater t u) = compares greater (view t) (view u)
test_view (AtMost t u) = compares at_most (view t) (view u)
test_view (AtLeast t u) = compares at_least (view t) (view u)
test_view (Equals t u) = compares equals (view t) (view u)
test_view (Differs t u) = compares differs (view t) (view u)
test_view (Integer t) = is_integer (view t)
test_view (Ground t) = is_ground (view t)

-- the test over other terms, of which one of a single term takes the first
abbrev pub over : semantics.Test → Tree → Tree → semantics.Test
over (identical s t) u v = identical u v
over (not_unifiable s t) u v = not_unifiable u v
over (compares c s t) u v = compares c u v
over (is_integer t) u v = is_integer u
over (is_ground t) u v = is_ground u

-- why a test is not entailed
abbrev pub lack_view : Lack → verdict.Lack
lack_view Untrue = untrue
lack_view Undecided = undecided
lack_view Never = never

-- the term that is lent, or was made
abbrev pub instance_view : {A : Type 0} → Instance A → Tree
instance_view (Lent t) = view t.now
instance_view (Made t) = view t
