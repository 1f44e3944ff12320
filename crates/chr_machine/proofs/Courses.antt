-- What the changes of a course come to.
use Rattle.std.proofs.Common.{◌≡◌, ◌∙◌, List, ap, sym}
use Rattle.std.specs.Prelude.{ℕ, Option, Some}
use Rattle.chr_semantics.specs.Trace.{Line}
use Rattle.chr_rules.specs.ProgramView.{names_of, rules_of}
use Rattle.chr_base.specs.BaseView.{base_view, program_of}
use Rattle.chr_base.specs.Model.{BaseModel}
use Rattle.chr_base.specs.declared.base.Base.{Base}
use Rattle.chr_machine.specs.Model.{CourseModel, course_of, line_in, logged}
use Rattle.chr_machine.specs.declared.course.Course.{Course}

-- a line that was drafted is kept, over another base
pub logged_from : (c mid new : CourseModel) (b : BaseModel) (draft : Option (List ℕ)) (l : Line) → mid ≡ record c { base = b } → draft ≡ Some (line_in c l) → ((k : Line) → draft ≡ Some (line_in mid k) → new ≡ logged mid.base k mid) → new ≡ logged b l c
logged_from c mid new b draft l is drafted log = log l (drafted ∙ ap (λ (x : CourseModel). Some (line_in x l)) (sym is)) ∙ ap (λ (x : CourseModel). logged x.base l x) is

module _ {A : Type 0} (c : Course A) (b : Base A) where
  -- the course with another base
  abbrev pub over : CourseModel
  over = record {
    names = names_of (program_of b);
    rules = rules_of (program_of b);
    var_names = c.var_names;
    base = base_view b;
    steps = c.steps;
    lines = c.lines.made;
  }

  -- which is of the same program
  pub over_is : (m : BaseModel) → program_of b ≡ program_of c.base → base_view b ≡ m → over ≡ record (course_of c) { base = m }
  over_is m program base = λ k. record {
    names = names_of (program k);
    rules = rules_of (program k);
    var_names = c.var_names;
    base = base k;
    steps = c.steps;
    lines = c.lines.made;
  }
