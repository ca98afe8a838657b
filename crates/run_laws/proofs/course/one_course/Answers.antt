use Rattle.run_laws.proofs.CourseLemmas.{one_course}
use Rattle.run_laws.proofs.course.one_course.Goals as goal

pub returns : goal.returns
returns c = one_course
