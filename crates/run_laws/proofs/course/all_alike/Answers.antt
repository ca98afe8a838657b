use Rattle.run_laws.proofs.CourseLemmas.{all_alike}
use Rattle.run_laws.proofs.course.all_alike.Goals as goal

pub returns : goal.returns
returns c = all_alike
