use Rattle.std.proofs.Common.{◌∙◌, ap, sym, option_map}
use Rattle.command_words.specs.Accepted.{settings_of}
use Rattle.replay_cli.specs.Requests.{request_of}
use Rattle.replay_cli.proofs.WordLemmas.{Fits, request_fits}
use Rattle.replay_cli.proofs.request.read_request.Goals as goal

-- the numbers of the request are within their limits
its_fit : (c : goal.In-Some-request_in) → Fits c.in-Some-request_in.request.settings.budget c.in-Some-request_in.request.settings.quantum c.in-Some-request_in.request.memory
its_fit c =
    request_fits c.args.words.now (settings_of c.in-Some.options) (request_of c.in-Some-request_in.request)
    (ap (option_map settings_of) (sym c.in-Some.is) ∙ c.in-Ok.ensures)
    (ap (option_map request_of) (sym c.in-Some-request_in.is) ∙ c.request_in.ensures)

pub returns-in-Some-request_in-clause-budget : goal.returns-in-Some-request_in-clause-budget
returns-in-Some-request_in-clause-budget c = (its_fit c).budget_fits

pub returns-in-Some-request_in-clause-quantum : goal.returns-in-Some-request_in-clause-quantum
returns-in-Some-request_in-clause-quantum c = (its_fit c).quantum_fits

pub returns-in-Some-request_in-clause-memory : goal.returns-in-Some-request_in-clause-memory
returns-in-Some-request_in-clause-memory c = (its_fit c).memory_fits
