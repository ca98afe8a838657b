-- How much of each kind a run does (this project's own).
use Rattle.std.specs.Prelude.{ℕ, ◌+◌, Bool, true, false, not, if◌then◌else◌, List, [], ◌∷◌, Option, Some, None}
use Rattle.posix_model.specs.Runs.{Rules, Moment, make, moved}
use Rattle.posix_model.specs.Trace.{is_last}
use Rattle.posix_model.specs.declared.Move.{Move}
use Rattle.posix_model.specs.declared.Move.TheVariants.{Instr, Arrive, Deliver}
use Rattle.posix_model.specs.declared.Head.{Head}
use Rattle.posix_model.specs.declared.Head.TheVariants.{Call, ArriveSig, ArriveTick, ArriveData, ArriveEof, Deliver as DeliverHead, Accept, Interrupt, Cancel}
use Rattle.trace_text.specs.declared.tally.Counts.{Counts}

-- nothing was done
abbrev pub no_counts : Counts
no_counts = record { instructions = 0; calls = 0; arrivals = 0; deliveries = 0; switches = 0 }

-- two runs together
abbrev pub plus : Counts → Counts → Counts
plus c d = record {
  instructions = c.instructions + d.instructions;
  calls = c.calls + d.calls;
  arrivals = c.arrivals + d.arrivals;
  deliveries = c.deliveries + d.deliveries;
  switches = c.switches + d.switches;
}

-- one, where it is so
abbrev pub one_if : Bool → ℕ
one_if b = if b then 1 else 0

-- a main line is that of a call
abbrev pub is_call : Head → Bool
is_call (Call number args reply) = true
is_call head = false

-- a main line is that of an arrival
abbrev pub is_arrival : Head → Bool
is_arrival (ArriveSig first count sig) = true
is_arrival (ArriveTick first) = true
is_arrival (ArriveData first len) = true
is_arrival (ArriveEof first) = true
is_arrival head = false

-- a main line is that of a delivery
abbrev pub is_delivery : Head → Bool
is_delivery (DeliverHead to sig count) = true
is_delivery (Accept to sig count) = true
is_delivery (Interrupt to sig count) = true
is_delivery (Cancel to) = true
is_delivery head = false

-- a line names the thread that goes on: by the threads of the last instruction before and after a move
abbrev pub is_switch : Option ℕ → Option ℕ → Bool
is_switch before None = false
is_switch before (Some t) = not (is_last t before)

-- what one move adds
abbrev pub counted : Rules → Moment → Move → Counts
counted rules now (Instr tid) = record {
  instructions = 1;
  calls = one_if (is_call (make rules now.state (Instr tid)).report.head);
  arrivals = 0;
  deliveries = 0;
  switches = one_if (is_switch now.last (moved rules now (Instr tid)).last);
}
counted rules now (Arrive first count at) = record no_counts { arrivals = 1 }
counted rules now Deliver = record no_counts { deliveries = 1 }

-- what a list of moves did
abbrev pub counts : Rules → Moment → List Move → Counts
counts rules now [] = no_counts
counts rules now (move ∷ moves) = plus (counted rules now move) (counts rules (moved rules now move) moves)

-- what was told of a run: all but the instructions
abbrev pub told_of : Counts → Counts
told_of c = record c { instructions = 0 }

-- what one move adds to it, by the threads of the last instruction before and after it and its main line
abbrev pub told_by : Option ℕ → Option ℕ → Head → Counts
told_by before after head = record {
  instructions = 0;
  calls = one_if (is_call head);
  arrivals = one_if (is_arrival head);
  deliveries = one_if (is_delivery head);
  switches = one_if (is_switch before after);
}
