-- What moves count.
use Rattle.std.proofs.Common.{◌≡◌, ◌∙◌, ap, sym, refl, ℕ, ◌+◌, ◌*◌, ◌≤◌, Bool, true, false, List, [], ◌∷◌, ◌++◌, length, Option, None, Some, add-zero, zero-add, add_assoc, arith}
use Rattle.std.proofs.lemmas.Bool.{eq-eqb}
use Rattle.thread_base.specs.declared.Place.{Place}
use Rattle.posix_model.specs.Runs.{Rules, Moment, make, moved, after}
use Rattle.posix_model.specs.declared.Head.{Head}
use Rattle.posix_model.specs.declared.Head.TheVariants.{Quiet}
use Rattle.posix_model.specs.declared.Move.{Move}
use Rattle.posix_model.specs.declared.Move.TheVariants.{Instr, Arrive, Deliver}
use Rattle.trace_text.specs.Counting.{no_counts, plus, one_if, is_call, is_arrival, is_delivery, is_switch, counted, counts, told_of, told_by}
use Rattle.trace_text.specs.declared.tally.Counts.{Counts}

-- counts are added up
counts_are : (c d : Counts) → c.instructions ≡ d.instructions → c.calls ≡ d.calls → c.arrivals ≡ d.arrivals → c.deliveries ≡ d.deliveries → c.switches ≡ d.switches → c ≡ d
counts_are c d e f g h k = λ i. record { instructions = e i; calls = f i; arrivals = g i; deliveries = h i; switches = k i }

pub plus_none : (c : Counts) → plus c no_counts ≡ c
plus_none c = counts_are (plus c no_counts) c (add-zero c.instructions) (add-zero c.calls) (add-zero c.arrivals) (add-zero c.deliveries) (add-zero c.switches)

pub none_plus : (c : Counts) → plus no_counts c ≡ c
none_plus c = counts_are (plus no_counts c) c (zero-add c.instructions) (zero-add c.calls) (zero-add c.arrivals) (zero-add c.deliveries) (zero-add c.switches)

plus_plus : (x y z : Counts) → plus (plus x y) z ≡ plus x (plus y z)
plus_plus x y z =
    counts_are (plus (plus x y) z) (plus x (plus y z)) (add_assoc x.instructions y.instructions z.instructions) (add_assoc x.calls y.calls z.calls)
    (add_assoc x.arrivals y.arrivals z.arrivals) (add_assoc x.deliveries y.deliveries z.deliveries) (add_assoc x.switches y.switches z.switches)

pub counts-append : (rules : Rules) (now : Moment) (moves others : List Move) → counts rules now (moves ++ others) ≡ plus (counts rules now moves) (counts rules (after rules now moves) others)
counts-append rules now [] others = sym (none_plus (counts rules now others))
counts-append rules now (m ∷ ms) others =
    ap (plus (counted rules now m)) (counts-append rules (moved rules now m) ms others)
    ∙ sym (plus_plus (counted rules now m) (counts rules (moved rules now m) ms) (counts rules (after rules (moved rules now m) ms) others))

-- a main line of a thread's instruction is that of no arrival and of no delivery
pub record IsPlainMain (head : Head) : Type 0 where
  pub no_arrival : is_arrival head ≡ false
  pub no_delivery : is_delivery head ≡ false

-- what an instruction adds to what is told, and a delivery
pub instruction_counts : (rules : Rules) (now : Moment) (t : ℕ) (last : Option ℕ) (head : Head) → last ≡ Some t → (make rules now.state (Instr t)).report.head ≡ head → IsPlainMain head
    → told_of (counted rules now (Instr t)) ≡ told_by now.last last head
instruction_counts rules now t last head by is other = λ i. record {
  instructions = 0;
  calls = one_if (is_call (is i));
  arrivals = one_if (sym other.no_arrival i);
  deliveries = one_if (sym other.no_delivery i);
  switches = one_if (is_switch now.last (sym by i));
}

same_thread : (last : Option ℕ) → is_switch last last ≡ false
same_thread None = refl
same_thread (Some t) = rw (eq-eqb t t refl) refl

-- a main line of a delivery
pub record IsDeliveryMain (head : Head) : Type 0 where
  pub delivery : is_delivery head ≡ true
  pub no_call : is_call head ≡ false
  pub no_arrival : is_arrival head ≡ false

pub delivery_counts : (rules : Rules) (now : Moment) (last : Option ℕ) (head : Head) → last ≡ now.last → IsDeliveryMain head → told_of (counted rules now Deliver) ≡ told_by now.last last head
delivery_counts rules now last head by is = λ i. record {
  instructions = 0;
  calls = one_if (sym is.no_call i);
  arrivals = one_if (sym is.no_arrival i);
  deliveries = one_if (sym is.delivery i);
  switches = one_if (sym (ap (is_switch now.last) by ∙ same_thread now.last) i);
}

-- a main line of an arrival
pub record IsArrivalMain (head : Head) : Type 0 where
  pub arrival : is_arrival head ≡ true
  pub no_call : is_call head ≡ false
  pub no_delivery : is_delivery head ≡ false

pub arrival_counts : (rules : Rules) (now : Moment) (last : Option ℕ) (first count : ℕ) (at : Place) (head : Head) → last ≡ now.last → IsArrivalMain head
    → told_of (counted rules now (Arrive first count at)) ≡ told_by now.last last head
arrival_counts rules now last first count at head by is = λ i. record {
  instructions = 0;
  calls = one_if (sym is.no_call i);
  arrivals = one_if (sym is.arrival i);
  deliveries = one_if (sym is.no_delivery i);
  switches = one_if (sym (ap (is_switch now.last) by ∙ same_thread now.last) i);
}

-- a move without a main line and without a switch tells nothing
pub told_nothing : (before after : Option ℕ) → after ≡ before → told_by before after Quiet ≡ no_counts
told_nothing before after same = ap (λ (b : Bool). record no_counts { switches = one_if b }) (ap (is_switch before) same ∙ same_thread before)

-- each instruction is counted
one_instruction : (rules : Rules) (now : Moment) (m : Move) → (counted rules now m).instructions + now.instructions ≡ (moved rules now m).instructions
one_instruction rules now (Instr tid) = omega arith
one_instruction rules now (Arrive first count at) = omega arith
one_instruction rules now Deliver = omega arith

pub all_instructions : (rules : Rules) (now : Moment) (moves : List Move) → (counts rules now moves).instructions + now.instructions ≡ (after rules now moves).instructions
all_instructions rules now [] = omega arith
all_instructions rules now (m ∷ ms) =
    let rest = all_instructions rules (moved rules now m) ms in
    let one = one_instruction rules now m in
    omega (arith, rest, one)

-- three things are told of a move at most
abbrev pub things : Counts → ℕ
things c = c.calls + c.arrivals + c.deliveries + c.switches

one_at_most : (b : Bool) → one_if b ≤ 1
one_at_most true = omega arith
one_at_most false = omega arith

three_each : (rules : Rules) (now : Moment) (m : Move) → things (counted rules now m) ≤ 3
three_each rules now (Instr t) =
    let call = one_at_most (is_call (make rules now.state (Instr t)).report.head) in
    let switch = one_at_most (is_switch now.last (moved rules now (Instr t)).last) in
    omega (arith, call, switch)
three_each rules now (Arrive first count at) = omega arith
three_each rules now Deliver = omega arith

pub few : (rules : Rules) (now : Moment) (moves : List Move) → things (counts rules now moves) ≤ 3 * length moves
few rules now [] = omega arith
few rules now (m ∷ ms) =
    let one = three_each rules now m in
    let rest = few rules (moved rules now m) ms in
    omega (arith, one, rest)
