use Rattle.std.proofs.Common.{◌≡◌, ◌∙◌, ◌+◌, ap, sym, subst, arith, Some, true, false}
use Rattle.std.specs.Prelude.{nat_le}
use Rattle.posix_model.specs.State.{State, Thread}
use Rattle.posix_model.specs.Arrivals.{has_turn}
use Rattle.posix_model.specs.Changes.{begun}
use Rattle.posix_model.specs.Scheduling.{chosen}
use Rattle.posix_model.specs.Threads.{exists}
use Rattle.posix_model.specs.declared.Settings.{Settings}
use Rattle.kernel_state.specs.View.{view}
use Rattle.kernel_state.specs.Begun.{HasNotedSome, NotesMore}
use Rattle.kernel_state.specs.Changing.{IsListed}
use Rattle.kernel_state.specs.declared.tables.Tables.{Tables}
use Rattle.kernel_state.proofs.KernelLemmas.{rests, chosen_listed}
use Rattle.dispatcher.specs.Ticking.{later}
use Rattle.dispatcher.proofs.TickNotes.{charged_last, charged_more}
use Rattle.dispatcher.proofs.ticking.charge.Goals as goal

pub known-row-requires : goal.known-row-requires
known-row-requires g c =
    let order = g.R.Ready.order in
    let k = c.args.k.now in
    let good = (rests order g.R.Ready.prio k c.tables.ensures.sound c.requires.idle).0 in
    let listed : IsListed (view order k.tables) c.in-Some.t = chosen_listed (view order k.tables) c.in-Some.t good (sym c.chosen.ensures ∙ c.in-Some.is) in
    subst (λ (x : Tables _). exists (view order x) c.in-Some.t ≡ true) (sym c.tables.ensures.tables) listed.0

pub returns-then-is_spent-clause-noted : goal.returns-then-is_spent-clause-noted
returns-then-is_spent-clause-noted g c = λ first noted.
    let order = g.R.Ready.order in
    let k = c.args.k.now in
    let s : State = view order k.tables in
    let t = c.in-Some.t in
    let quantum = k.settings.quantum in
    let is : chosen s ≡ Some t = sym c.chosen.ensures ∙ c.in-Some.is in
    let good = (rests order g.R.Ready.prio k c.tables.ensures.sound c.requires.idle).0 in
    let listed : IsListed s t = chosen_listed s t good is in
    let known = c.known-row.ensures ∙ ap (λ (x : Tables _). (view order x).threads t) c.tables.ensures.tables in
    let turn : has_turn (s.threads t).policy ≡ true = sym (ap (λ (x : Thread). has_turn x.policy) known) ∙ sym c.has_turn.ensures ∙ c.if-not-has_turn.false in
    let used = ap (λ (x : Thread). x.used) known in
    let spent : nat_le quantum ((s.threads t).used + 1) ≡ true =
    sym (ap (λ n. nat_le quantum (n + 1)) used) ∙ ap (λ (x : Settings). nat_le x.quantum (c.known-row.result.row.used + 1)) (sym c.settings.ensures) ∙ sym c.is_spent.ensures.spent ∙ c.if-is_spent.true in
    subst (λ (r : State). HasNotedSome order first c.note_more.new.self (begun r)) (charged_last quantum s t is turn spent)
    (subst (NotesMore order k c.note_more.new.self) c.of_thread.ensures c.note_more.ensures.noted first (begun (later s)) noted.so_far listed)

pub returns-else-is_spent-clause-noted : goal.returns-else-is_spent-clause-noted
returns-else-is_spent-clause-noted g c = λ first noted.
    let order = g.R.Ready.order in
    let k = c.args.k.now in
    let s : State = view order k.tables in
    let t = c.in-Some.t in
    let quantum = k.settings.quantum in
    let is : chosen s ≡ Some t = sym c.chosen.ensures ∙ c.in-Some.is in
    let good = (rests order g.R.Ready.prio k c.tables.ensures.sound c.requires.idle).0 in
    let listed : IsListed s t = chosen_listed s t good is in
    let known = c.known-row.ensures ∙ ap (λ (x : Tables _). (view order x).threads t) c.tables.ensures.tables in
    let turn : has_turn (s.threads t).policy ≡ true = sym (ap (λ (x : Thread). has_turn x.policy) known) ∙ sym c.has_turn.ensures ∙ c.if-not-has_turn.false in
    let used = ap (λ (x : Thread). x.used) known in
    let spent : nat_le quantum ((s.threads t).used + 1) ≡ false =
    sym (ap (λ n. nat_le quantum (n + 1)) used) ∙ ap (λ (x : Settings). nat_le x.quantum (c.known-row.result.row.used + 1)) (sym c.settings.ensures) ∙ sym c.is_spent.ensures.spent ∙ c.if-is_spent.false in
    subst (λ (r : State). HasNotedSome order first c.note_more-else-is_spent.new.self (begun r)) (charged_more quantum s t is turn spent)
    (subst (NotesMore order k c.note_more-else-is_spent.new.self) c.of_thread-else-is_spent.ensures c.note_more-else-is_spent.ensures.noted first (begun (later s)) noted.so_far (listed.0, (let fits = c.is_spent.ensures.fits c.if-is_spent.false in omega (arith, fits, used))))
