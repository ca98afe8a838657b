use Rattle.std.proofs.Common.{◌≡◌, ◌∙◌, ap, sym, subst, ℕ, ◌-◌, Bool, Some}
use Rattle.std.specs.Prelude.{if◌then◌else◌}
use Rattle.std.proofs.lemmas.Bool.{eq-eqb, ne_eqb}
use Rattle.thread_base.specs.Holders.{count_of}
use Rattle.thread_base.specs.declared.mutex.Holder.TheVariants.{Held}
use Rattle.posix_model.specs.State.{State}
use Rattle.posix_model.specs.Changes.{Outcome, begun}
use Rattle.thread_base.specs.Objects.{holder_in}
use Rattle.posix_model.specs.Mutexes.{set_mutex, best_waiter, hand_off}
use Rattle.posix_model.specs.Replies.{values}
use Rattle.kernel_state.specs.View.{view}
use Rattle.kernel_state.specs.Begun.{HasNotedSome}
use Rattle.calls_sync.proofs.mutexes.release.Goals as goal

pub returns-then-count-eq1 : goal.returns-then-count-eq1
returns-then-count-eq1 g c =
    let s : State = view g.R.Ready.order c.args.k.now.tables in
    let t = c.args.t in
    let m = c.args.m in
    λ mutex is.
    let count : c.args.count ≡ count_of mutex.holder = c.requires.count ∙ ap (λ o. count_of (holder_in o)) is in
    let handed : Outcome = hand_off (begun s) m mutex (best_waiter s mutex) in
    let less : Outcome = begun (set_mutex s m (Some (record mutex { holder = Held t (count_of mutex.holder - 1) }))) in
    subst (λ (b : Bool). HasNotedSome g.R.Ready.order c.args.k.now c.hand_off_and_answer.new.k (values (if b then handed else less) t 0 0).outcome)
    (sym (eq-eqb (count_of mutex.holder) 1 (sym count ∙ c.if-count-eq1.true))) (c.hand_off_and_answer.ensures mutex is)

pub returns-else-count-eq1 : goal.returns-else-count-eq1
returns-else-count-eq1 g c =
    let s : State = view g.R.Ready.order c.args.k.now.tables in
    let t = c.args.t in
    let m = c.args.m in
    λ mutex is.
    let count : c.args.count ≡ count_of mutex.holder = c.requires.count ∙ ap (λ o. count_of (holder_in o)) is in
    let handed : Outcome = hand_off (begun s) m mutex (best_waiter s mutex) in
    let less : ℕ → Outcome = λ n. begun (set_mutex s m (Some (record mutex { holder = Held t (n - 1) }))) in
    subst (λ (b : Bool). HasNotedSome g.R.Ready.order c.args.k.now c.hold.new.k (values (if b then handed else less (count_of mutex.holder)) t 0 0).outcome)
    (sym (ne_eqb (count_of mutex.holder) 1 (λ e. c.if-count-eq1.false (count ∙ e))))
    (subst (λ (n : ℕ). HasNotedSome g.R.Ready.order c.args.k.now c.hold.new.k (values (less n) t 0 0).outcome) count (c.hold.ensures mutex is))
