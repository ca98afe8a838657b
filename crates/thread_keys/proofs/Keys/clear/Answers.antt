use Rattle.std.proofs.Common.{◌≡◌, ◌∙◌, ◌<◌, ◌≤◌, refl, ap, rules, set, Some, None, length, get_or, drop}
use Rattle.std.proofs.lemmas.List.{take_at, set-get_or}
use Rattle.thread_base.specs.Maps.{put}
use Rattle.thread_keys.specs.KeyTable.{destructor_of, value_of}
use Rattle.thread_keys.proofs.KeyLemmas.{cleared_first, cleared_key, cleared_no_key, cleared_all, destructor_kept}
use Rattle.thread_keys.proofs.Keys.clear.Goals as goal
use Rattle.thread_keys.proofs.Keys.clear.Goals.{in-Some, in_default}

pub loop-slot-init : goal.loop-slot-init
loop-slot-init c = record {
  destructors = refl;
  values = cleared_first (value_of c.deref_mut-slot-items.result.now) c.args.t;
}

pub loop-slot-preserved : goal.loop-slot-preserved
loop-slot-preserved c =
    let keys = c.loop-slot.slot-items in
    let n = c.loop-slot.slot-index in
    let first = c.deref_mut-slot-items.result.now in
    let within : n < length keys = search rules in
    elim c.match-slot.branch [
      | in-Some w ↦
          let is : get_or keys n None ≡ Some w.in-Some.key = search rules in
          let now : c.match-slot.slot-items ≡ set keys n (Some w.set.new.self) = search rules in
          record {
            destructors = ap destructor_of now ∙ destructor_kept keys n w.in-Some.key w.set.new.self within is w.set.ensures.destructor ∙ c.loop-slot.invariant.destructors;
            values = ap value_of now ∙ cleared_key keys (value_of first) c.args.t n w.in-Some.key w.set.new.self within is w.set.ensures.values c.loop-slot.invariant.values;
          }
      | in_default w ↦
          let is : get_or keys n None ≡ None = search rules in
          let now : c.match-slot.slot-items ≡ keys = w.slot-items-is ∙ set-get_or keys n None in
          record {
            destructors = ap destructor_of now ∙ c.loop-slot.invariant.destructors;
            values = ap value_of now ∙ cleared_no_key keys (value_of first) c.args.t n is c.loop-slot.invariant.values;
          }
    ]

pub returns-clause-values : goal.returns-clause-values
returns-clause-values c =
    let keys = c.loop-slot.slot-items in
    let first = c.deref_mut-slot-items.result.now in
    let all : length keys ≡ c.self.inside.keys.len = search rules in
    let end : length first ≤ c.loop-slot.slot-index = search rules in
    let begun : first ≡ c.args.self.now = search rules in
    ap value_of (take_at keys (drop (length keys) c.self.inside.keys.items) c.self.inside.keys.len all)
    ∙ c.loop-slot.invariant.values
    ∙ cleared_all first c.args.t c.loop-slot.slot-index end
    ∙ ap (λ v. put (value_of v) c.args.t (λ k. 0)) begun

pub returns-clause-destructors : goal.returns-clause-destructors
returns-clause-destructors c =
    let keys = c.loop-slot.slot-items in
    let first = c.deref_mut-slot-items.result.now in
    let all : length keys ≡ c.self.inside.keys.len = search rules in
    let begun : first ≡ c.args.self.now = search rules in
    ap destructor_of (take_at keys (drop (length keys) c.self.inside.keys.items) c.self.inside.keys.len all)
    ∙ c.loop-slot.invariant.destructors
    ∙ ap destructor_of begun
